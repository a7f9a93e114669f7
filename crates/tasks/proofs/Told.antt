-- The reply to a task tells which of its members starved.
use Rattle.std.proofs.Common.{◌≡◌, ℕ, List}
use Rattle.tasks.proofs.MembersTold.{told-again, starved-again}
use Rattle.tasks.specs.Starved.{starved_in}
use Rattle.keyspace.specs.Map.{Map}
use Rattle.resp.specs.Content.{Content}
use Rattle.tasks.specs.Tasks.{Task, deed_effect, deed_of}

-- what was done is what the deed does that the reply tells
pub told_again : (task : Task) (starved : List ℕ) (m : Map)
    → deed_effect (deed_of task (deed_effect (task, starved) m).1) m ≡ deed_effect (task, starved) m
told_again task starved m = told-again task starved m

-- and where members are left out of which a reply told, the new reply tells of the same
pub starved_again : (task : Task) (told : Content) (m : Map)
    → starved_in task (deed_effect (deed_of task told) m).1 ≡ starved_in task told
starved_again task told m = starved-again task told m
