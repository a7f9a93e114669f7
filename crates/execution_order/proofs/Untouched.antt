-- Requests that share no group can change places, since their tasks address groups and share none.
use Rattle.std.proofs.Common.{◌≡◌, ℕ, true, ap, ◌∙◌}
use Rattle.groups.specs.GroupSet.{has}
use Rattle.placement.specs.Layout.{Layout}
use Rattle.tasks.proofs.Apart.{deeds_answer, deeds_leave}
use Rattle.tasks.specs.Tasks.{task_groups}
use Rattle.execution_order.specs.Entries.{Entry, Touch, IsAddressed, deed}
use Rattle.execution_order.specs.Laws.{UntouchedCommute}

-- the request's groups are its task's
in_entry : (table : Layout) (e : Entry) → IsAddressed table e → (g : ℕ) → has (task_groups table e.task) g ≡ true → has e.groups g ≡ true
in_entry table e at g there = ap (λ gs. has gs g) at.groups ∙ there

pub untouched_commute : UntouchedCommute
untouched_commute table e f m is_table at_e at_f untouched =
    let apart : (g : ℕ) → has (task_groups table e.task) g ≡ true → has (task_groups table f.task) g ≡ true → ⊥ =
    λ g here there. untouched (g, in_entry table e at_e g here, in_entry table f at_f g there) in
    (deeds_answer table (deed e) (deed f) is_table apart m, deeds_leave table (deed e) (deed f) is_table apart m)

pub Touch-swap : (e f : Entry) → Touch e f → Touch f e
Touch-swap e f t = (t.0, t.2, t.1)
