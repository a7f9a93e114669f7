-- Room for what comes of a layer.
use Rattle.std.specs.Prelude.{◌≡◌, ℕ, ◌≤◌, List, [], length, map, vec_capacity}
use Rattle.back.specs.declared.room.ResultsRoom.{ResultsRoom}
use Rattle.layer_planner.specs.declared.job.Job.{Job}
use Rattle.shard_exec.specs.declared.done.Ended.{Ended}

-- the words of each request
abbrev pub words_of : List Job → List (List (List ℕ))
words_of jobs = map (λ j. j.asked.words) jobs

-- nothing is in it yet, there is room for so many, and these are their words
pub record HasRoom (count : ℕ) (asked : List (List (List ℕ))) (room : ResultsRoom) : Type 0 where
  pub words : room.words.items ≡ asked
  pub no_rows : room.rows.items ≡ []
  pub rows : count ≤ vec_capacity room.rows

abbrev pub HasRoomFor : List Job → ResultsRoom → Type 0
HasRoomFor jobs room = HasRoom (length jobs) (words_of jobs) room

-- so of what became of them
abbrev pub FitsEnded : List Ended → ResultsRoom → Type 0
FitsEnded es room = HasRoom (length es) (map (λ e. e.words) es) room
