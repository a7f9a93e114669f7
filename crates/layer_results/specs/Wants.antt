-- Which of some replies say that there was no memory.
use Rattle.std.specs.Prelude.{ℕ, suc, List, [], ◌∷◌, if◌then◌else◌}
use Rattle.tasks.specs.Starved.{is_want}
use Rattle.resp.specs.Content.{Content}

-- their numbers, where the first one has the number n
abbrev pub wants_among : ℕ → List Content → List ℕ
wants_among n [] = []
wants_among n (reply ∷ replies) = if is_want reply then n ∷ wants_among (suc n) replies else wants_among (suc n) replies
