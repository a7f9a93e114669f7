-- What was appended is there behind a flush.
use Rattle.std.proofs.Common.{ℕ, List, Option, Some, None, ◌∙◌}
use Rattle.std.specs.Io.KnownBytes.{Appends, Keeps}

pub kept : (before mid after : Option (List ℕ)) (bytes : List ℕ) → Appends before mid bytes → Keeps mid after → Appends before after bytes
kept None mid after bytes appends keeps = tt
kept (Some xs) None after bytes appends keeps = absurd appends
kept (Some xs) (Some ys) None bytes appends keeps = absurd keeps
kept (Some xs) (Some ys) (Some zs) bytes appends keeps = keeps ∙ appends
