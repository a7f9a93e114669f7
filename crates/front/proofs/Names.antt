-- The ids of requests that have ended.
use Rattle.std.proofs.Common.{List, [], ◌∷◌, inl, inr, ap}
use Rattle.groups.specs.Order.{In}
use Rattle.world.specs.World.{Ended}
use Rattle.world_laws.specs.Order.{ids_of}

pub in_ids : (es : List Ended) (e : Ended) → In e es → In e.id (ids_of es)
in_ids [] e there = absurd there
in_ids (x ∷ es) e (inl same) = inl (ap (λ (y : Ended). y.id) same)
in_ids (x ∷ es) e (inr there) = inr (in_ids es e there)
