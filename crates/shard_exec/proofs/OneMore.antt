-- Sums over the first things of a list, and over one more.
use Rattle.std.proofs.Common.{◌≡◌, ◌+◌, ◌<◌, ◌≤◌, ◌++◌, ◌∷◌, [], ℕ, suc, List, length, take, slice_get, Some, sum_by, sym, ap, ◌∙◌, subst}
use Rattle.std.proofs.Math.ListN.{get_or}
use Rattle.std.proofs.Math.Numerals.{suc-eq-add-one}
use Rattle.std.proofs.Math.Seq.{take-suc}
use Rattle.std.proofs.lemmas.List.Sums.{sum_by_push, sum_by-take-le}
use Rattle.std.proofs.lemmas.Option.{slice_get_within, get_or_from_slice_get}

one_behind : {X : Type 0} (f : X → ℕ) (xs : List X) (i : ℕ) (x : X) → i < length xs → get_or xs i x ≡ x
    → sum_by f (take (suc i) xs) ≡ sum_by f (take i xs) + f x
one_behind f xs i x within there =
    ap (sum_by f) (take-suc xs i x within ∙ ap (λ y. take i xs ++ y ∷ []) there) ∙ sum_by_push f (take i xs) x

pub one_more : {X : Type 0} (f : X → ℕ) (xs : List X) (i : ℕ) (x : X) → slice_get xs i ≡ Some x
    → sum_by f (take (i + 1) xs) ≡ sum_by f (take i xs) + f x
one_more f xs i x there =
    ap (λ n. sum_by f (take n xs)) (sym (suc-eq-add-one i))
    ∙ one_behind f xs i x (slice_get_within xs i x there) (get_or_from_slice_get xs i x x there)

-- all together have no less
pub one_below : {X : Type 0} (f : X → ℕ) (xs : List X) (i : ℕ) (x : X) → i < length xs → get_or xs i x ≡ x
    → sum_by f (take i xs) + f x ≤ sum_by f xs
one_below f xs i x within there =
    subst (λ s. s ≤ sum_by f xs) (one_behind f xs i x within there) (sum_by-take-le f xs (suc i))
