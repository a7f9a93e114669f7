-- Which members of a request are named.
use Rattle.std.proofs.Common.{◌≡◌, ℕ, true, false, cond, ◌&&◌, ◌||◌, List, [], ◌∷◌, nat_eq, refl, ap}
use Rattle.std.specs.List.{list_any}
use Rattle.tasks.specs.Skips.{names_part}
use Rattle.tasks.specs.Starved.{has}
use Rattle.groups.specs.Request.{same_id}
use Rattle.groups.specs.Skips.{parts_of}
use Rattle.groups.specs.declared.request.RequestId.{RequestId}
use Rattle.groups.specs.declared.skip_id.SkipId.{SkipId}
use Rattle.groups.specs.declared.skip_id.SkipId.TheVariants.{Whole, Part}

-- one of the names is that of the member where its number is among those that they name
pub any-names_part : (id : RequestId) (n : ℕ) (names : List SkipId) → list_any (names_part id n) names ≡ has (parts_of names id) n
any-names_part id n [] = refl
any-names_part id n (Whole of ∷ names) = any-names_part id n names
any-names_part id n (Part of part ∷ names) =
    let rest = any-names_part id n names in
    elim (same_id of id) as (λ b. ((b && nat_eq part n) || list_any (names_part id n) names)
    ≡ has (cond b (part ∷ parts_of names id) (parts_of names id)) n) [
      | true ↦ ap (λ b. nat_eq part n || b) rest
      | false ↦ rest
    ]
