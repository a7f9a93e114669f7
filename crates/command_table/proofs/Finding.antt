-- Rows, found by their names.
use Rattle.std.proofs.Common.{◌≡◌, ℕ, Bool, true, false, List, [], ◌∷◌, Some, refl, sym, ap, ◌∙◌, nat_eq}
use Rattle.std.proofs.Common.{if◌then◌else◌}
use Rattle.std.specs.Str.{bytes_eq}
use Rattle.std.proofs.lemmas.Slice.Eq.{bytes_eq-Decides}
use Rattle.command_table.specs.CommandRow.{CommandRow, row_of}
use Rattle.command_table.specs.Families.{family_by_letters, rows_of}
use Rattle.command_table.specs.declared.family.Family.{Family}
use Rattle.command_table.specs.declared.family.Family.TheVariants as family
use Rattle.command_table.specs.Reading.{rows}
use Rattle.command_table.specs.Words.{Word}

-- the rows whose names are so
abbrev pub rows_with : (Word → Bool) → List CommandRow → List CommandRow
rows_with p [] = []
rows_with p (r ∷ rs) = if p r.name then r ∷ rows_with p rs else rows_with p rs

-- a name that is so is looked for among the rows whose names are so
pub found_with : (p : Word → Bool) (rs : List CommandRow) (n : Word) → p n ≡ true → row_of rs n ≡ row_of (rows_with p rs) n
found_with p [] n h = refl
found_with p (r ∷ rs) n h =
    let rest = found_with p rs n h in
    elim (p r.name)
    as (λ b. p r.name ≡ b → row_of (r ∷ rs) n ≡ row_of (if b then r ∷ rows_with p rs else rows_with p rs) n) [
      | true ↦ λ so. ap (λ o. if bytes_eq n r.name then Some r else o) rest
      | false ↦ λ so. elim (bytes_eq n r.name)
          as (λ b. bytes_eq n r.name ≡ b → (if b then Some r else row_of rs n) ≡ row_of (rows_with p rs) n) [
            | true ↦ λ e. let bad : true ≡ false = sym h ∙ ap p ((bytes_eq-Decides n r.name).0 e) ∙ so in cc
            | false ↦ λ e. rest
          ] refl
    ] refl

place_of : Family → ℕ
place_of family.Local = 0
place_of family.Key = 1
place_of family.Str = 2
place_of family.List = 3
place_of family.Hash = 4
place_of family.Set = 5

-- the name's letters say that its family has this place
abbrev is_at : ℕ → Word → Bool
is_at place name = nat_eq (place_of (family_by_letters name)) place

-- a name is looked for in the family that its letters say
pub found_by_letters : (n : Word) → row_of rows n ≡ row_of (rows_of (family_by_letters n)) n
unfolding place_of
found_by_letters n =
    elim (family_by_letters n)
    as (λ f. family_by_letters n ≡ f → row_of rows n ≡ row_of (rows_of f) n) [
      | family.Local ↦ λ e. found_with (is_at 0) rows n (ap (λ f. nat_eq (place_of f) 0) e)
      | family.Key ↦ λ e. found_with (is_at 1) rows n (ap (λ f. nat_eq (place_of f) 1) e)
      | family.Str ↦ λ e. found_with (is_at 2) rows n (ap (λ f. nat_eq (place_of f) 2) e)
      | family.List ↦ λ e. found_with (is_at 3) rows n (ap (λ f. nat_eq (place_of f) 3) e)
      | family.Hash ↦ λ e. found_with (is_at 4) rows n (ap (λ f. nat_eq (place_of f) 4) e)
      | family.Set ↦ λ e. found_with (is_at 5) rows n (ap (λ f. nat_eq (place_of f) 5) e)
    ] refl
