-- Things taken out of a row and put back: what stands at each number then.
use Rattle.std.proofs.Common.{◌≡◌, ℕ, zero, suc, ◌<◌, ◌==◌, List, [], ◌∷◌, length, true, false, slice_set, slice_index_or, arith, refl, sym}
use Rattle.std.proofs.Common.{ap, ◌∙◌, subst, eq-eqb}
use Rattle.std.proofs.lemmas.Bool.{both_ways, or_left, or_right, or_parts}
use Rattle.std.specs.List.{AllByRecursion}
use Rattle.groups.specs.GroupSet.{has, IsAscending}
use Rattle.shards.proofs.MapUnions.{not_again}
use Rattle.shards.specs.Rows.{Numbered, numbers_of, picked, put_span, put_spans, taken_out, emptied, emptied_each}

length-set : {X : Type 0} (row : List X) (n : ℕ) (x : X) → length (slice_set row n x) ≡ length row
length-set [] n x = refl
length-set (r ∷ row) zero x = refl
length-set (r ∷ row) (suc n) x = ap suc (length-set row n x)

pub length-put_span : {X : Type 0} (row : List X) (span : Numbered X) → length (put_span row span) ≡ length row
length-put_span row [] = refl
length-put_span row (s ∷ ss) = length-put_span (slice_set row s.0 s.1) ss ∙ length-set row s.0 s.1

module _ {X : Type 0} (absent : X) where
  at-set : (row : List X) (n : ℕ) (x : X) → n < length row → slice_index_or (slice_set row n x) n absent ≡ x
  at-set [] n x h = absurd (omega (arith, h))
  at-set (r ∷ row) zero x h = refl
  at-set (r ∷ row) (suc n) x h = at-set row n x (omega (arith, h))

  at-set_other : (row : List X) (n g : ℕ) (x : X) → (n ≡ g → ⊥) → slice_index_or (slice_set row n x) g absent ≡ slice_index_or row g absent
  at-set_other [] n g x apart = refl
  at-set_other (r ∷ row) zero zero x apart = absurd (apart refl)
  at-set_other (r ∷ row) zero (suc g) x apart = refl
  at-set_other (r ∷ row) (suc n) zero x apart = refl
  at-set_other (r ∷ row) (suc n) (suc g) x apart = at-set_other row n g x (λ e. apart (ap suc e))

  -- what isn't put stays
  pub at-put_span : (row : List X) (span : Numbered X) (g : ℕ) → has (numbers_of span) g ≡ false
      → slice_index_or (put_span row span) g absent ≡ slice_index_or row g absent
  at-put_span row [] g away = refl
  at-put_span row (s ∷ ss) g away =
      let parts = or_parts (s.0 == g) (has (numbers_of ss) g) away in
      at-put_span (slice_set row s.0 s.1) ss g parts.1 ∙ at-set_other row s.0 g s.1 (λ e. both_ways _ parts.0 (eq-eqb s.0 g e))

  pub at-put_spans : (row : List X) (spans : List (Numbered X)) (g : ℕ) → AllByRecursion (λ s. has (numbers_of s) g ≡ false) spans
      → slice_index_or (put_spans row spans) g absent ≡ slice_index_or row g absent
  at-put_spans row [] g away = refl
  at-put_spans row (span ∷ spans) g away = at-put_spans (put_span row span) spans g away.1 ∙ at-put_span row span g away.0

  -- what is the same at each number is picked the same
  pub picked-alike : (row other : List X) (gs : List ℕ)
      → ((g : ℕ) → has gs g ≡ true → slice_index_or row g absent ≡ slice_index_or other g absent)
      → picked absent row gs ≡ picked absent other gs
  picked-alike row other [] alike = refl
  picked-alike row other (g ∷ gs) alike =
      ap (λ x. (g, x) ∷ picked absent row gs) (alike g (or_left (g == g) (has gs g) (eq-eqb g g refl)))
      ∙ ap (λ l. (g, slice_index_or other g absent) ∷ l)
      (picked-alike row other gs (λ h there. alike h (or_right (g == h) (has gs h) there)))

  pub numbers-picked : (row : List X) (gs : List ℕ) → numbers_of (picked absent row gs) ≡ gs
  numbers-picked row [] = refl
  numbers-picked row (g ∷ gs) = ap (λ l. g ∷ l) (numbers-picked row gs)

  -- what is put is there
  pub picked-put_span : (row : List X) (span : Numbered X) → IsAscending (numbers_of span)
      → ((g : ℕ) → has (numbers_of span) g ≡ true → g < length row)
      → picked absent (put_span row span) (numbers_of span) ≡ span
  picked-put_span row [] up inside = refl
  picked-put_span row (s ∷ ss) up inside =
      ap (λ x. (s.0, x) ∷ picked absent (put_span (slice_set row s.0 s.1) ss) (numbers_of ss))
      (at-put_span (slice_set row s.0 s.1) ss s.0 (not_again s.0 (numbers_of ss) up)
      ∙ at-set row s.0 s.1 (inside s.0 (or_left (s.0 == s.0) (has (numbers_of ss) s.0) (eq-eqb s.0 s.0 refl))))
      ∙ ap (λ l. s ∷ l) (picked-put_span (slice_set row s.0 s.1) ss up.1
      (λ g there. subst (λ n. g < n) (sym (length-set row s.0 s.1)) (inside g (or_right (s.0 == g) (has (numbers_of ss) g) there))))

  -- ---- taken out one after another

  pub length-emptied : (row : List X) (gs : List ℕ) → length (emptied absent row gs) ≡ length row
  length-emptied row [] = refl
  length-emptied row (g ∷ gs) = length-emptied (slice_set row g absent) gs ∙ length-set row g absent

  pub at-emptied : (row : List X) (gs : List ℕ) (g : ℕ) → has gs g ≡ false
      → slice_index_or (emptied absent row gs) g absent ≡ slice_index_or row g absent
  at-emptied row [] g away = refl
  at-emptied row (h ∷ gs) g away =
      let parts = or_parts (h == g) (has gs g) away in
      at-emptied (slice_set row h absent) gs g parts.1 ∙ at-set_other row h g absent (λ e. both_ways _ parts.0 (eq-eqb h g e))

  pub taken_out-picked : (row : List X) (gs : List ℕ) → IsAscending gs → taken_out absent row gs ≡ picked absent row gs
  taken_out-picked row [] up = refl
  taken_out-picked row (g ∷ gs) up =
      ap (λ l. (g, slice_index_or row g absent) ∷ l) (taken_out-picked (slice_set row g absent) gs up.1
      ∙ picked-alike (slice_set row g absent) row gs
      (λ h there. at-set_other row g h absent (λ e. both_ways _ (not_again g gs up) (ap (has gs) e ∙ there))))

  pub length-emptied_each : (row : List X) (sets : List (List ℕ)) → length (emptied_each absent row sets) ≡ length row
  length-emptied_each row [] = refl
  length-emptied_each row (gs ∷ sets) = length-emptied_each (emptied absent row gs) sets ∙ length-emptied row gs

  pub at-emptied_each : (row : List X) (sets : List (List ℕ)) (g : ℕ) → AllByRecursion (λ gs. has gs g ≡ false) sets
      → slice_index_or (emptied_each absent row sets) g absent ≡ slice_index_or row g absent
  at-emptied_each row [] g away = refl
  at-emptied_each row (gs ∷ sets) g away = at-emptied_each (emptied absent row gs) sets g away.1 ∙ at-emptied row gs g away.0
