-- A row of things by number, and some of them with their numbers, which are taken out of the row and put back.
use Rattle.std.specs.Prelude.{ℕ, List, [], ◌∷◌, map, slice_set, slice_index_or}

abbrev pub Numbered : Type 0 → Type 0
Numbered X = List (ℕ × X)

abbrev pub numbers_of : {X : Type 0} → Numbered X → List ℕ
numbers_of span = map (λ s. s.0) span

-- those at these numbers; `absent` stands for what isn't there
abbrev pub picked : {X : Type 0} → X → List X → List ℕ → Numbered X
picked absent row groups = map (λ g. (g, slice_index_or row g absent)) groups

-- the row with some put in their places
abbrev pub put_span : {X : Type 0} → List X → Numbered X → List X
put_span row [] = row
put_span row (s ∷ ss) = put_span (slice_set row s.0 s.1) ss

-- the row with several spans put in their places, one after another
abbrev pub put_spans : {X : Type 0} → List X → List (Numbered X) → List X
put_spans row [] = row
put_spans row (span ∷ spans) = put_spans (put_span row span) spans

-- taken out one after another, each leaving `absent` in its place: what is taken, and what is left of the row
abbrev pub taken_out : {X : Type 0} → X → List X → List ℕ → Numbered X
taken_out absent row [] = []
taken_out absent row (g ∷ gs) = (g, slice_index_or row g absent) ∷ taken_out absent (slice_set row g absent) gs

abbrev pub emptied : {X : Type 0} → X → List X → List ℕ → List X
emptied absent row [] = row
emptied absent row (g ∷ gs) = emptied absent (slice_set row g absent) gs

-- one set of numbers after another
abbrev pub emptied_each : {X : Type 0} → X → List X → List (List ℕ) → List X
emptied_each absent row [] = row
emptied_each absent row (gs ∷ sets) = emptied_each absent (emptied absent row gs) sets

abbrev pub taken_out_each : {X : Type 0} → X → List X → List (List ℕ) → List (Numbered X)
taken_out_each absent row [] = []
taken_out_each absent row (gs ∷ sets) = taken_out absent row gs ∷ taken_out_each absent (emptied absent row gs) sets
