-- One shard more taken out of the row.
use Rattle.std.proofs.Common.{◌≡◌, ℕ, List, [], ◌∷◌, ◌++◌, slice_index_or, slice_set, sym, ap, ◌∙◌}
use Rattle.std.proofs.Math.Seq.{append_snoc}
use Rattle.std.specs.FinMap.{empty}
use Rattle.keyspace.specs.Map.{Map}
use Rattle.shards.specs.Joined.{Span}
use Rattle.shards.specs.Rows.{taken_out, emptied}

pub taken_more : (row row' : List Map) (span span' all : Span) (groups rest : List ℕ) (g : ℕ) (m : Map) → groups ≡ g ∷ rest
    → m ≡ slice_index_or row g empty → row' ≡ slice_set row g empty → span' ≡ span ++ (g, m) ∷ [] → span ++ taken_out empty row groups ≡ all
    → span' ++ taken_out empty row' rest ≡ all
taken_more row row' span span' all groups rest g m is taken left pushed so_far =
    ap (λ s. s ++ taken_out empty row' rest) pushed ∙ append_snoc span (g, m) (taken_out empty row' rest)
    ∙ ap (λ r. span ++ ((g, m) ∷ taken_out empty r rest)) left
    ∙ ap (λ x. span ++ ((g, x) ∷ taken_out empty (slice_set row g empty) rest)) taken
    ∙ ap (λ gs. span ++ taken_out empty row gs) (sym is) ∙ so_far

pub emptied_more : (row row' : List Map) (groups rest : List ℕ) (g : ℕ) → groups ≡ g ∷ rest → row' ≡ slice_set row g empty
    → emptied empty row' rest ≡ emptied empty row groups
emptied_more row row' groups rest g is left = ap (λ r. emptied empty r rest) left ∙ ap (emptied empty row) (sym is)
