-- How much a layer more adds to what is counted.
use Rattle.std.proofs.Common.{◌≡◌, ℕ, ◌+◌, List, [], ◌∷◌, ◌++◌, length, arith}
use Rattle.cluster.specs.Counting.{executed_in, all_executed, all_starved, as_word}
use Rattle.layer_results.specs.Results.{names_of}
use Rattle.layer_results.specs.declared.done.DoneRow.{DoneRow}

pub executed_more : (ran : List (List DoneRow)) (done : List DoneRow) →
    all_executed (ran ++ done ∷ []) ≡ all_executed ran + executed_in done
executed_more [] done = omega arith
executed_more (layer ∷ ran) done = omega (arith, executed_more ran done)

pub starved_more : (ran : List (List DoneRow)) (done : List DoneRow) →
    all_starved (ran ++ done ∷ []) ≡ all_starved ran + length (names_of done)
starved_more [] done = omega arith
starved_more (layer ∷ ran) done = omega (arith, starved_more ran done)

pub executed-append : (xs ys : List DoneRow) → executed_in (xs ++ ys) ≡ executed_in xs + executed_in ys
executed-append [] ys = omega arith
executed-append (x ∷ xs) ys = omega (arith, executed-append xs ys)

-- a count that was cut, to which a number below that limit is added and which is cut again
pub cut_more : (a b all n m s : ℕ) → n ≡ as_word a → m ≡ b → s ≡ as_word (n + m) → all ≡ a + b → s ≡ as_word all
cut_more a b all n m s first second sum whole = omega (arith, first, second, sum, whole)

-- both of which were cut
pub cuts_more : (a b all n m s : ℕ) → n ≡ as_word a → m ≡ as_word b → s ≡ as_word (n + m) → all ≡ a + b → s ≡ as_word all
cuts_more a b all n m s first second sum whole = omega (arith, first, second, sum, whole)
