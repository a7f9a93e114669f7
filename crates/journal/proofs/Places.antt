-- Where the last step lies among the bytes of a trace.
use Rattle.std.proofs.Common.{◌≡◌, ℕ, ◌-◌, List, [], ◌∷◌, ◌++◌, length, take, refl, ap, sym, ◌∙◌, arith, subst}
use Rattle.std.specs.List.{flat_map, AllByRecursion}
use Rattle.std.proofs.lemmas.List.{append-nil, take_at, length_push}
use Rattle.std.proofs.lemmas.List.Concat.{flat_map-append}
use Rattle.journal.specs.declared.step.Step.{Step}
use Rattle.journal.specs.Codes.{step_code, steps_size, steps_in, StepFits, AreSteps}
use Rattle.journal.proofs.CodeLaws.{steps_in-codes}

-- ---- the last step

codes-last : (front : List Step) (last : Step) → flat_map step_code (front ++ last ∷ []) ≡ flat_map step_code front ++ step_code last
codes-last front last = flat_map-append step_code front (last ∷ []) ∙ ap (λ c. flat_map step_code front ++ c) (append-nil (step_code last))

all-front : (P : Step → Type 0) (front back : List Step) → AllByRecursion P (front ++ back) → AllByRecursion P front
all-front P [] back all = tt
all-front P (s ∷ front) back all = (all.0, all-front P front back all.1)

pub record TakesBack (front : List Step) (max count : ℕ) (bytes : List ℕ) : Type 0 where
  pub steps : steps_in count bytes ≡ front
  pub are : AreSteps (steps_in count bytes) max count bytes

-- without its last step the trace has the steps before it
pub takes_back : (front : List Step) (last : Step) (max count place : ℕ) (bytes : List ℕ) → AreSteps (front ++ last ∷ []) max count bytes
    → place ≡ steps_size front → TakesBack front max (count - 1) (take place bytes)
takes_back front last max count place bytes are here =
    let coded : take place bytes ≡ flat_map step_code front =
    rw (are.coded, codes-last front last) (take_at (flat_map step_code front) (step_code last) place (sym here)) in
    let counted : count - 1 ≡ length front = omega (arith, are.counted, length_push front last) in
    let fit = all-front StepFits front (last ∷ []) are.fit in
    let same : steps_in (count - 1) (take place bytes) ≡ front = rw (coded, counted) (steps_in-codes front fit) in
    record {
      steps = same;
      are = rw same (record { least = are.least; greatest = are.greatest; counted = counted; coded = coded; fit = fit });
    }

same-front : (front back : List Step) (last end : Step) → front ++ last ∷ [] ≡ back ++ end ∷ [] → front ≡ back
same-front front back last end same =
    let one = ap length same in
    let long : length front ≡ length back = omega (arith, length_push front last, length_push back end) in
    sym (take_at front (last ∷ []) (length back) long) ∙ ap (take (length back)) same ∙ take_at back (end ∷ []) (length back) refl

-- the trace without its last step
pub takes_back_of : (front back : List Step) (last end : Step) (steps : List Step) (max count place : ℕ) (bytes : List ℕ)
    → AreSteps steps max count bytes → steps ≡ front ++ last ∷ [] → place ≡ steps_size front → steps ≡ back ++ end ∷ []
    → TakesBack back max (count - 1) (take place bytes)
takes_back_of front back last end steps max count place bytes are split here same =
    subst (λ f. TakesBack f max (count - 1) (take place bytes)) (same-front front back last end (sym split ∙ same))
    (takes_back front last max count place bytes (subst (λ s. AreSteps s max count bytes) split are) here)
