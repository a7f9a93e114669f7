-- That a case of each shape looks at its own keys alone.
use Rattle.std.proofs.Common.{◌≡◌, List, [], ◌∷◌, ◌||◌, Bool, true, false, Option, if◌then◌else◌, refl, ap, ◌∙◌}
use Rattle.std.specs.FinMap.{get, insert}
use Rattle.std.specs.Str.{bytes_eq}
use Rattle.command_cases.specs.Case.{IsLocal}
use Rattle.command_cases.specs.Shapes.{values_at, at_each, StepOfTwo, set_two, at_two, at_target, with_pairs, at_pairs}
use Rattle.keyspace.proofs.Parts.{among-first, get-restrict_here, put_back-set, put_back-insert, put_back-restrict}
use Rattle.keyspace.specs.Map.{Map, among, restrict, put_back, set}
use Rattle.resp.specs.Content.{Content}
use Rattle.texts.specs.Texts.{Bytes, firsts}
use Rattle.values.specs.declared.Value.{Value}
use Rattle.values.specs.declared.Value.TheVariants.{Str}

-- each of the first keys is one of the second
abbrev Within : List Bytes → List Bytes → Type 0
Within keys all = (key : Bytes) → among keys key ≡ true → among all key ≡ true

or_true : (a b : Bool) → b ≡ true → (a || b) ≡ true
or_true true b h = refl
or_true false b h = h

within-rest : (first : Bytes) (keys : List Bytes) → Within keys (first ∷ keys)
within-rest first keys key h = or_true (bytes_eq key first) (among keys key) h

within-tail : (first : Bytes) (keys all : List Bytes) → Within (first ∷ keys) all → Within keys all
within-tail first keys all within key h = within key (within-rest first keys key h)

-- what stands at some of the keys of a part
values_at-restrict : (m : Map) (all keys : List Bytes) → Within keys all → values_at (restrict m all) keys ≡ values_at m keys
values_at-restrict m all [] within = refl
values_at-restrict m all (key ∷ keys) within =
    ap (λ o. o ∷ values_at (restrict m all) keys) (get-restrict_here m all key (within key (among-first key keys)))
    ∙ ap (λ os. get m key ∷ os) (values_at-restrict m all keys (within-tail key keys all within))

pub local-at_each : (keys : List Bytes) (answer : List (Option Value) → Content) → IsLocal keys (at_each keys answer)
local-at_each keys answer m =
    ap (λ os. (put_back m keys (restrict m keys), answer os)) (values_at-restrict m keys keys (λ key h. h))
    ∙ ap (λ n. (n, answer (values_at m keys))) (put_back-restrict m keys)

pub local-at_two : (first second : Bytes) (step : StepOfTwo) → IsLocal (first ∷ second ∷ []) (at_two first second step)
local-at_two first second step m =
    let keys = first ∷ second ∷ [] in
    let in_first = among-first first (second ∷ []) in
    let in_second = within-rest first (second ∷ []) second (among-first second []) in
    let left = step (get m first) (get m second) in
    ap (λ o. (
      put_back m keys (set_two (restrict m keys) first second (step o (get (restrict m keys) second)).0),
      (step o (get (restrict m keys) second)).1,
    ))
    (get-restrict_here m keys first in_first)
    ∙ ap (λ o. (put_back m keys (set_two (restrict m keys) first second (step (get m first) o).0), (step (get m first) o).1))
    (get-restrict_here m keys second in_second)
    ∙ ap (λ n. (n, left.1))
    (put_back-set m keys (set (restrict m keys) first left.0.0) second left.0.1 in_second
    ∙ ap (λ n. set n second left.0.1) (put_back-set m keys (restrict m keys) first left.0.0 in_first)
    ∙ ap (λ n. set_two n first second left.0) (put_back-restrict m keys))

pub local-at_target : (target : Bytes) (sources : List Bytes) (step : Option Value → List (Option Value) → Option Value × Content)
    → IsLocal (target ∷ sources) (at_target target sources step)
local-at_target target sources step m =
    let keys = target ∷ sources in
    let part = restrict m keys in
    let left = step (get m target) (values_at m sources) in
    ap (λ o. (put_back m keys (set part target (step o (values_at part sources)).0), (step o (values_at part sources)).1))
    (get-restrict_here m keys target (among-first target sources))
    ∙ ap (λ os. (put_back m keys (set part target (step (get m target) os).0), (step (get m target) os).1))
    (values_at-restrict m keys sources (within-rest target sources))
    ∙ ap (λ n. (n, left.1))
    (put_back-set m keys part target left.0 (among-first target sources) ∙ ap (λ n. set n target left.0) (put_back-restrict m keys))

-- pairs whose keys are among some may be written in the part or in the whole
put_back-with_pairs : (m : Map) (keys : List Bytes) (part : Map) (pairs : List (Bytes × Bytes)) → Within (firsts pairs) keys
    → put_back m keys (with_pairs part pairs) ≡ with_pairs (put_back m keys part) pairs
put_back-with_pairs m keys part [] within = refl
put_back-with_pairs m keys part (pair ∷ pairs) within =
    let others = firsts pairs in
    put_back-with_pairs m keys (insert part pair.0 (Str pair.1)) pairs (within-tail pair.0 others keys within)
    ∙ ap (λ n. with_pairs n pairs) (put_back-insert m keys part pair.0 (Str pair.1) (within pair.0 (among-first pair.0 others)))

-- whether they are written or not
put_back-written : (m : Map) (pairs : List (Bytes × Bytes)) (written : Bool) → let keys = firsts pairs in
    put_back m keys (if written then with_pairs (restrict m keys) pairs else restrict m keys) ≡ (if written then with_pairs m pairs else m)
put_back-written m pairs true =
    let keys = firsts pairs in
    put_back-with_pairs m keys (restrict m keys) pairs (λ key h. h) ∙ ap (λ n. with_pairs n pairs) (put_back-restrict m keys)
put_back-written m pairs false = put_back-restrict m (firsts pairs)

pub local-at_pairs : (pairs : List (Bytes × Bytes)) (step : List (Option Value) → Bool × Content) →
    IsLocal (firsts pairs) (at_pairs pairs step)
local-at_pairs pairs step m =
    let keys = firsts pairs in
    let done = step (values_at m keys) in
    ap (λ os. (put_back m keys (if (step os).0 then with_pairs (restrict m keys) pairs else restrict m keys), (step os).1))
    (values_at-restrict m keys keys (λ key h. h))
    ∙ ap (λ n. (n, done.1)) (put_back-written m pairs done.0)
