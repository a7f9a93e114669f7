-- The last layer of those that were put down.
use Rattle.std.proofs.Common.{◌≡◌, ◌∙◌, ℕ, ◌<◌, cond, List, [], ◌∷◌, ◌++◌, Option, Some, None, length, map, refl, sym, ap, subst, arith}
use Rattle.std.proofs.lemmas.List.{append-nil, map_push}
use Rattle.groups.specs.declared.request.RequestId.{RequestId}
use Rattle.groups.specs.declared.skip_id.SkipId.{SkipId}
use Rattle.picture.proofs.Putting.{pushed}
use Rattle.picture.specs.Layers.{JobTold, LayerTold, job_in, last_jobs, layer_in, marked, reply_at, reply_in, run_at, with_last}
use Rattle.picture.specs.Notes.{ids_in, ids_of, replies_noted}
use Rattle.picture_shapes.specs.declared.facts.JobFacts.{JobFacts}
use Rattle.picture_shapes.specs.declared.facts.LayerFacts.{LayerFacts}
use Rattle.picture_shapes.specs.declared.facts.ReplyFacts.{ReplyFacts}
use Rattle.router.specs.declared.outcome.Outcome.{Outcome}
use Rattle.std.specs.Prelude.{IsSome, is_some, option_to_list}
use Rattle.system.specs.Reads.{waiting_for}
use Rattle.system.specs.System.{SystemView}

-- ---- the last of a list

last-more : {A : Type 0} (f : A → A) (xs : List A) (x : A) → with_last f (xs ++ x ∷ []) ≡ xs ++ f x ∷ []
last-more f [] x = refl
last-more f (y ∷ []) x = refl
last-more f (y ∷ z ∷ zs) x = ap (λ l. y ∷ l) (last-more f (z ∷ zs) x)

pub jobs-more : (ls : List LayerTold) (l : LayerTold) → last_jobs (ls ++ l ∷ []) ≡ l.jobs
jobs-more [] l = refl
jobs-more (k ∷ []) l = refl
jobs-more (k ∷ j ∷ js) l = jobs-more (j ∷ js) l

-- ---- what is put down of a layer

pub jobs-run : (n : ℕ) (starved : List SkipId) (ls : List LayerTold) →
    ids_of (last_jobs (with_last (run_at n starved) ls)) ≡ ids_of (last_jobs ls)
jobs-run n starved [] = refl
jobs-run n starved (l ∷ []) = ids-marked l.jobs
  where
    ids-marked : (js : List JobTold) → ids_of (map (marked starved) js) ≡ ids_of js
    ids-marked [] = refl
    ids-marked (j ∷ js) = ap (λ ids. j.id ∷ ids) (ids-marked js)
jobs-run n starved (l ∷ k ∷ []) = jobs-run n starved (k ∷ [])
jobs-run n starved (l ∷ k ∷ j ∷ js) = jobs-run n starved (k ∷ j ∷ js)

ids-told : (js : List JobFacts) → ids_of (map job_in js) ≡ ids_in js
ids-told [] = refl
ids-told (j ∷ js) = ap (λ ids. j.asked.id ∷ ids) (ids-told js)

-- ---- the last one is taken away

pub none_popped : {A : Type 0} (o : Option A) (xs : List A) (n : ℕ) → n ≡ length xs → o ≡ None → (0 < n → IsSome o) → xs ≡ []
none_popped o [] n count none some = refl
none_popped o (x ∷ xs) n count none some = let e = subst (λ p. IsSome p) none (some (omega (arith, count))) in cc

-- where there was none nothing is changed
pub no_last : (f : LayerTold → LayerTold) (old new : List LayerFacts) (o : Option LayerFacts) → old ≡ [] → old ≡ new ++ option_to_list o →
    o ≡ None → map layer_in new ≡ with_last f (map layer_in old)
no_last f old new o empty is none =
    let same : old ≡ new = is ∙ ap (λ p. new ++ option_to_list p) none ∙ append-nil new in
    ap (map layer_in) (sym same) ∙ ap (map layer_in) empty ∙ sym (ap (λ l. with_last f (map layer_in l)) empty)

-- where it is put back, changed so, it is changed
pub put_back : (f : LayerTold → LayerTold) (old front new : List LayerFacts) (o : Option LayerFacts) (l m : LayerFacts) →
    old ≡ front ++ option_to_list o → o ≡ Some l → new ≡ front ++ m ∷ [] → layer_in m ≡ f (layer_in l) →
    map layer_in new ≡ with_last f (map layer_in old)
put_back f old front new o l m was some is same =
    ap (map layer_in) is ∙ map_push layer_in front m ∙ ap (λ k. map layer_in front ++ k ∷ []) same
    ∙ sym
    (ap (λ ls. with_last f (map layer_in ls)) (was ∙ ap (λ p. front ++ option_to_list p) some)
    ∙ ap (with_last f) (map_push layer_in front l)
    ∙ last-more f (map layer_in front) (layer_in l))

pub jobs_of_last : (old front : List LayerFacts) (o : Option LayerFacts) (l : LayerFacts) → old ≡ front ++ option_to_list o → o ≡ Some l →
    ids_in l.jobs.items ≡ ids_of (last_jobs (map layer_in old))
jobs_of_last old front o l was some =
    sym
    (ap (λ ls. ids_of (last_jobs (map layer_in ls))) (was ∙ ap (λ p. front ++ option_to_list p) some)
    ∙ ap (λ ls. ids_of (last_jobs ls)) (map_push layer_in front l)
    ∙ ap ids_of (jobs-more (map layer_in front) (layer_in l)) ∙ ids-told l.jobs.items)

-- ---- replies

pub put_none : (n : ℕ) (s : SystemView) (id : RequestId) (old : List ReplyFacts) → waiting_for s id.conn.0 ≡ None →
    map reply_in old ≡ map reply_in old ++ replies_noted n s (id ∷ [])
put_none n s id old none =
    sym
    (ap (λ o. map reply_in old ++ map (reply_at n) (cond (is_some o) (id ∷ []) [])) none ∙ append-nil (map reply_in old))

pub put_one : (n : ℕ) (s : SystemView) (r : ReplyFacts) (old new : List ReplyFacts) (o : Outcome) →
    waiting_for s r.asked.id.conn.0 ≡ Some o →
    new ≡ old ++ r ∷ [] → r.step ≡ n → map reply_in new ≡ map reply_in old ++ replies_noted n s (r.asked.id ∷ [])
put_one n s r old new o some grown at =
    let id = r.asked.id in
    pushed reply_in old new r (reply_at n id) grown (λ i. record { step = at i; id = id })
    ∙ sym (ap (λ x. map reply_in old ++ map (reply_at n) (cond (is_some x) (id ∷ []) [])) some)
