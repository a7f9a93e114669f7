-- The names of what starved in a world tell of each executed request which of its members did.
use Rattle.std.proofs.Common.{◌≡◌, ◌++◌, ℕ, Bool, true, false, cond, List, [], ◌∷◌, inl, inr, map, Option, Some, None, refl, sym, ap, ◌∙◌}
use Rattle.std.proofs.Common.{subst, append-nil}
use Rattle.std.specs.List.{AllByRecursion}
use Rattle.tasks.specs.Starved.{starved_in}
use Rattle.execution_order.specs.Entries.{Row, deeds_of, entries_of, insert_by, sort_by, rows_by_stamp}
use Rattle.front.proofs.Names.{in_ids}
use Rattle.groups.proofs.Ids.{same_id-refl, ne-same_id}
use Rattle.groups.specs.Order.{In}
use Rattle.groups.specs.Request.{same_id}
use Rattle.groups.specs.Skips.{parts_of}
use Rattle.groups.specs.Stamp.{stamp_lt}
use Rattle.groups.specs.declared.request.RequestId.{RequestId}
use Rattle.groups.specs.declared.skip_id.SkipId.{SkipId}
use Rattle.groups.specs.declared.skip_id.SkipId.TheVariants.{Whole, Part}
use Rattle.resp.specs.Content.{Content}
use Rattle.skeen_core.specs.Group.{EachOnce}
use Rattle.tasks.specs.Tasks.{Task, starved_names}
use Rattle.world.specs.Steps.{starved_among}
use Rattle.world.specs.World.{Ended}
use Rattle.world_laws.specs.Headline.{with_row, rows_of}
use Rattle.world_laws.specs.Order.{ids_of}
use Rattle.replay.specs.Report.{deed_by}

-- ---- the numbers of a request's members among names

parts_append : (xs ys : List SkipId) (i : RequestId) → parts_of (xs ++ ys) i ≡ parts_of xs i ++ parts_of ys i
parts_append [] ys i = refl
parts_append (Whole j ∷ xs) ys i = parts_append xs ys i
parts_append (Part j n ∷ xs) ys i = by_same (same_id j i) (parts_append xs ys i)
  where
    by_same : (b : Bool) → parts_of (xs ++ ys) i ≡ parts_of xs i ++ parts_of ys i →
        cond b (n ∷ parts_of (xs ++ ys) i) (parts_of (xs ++ ys) i) ≡ cond b (n ∷ parts_of xs i) (parts_of xs i) ++ parts_of ys i
    by_same true rest = ap (λ l. n ∷ l) rest
    by_same false rest = rest

parts_same : (i : RequestId) (numbers : List ℕ) → parts_of (map (Part i) numbers) i ≡ numbers
parts_same i [] = refl
parts_same i (n ∷ ns) =
    ap (λ b. cond b (n ∷ parts_of (map (Part i) ns) i) (parts_of (map (Part i) ns) i)) (same_id-refl i) ∙ ap (λ l. n ∷ l) (parts_same i ns)

parts_other : (j i : RequestId) (numbers : List ℕ) → same_id j i ≡ false → parts_of (map (Part j) numbers) i ≡ []
parts_other j i [] other = refl
parts_other j i (n ∷ ns) other =
    ap (λ b. cond b (n ∷ parts_of (map (Part j) ns) i) (parts_of (map (Part j) ns) i)) other ∙ parts_other j i ns other

none_of_other : (j i : RequestId) (task : Task) (reply : Option Content) → same_id j i ≡ false →
    parts_of (starved_names j task reply) i ≡ []
none_of_other j i task None other = refl
none_of_other j i task (Some reply) other = parts_other j i (starved_in task reply) other

-- ---- a world

none_there : (es : List Ended) (i : RequestId) → (In i (ids_of es) → ⊥) → parts_of (starved_among es) i ≡ []
none_there [] i out = refl
none_there (e ∷ es) i out =
    parts_append (starved_names e.id e.task e.reply) (starved_among es) i
    ∙ ap (λ l. l ++ parts_of (starved_among es) i)
    (none_of_other e.id i e.task e.reply (ne-same_id e.id i (λ same. out (inl (sym same)))))
    ∙ none_there es i (λ there. out (inr there))

-- where each has ended once
own_parts : (es : List Ended) → EachOnce (ids_of es) → (e : Ended) → In e es → (reply : Content) → e.reply ≡ Some reply →
    parts_of (starved_among es) e.id ≡ starved_in e.task reply
own_parts [] once e there reply some = absurd there
own_parts (f ∷ fs) once e (inl same) reply some =
    subst (λ (x : Ended). parts_of (starved_among (f ∷ fs)) x.id ≡ starved_in x.task reply) (sym same)
    (parts_append (starved_names f.id f.task f.reply) (starved_among fs) f.id
    ∙ ap (λ o. parts_of (starved_names f.id f.task o) f.id ++ parts_of (starved_among fs) f.id)
    (ap (λ (x : Ended). x.reply) (sym same) ∙ some)
    ∙ ap (λ l. l ++ parts_of (starved_among fs) f.id) (parts_same f.id (starved_in f.task reply))
    ∙ ap (λ l. starved_in f.task reply ++ l) (none_there fs f.id once.0) ∙ append-nil (starved_in f.task reply))
own_parts (f ∷ fs) once e (inr later) reply some =
    parts_append (starved_names f.id f.task f.reply) (starved_among fs) e.id
    ∙ ap (λ l. l ++ parts_of (starved_among fs) e.id)
    (none_of_other f.id e.id f.task f.reply
    (ne-same_id f.id e.id (λ eq. once.0 (subst (λ i. In i (ids_of fs)) (sym eq) (in_ids fs e later)))))
    ∙ own_parts fs once.1 e later reply some

-- the names tell which members of the row's request starved
abbrev pub TellsParts : List SkipId → Row → Type 0
TellsParts names r = parts_of names r.entry.id ≡ r.entry.starved

rows_told : (names : List SkipId) (es : List Ended) →
    ((e : Ended) → In e es → (reply : Content) → e.reply ≡ Some reply → parts_of names e.id ≡ starved_in e.task reply) →
    AllByRecursion (TellsParts names) (rows_of es)
rows_told names [] tells = tt
rows_told names (e ∷ es) tells = by_reply e.reply refl (rows_told names es (λ f there. tells f (inr there)))
  where
    by_reply : (o : Option Content) → e.reply ≡ o → AllByRecursion (TellsParts names) (rows_of es) →
        AllByRecursion (TellsParts names) (with_row e o (rows_of es))
    by_reply None same rest = rest
    by_reply (Some reply) same rest = (tells e (inl refl) reply same, rest)

-- ---- their order

all_put : (P : Row → Type 0) (below : Row → Row → Bool) (x : Row) (xs : List Row) → P x → AllByRecursion P xs →
    AllByRecursion P (insert_by below x xs)
all_put P below x [] holds all = (holds, tt)
all_put P below x (y ∷ ys) holds all =
    elim (below y x) as (λ b. AllByRecursion P (cond b (y ∷ insert_by below x ys) (x ∷ y ∷ ys))) [
      | true ↦ (all.0, all_put P below x ys holds all.1)
      | false ↦ (holds, all)
    ]

all_sorted : (P : Row → Type 0) (below : Row → Row → Bool) (xs : List Row) → AllByRecursion P xs → AllByRecursion P (sort_by below xs)
all_sorted P below [] all = tt
all_sorted P below (x ∷ xs) all = all_put P below x (sort_by below xs) all.0 (all_sorted P below xs all.1)

pub world_tells : (es : List Ended) → EachOnce (ids_of es) → AllByRecursion (TellsParts (starved_among es)) (rows_by_stamp (rows_of es))
world_tells es once =
    all_sorted (TellsParts (starved_among es)) (λ r s. stamp_lt r.entry.stamp s.entry.stamp) (rows_of es)
    (rows_told (starved_among es) es (own_parts es once))

pub same_deeds : (names : List SkipId) (rows : List Row) → AllByRecursion (TellsParts names) rows →
    map (deed_by names) rows ≡ deeds_of (entries_of rows)
same_deeds names [] tell = refl
same_deeds names (r ∷ rs) tell = λ i. (r.entry.task, tell.0 i) ∷ same_deeds names rs tell.1 i
