-- Who asks once he has seen another's reply has run behind it.
use Rattle.std.proofs.Common.{◌≡◌, ℕ, zero, suc, ◌<◌, ◌≤◌, List, [], ◌∷◌, ◌++◌, inl, inr, Some, None, length, slice_get, sym, ap, ◌∙◌}
use Rattle.std.proofs.Common.{subst, arith}
use mathlib.Core.List.{IsPrefix}
use Rattle.answer_laws.proofs.Standing.{begins_more, stands, steps_begin, leads_on}
use Rattle.answer_laws.specs.Laws.{RealTime}
use Rattle.cluster.proofs.Submits.{submits_by-append}
use Rattle.cluster.proofs.Worlds.{counts}
use Rattle.cluster.specs.Clusters.{SeatView}
use Rattle.cluster.specs.Submits.{submits_by}
use Rattle.groups.specs.Order.{In}
use Rattle.groups.specs.declared.request.RequestId.{RequestId}
use Rattle.journal.specs.declared.step.Step.{Step}
use Rattle.journal.specs.declared.step.Step.TheVariants.{Submit, Collect}
use Rattle.order_laws.proofs.RunLaws.{ended_grows, later_run_behind}
use Rattle.placement.specs.Layout.{Layout}
use Rattle.resp.specs.Content.{Content}
use Rattle.shared_cluster.specs.Asks.{IsReplied}
use Rattle.skeen_core.proofs.Lawful.{None≢Some}
use Rattle.skeen_core.specs.Group.{EachOnce}
use Rattle.world.specs.Steps.{opening, Leads}
use Rattle.world.specs.World.{World, Outcome, Ended}
use Rattle.world_laws.proofs.Lists.{in_place}
use Rattle.world_laws.proofs.OrderLaws.{ends_once}
use Rattle.world_laws.specs.Order.{ids_of}

-- ---- places

in_ids : (es : List Ended) (e : Ended) → In e es → In e.id (ids_of es)
in_ids [] e there = absurd there
in_ids (f ∷ es) e (inl same) = inl (ap (λ (x : Ended). x.id) same)
in_ids (f ∷ es) e (inr there) = inr (in_ids es e there)

-- of a list in which each stands once, who stands among the first has a place there
early : (es rest : List Ended) (e f : Ended) (place : ℕ) → EachOnce (ids_of (es ++ rest)) → In e es →
    slice_get (es ++ rest) place ≡ Some f → f.id ≡ e.id → place < length es
early [] rest e f place once there is same = absurd there
early (d ∷ es) rest e f zero once there is same = omega arith
early (d ∷ es) rest e f (suc place) once (inl first) is same =
    let at : In f.id (ids_of (es ++ rest)) = in_ids (es ++ rest) f (in_place (es ++ rest) place f is) in
    absurd (once.0 (subst (λ i. In i (ids_of (es ++ rest))) (same ∙ ap (λ (x : Ended). x.id) first) at))
early (d ∷ es) rest e f (suc place) once (inr there) is same = omega (arith, early es rest e f place once.1 there is same)

-- ---- two replies

pub begins_in : {A : Type 0} (xs ys zs : List A) → IsPrefix xs ys → IsPrefix ys zs → IsPrefix xs zs
begins_in xs ys zs p q = begins_more xs p.0 zs (subst (λ l. IsPrefix l zs) (sym p.1) q)

fewer_submits : (c : ℕ) (xs ys : List Step) → IsPrefix xs ys → submits_by c xs ≤ submits_by c ys
fewer_submits c xs ys p = let sum = ap (submits_by c) (sym p.1) ∙ submits_by-append c xs p.0 in omega (arith, sum)

module _ (t : Layout) (all : List Step) (w : World) (leads : Leads t opening all w) (old new old' new' : SeatView)
    (words words' : List (List ℕ)) (answer answer' : Content) (first : IsReplied t old words answer new)
    (second : IsReplied t old' words' answer' new') (learnt : IsPrefix new.seen old'.seen) (begins : IsPrefix new'.seen all) where
  -- what the second had seen begins the list
  before_all : IsPrefix second.before all
  before_all = begins_in second.before second.steps all
      (begins_more second.before (Submit old'.conn words' ∷ []) second.steps second.behind)
      (steps_begin t old' new' words' answer' second all w leads begins)

  first_before : IsPrefix new.seen second.before
  first_before = begins_in new.seen old'.seen second.before learnt second.seen

  first_all : IsPrefix new.seen all
  first_all = begins_in new.seen second.before all first_before before_all

  steps_before : IsPrefix first.steps second.before
  steps_before = begins_more first.steps (Collect old.conn ∷ []) second.before
      (subst (λ l. IsPrefix l second.before) (ap (λ (s : SeatView). s.seen) first.seat) first_before)

  abbrev more : IsPrefix first.steps all
  more = steps_begin t old new words answer first all w leads first_all

  goes_on : Leads t opening (first.steps ++ more.0) w
  goes_on = leads_on t old new words answer first all w leads first_all

  -- what has ended was not answered at once
  was_run : (e : Ended) → In e w.ended → e.id ≡ first.outcome.id → first.outcome.stamp ≡ None → ⊥
  was_run e there own none = let it = stands t old new words answer first all w leads first_all in elim it.from [
    | inl ran ↦ None≢Some ran.ended.stamp (sym none ∙ ap (λ (o : Outcome). o.stamp) ran.outcome)
    | inr never ↦ never.not_run e there own
  ]

  -- the first had ended where it was collected
  first_early : (place : ℕ) (e : Ended) → slice_get w.ended place ≡ Some e → e.id ≡ first.outcome.id → place < length first.world.ended
  first_early place e is own =
      let grown = ended_grows t first.steps more.0 first.world w first.leads goes_on in
      elim first.from [
        | inl ran ↦ early first.world.ended grown.0 ran.0 e place
            (subst (λ l. EachOnce (ids_of l)) grown.1 (ends_once t all w leads)) ran.1
            (subst (λ l. slice_get l place ≡ Some e) grown.1 is) (own ∙ ap (λ (o : Outcome). o.id) ran.2)
        | inr once ↦ absurd (was_run e (in_place w.ended place e is) own once.stamp)
      ]

  -- the second ends behind all that had ended there
  second_late : (later : ℕ) (f : Ended) → slice_get w.ended later ≡ Some f → f.id ≡ second.outcome.id → length first.world.ended ≤ later
  second_late later f is own =
      let id = own ∙ second.id in
      let c = old'.conn.0 in
      let conn : f.id.conn.0 ≡ c = ap (λ (i : RequestId). i.conn.0) id in
      let number : f.id.seq ≡ suc (submits_by c second.before) = ap (λ (i : RequestId). i.seq) id in
      let fewer = fewer_submits c first.steps second.before steps_before in
      let here = counts t first.steps first.world c first.leads in
      let less : first.world.seq c < f.id.seq = omega (arith, number, fewer, here) in
      later_run_behind t first.steps more.0 first.world w first.leads goes_on later f is
      (subst (λ d. first.world.seq d < f.id.seq) (sym conn) less)

pub real_time : RealTime
real_time t all w leads old new old' new' words words' answer answer' first second learnt begins place later e f is is' own own' =
    let less = first_early t all w leads old new old' new' words words' answer answer' first second learnt begins place e is own in
    let most = second_late t all w leads old new old' new' words words' answer answer' first second learnt begins later f is' own' in
    omega (arith, less, most)
