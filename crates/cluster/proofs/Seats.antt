-- What a cluster is, it is after each of its steps.
use Rattle.std.proofs.Common.{◌≡◌, ℕ, zero, suc, ◌+◌, ◌<◌, ◌≤◌, Bool, true, false, List, [], ◌∷◌, ◌++◌, ◌⊎◌, length, Option, Some, None}
use Rattle.std.proofs.Common.{Result, Ok, Err, IfOk, OnOk, OnErr, refl, sym, ap, ◌∙◌, subst, arith, inl, inr, length-append}
use mathlib.Core.List.{IsPrefix}
use Rattle.cluster.proofs.Effects.{submitted_so}
use Rattle.cluster.proofs.Submits.{submits-append, submits-one, said_now}
use Rattle.cluster.proofs.Worlds.{counts}
use Rattle.cluster.specs.Clusters.{ClusterView, SeatView, IsCluster, StaysOpen, KeepsCloses}
use Rattle.cluster.specs.Histories.{HistoryView, IsMade, IsUnchanged}
use Rattle.cluster.specs.Layers.{HandsOut, IsSettled}
use Rattle.cluster.specs.Passing.{Arrives, GoesOn, HasPassed, Passes}
use Rattle.front.specs.Passing.{packets_in}
use Rattle.cluster.specs.Sealed.{TakenView}
use Rattle.cluster.specs.Submits.{submit_in, submits, submits_by}
use Rattle.cluster.specs.Traces.{HasRoom}
use Rattle.cluster.specs.Turns.{Delivers}
use Rattle.cluster.specs.declared.fault.StepFault.{StepFault}
use Rattle.groups.specs.declared.request.ConnId.{ConnId}
use Rattle.groups.specs.declared.request.RequestId.{RequestId}
use Rattle.journal.specs.declared.step.Step.{Step}
use Rattle.journal.specs.declared.step.Step.TheVariants.{Open, Submit, Run, Settle, Close}
use Rattle.journal.specs.declared.trace.TheConstants.{GREATEST_STEPS}
use Rattle.layer_results.specs.Results.{names_of}
use Rattle.layer_results.specs.declared.done.DoneRow.{DoneRow}
use Rattle.world.specs.Steps.{Effect, Submitted, Made}

one_more : (h h' : List Step) (s : Step) → h' ≡ h ++ s ∷ [] → length h' ≡ suc (length h)
one_more h h' s longer = let k = ap length longer in omega (arith, length-append h (s ∷ []))

submits_few : (steps : List Step) → submits steps ≤ length steps
submits_few [] = omega arith
submits_few (s ∷ steps) = omega (arith, submits_few steps, one_at_most s)
  where
    one_at_most : (s : Step) → submit_in s ≤ 1
    one_at_most (Submit conn words) = omega arith
    one_at_most s = omega arith

-- ---- the room for Closes

module _ {kept : ℕ} {c : ClusterView} (is : KeepsCloses kept c) (h' : HistoryView) where
  pub room_still : (book back : ℕ) → (HasRoom kept c.history.trace → HasRoom kept h'.trace) →
      KeepsCloses kept (record c { history = h'; book = book; back = back })
  room_still book back so = record { each = is.each; room = so is.room }

  pub room_sat : {kept' : ℕ} (back : ℕ) → kept' ≡ kept + 10 → HasRoom kept' h'.trace →
      KeepsCloses kept' (record c { history = h'; sat = c.sat + 1; back = back })
  room_sat back more room = record { each = let each = is.each in omega arith; room = room }

  pub room_stood : {kept' : ℕ} (back : ℕ) → kept' + 10 ≡ kept → HasRoom kept' h'.trace →
      KeepsCloses kept' (record c { history = h'; stood = c.stood + 1; back = back })
  room_stood back less room = record { each = let each = is.each in omega arith; room = room }

module _ {all parts requests : ℕ} {c : ClusterView} (is : IsCluster all parts requests c) where
  -- there are fewer requests than any number that is counted in
  pub requests_few : requests ≤ GREATEST_STEPS
  requests_few = omega (arith, is.counted, is.booked, is.within, is.few, submits_few c.history.steps)

  -- who stands has a part of the ledger, so not all have stood
  pub some_kept : {kept : ℕ} → KeepsCloses kept c → (parts' : ℕ) → parts' ≡ parts + 1 → parts' ≤ all → 10 ≤ kept
  some_kept keeps parts' more within =
      let seats = is.seats in
      let each = keeps.each in
      let out : c.stood + 1 ≤ c.sat = omega arith in
      omega arith

  -- a seat's part comes back
  cluster_merged : (parts' back : ℕ) → parts' ≡ parts + 1 →
      IsCluster all parts' requests (record c { stood = c.stood + 1; back = back })
  cluster_merged parts' back more = record {
    booked = is.booked;
    counted = is.counted;
    seats = omega (arith, is.seats, more);
    sits = is.sits;
    within = is.within;
    most = is.most;
    few = is.few;
  }

module _ {all parts requests : ℕ} {c : ClusterView} (is : IsCluster all parts requests c) (h' : HistoryView) where
  -- ---- no step

  pub cluster_same : h'.steps ≡ c.history.steps → h'.max_steps ≡ c.history.max_steps →
      IsCluster all parts requests (record c { history = h' })
  cluster_same steps most = record {
    booked = is.booked ∙ sym (ap submits steps);
    counted = is.counted;
    seats = is.seats;
    sits = omega (arith, is.sits, ap length steps);
    within = omega (arith, is.within, ap length steps, most);
    most = omega (arith, is.most, most);
    few = omega (arith, is.few, most);
  }

  pub cluster_still : IsUnchanged c.history h' → IsCluster all parts requests (record c { history = h' })
  cluster_still still = cluster_same still.steps still.max_steps

  -- ---- a step

  cluster_made : (parts' requests' book sat back : ℕ) {s : Step} {e : Effect} → IsMade c.history s e h' → book ≡ c.book + submit_in s →
      requests' ≡ book → parts' + sat ≡ all + c.stood → sat ≤ suc (length c.history.steps) →
      IsCluster all parts' requests' (record c { history = h'; book = book; sat = sat; back = back })
  cluster_made parts' requests' book sat back {s} made booked counted seats sits = record {
    booked = omega (arith, is.booked, booked, ap submits made.steps, submits-one c.history.steps s);
    counted = counted;
    seats = seats;
    sits = omega (arith, sits, one_more c.history.steps h'.steps s made.steps);
    within = omega (arith, made.left, made.max_steps, one_more c.history.steps h'.steps s made.steps);
    most = omega (arith, is.most, made.max_steps);
    few = omega (arith, is.few, made.max_steps);
  }

  -- that submits no request
  pub cluster_other : {s : Step} {e : Effect} → IsMade c.history s e h' → submit_in s ≡ 0 →
      IsCluster all parts requests (record c { history = h' })
  cluster_other made none =
      cluster_made parts requests c.book c.sat c.back made (omega (arith, none)) is.counted is.seats (omega (arith, is.sits))

  pub cluster_sat : (rest back : ℕ) {e : Effect} → IsMade c.history Open e h' → rest + 1 ≡ parts →
      IsCluster all rest requests (record c { history = h'; sat = c.sat + 1; back = back })
  cluster_sat rest back made one =
      cluster_made rest requests c.book (c.sat + 1) back made (omega arith) is.counted (omega (arith, is.seats, one))
      (omega (arith, is.sits))

  pub cluster_submitted : (requests' book : ℕ) {conn : ConnId} {words : List (List ℕ)} {e : Effect} →
      IsMade c.history (Submit conn words) e h' → requests' ≡ requests + 1 → book ≡ c.book + 1 →
      IsCluster all parts requests' (record c { history = h'; book = book })
  cluster_submitted requests' book made counted booked =
      cluster_made parts requests' book c.sat c.back made booked (omega (arith, counted, booked, is.counted)) is.seats
      (omega (arith, is.sits))

  -- ---- whatever is answered

  -- a turn
  pub cluster_turned : (pick : ℕ → ℕ) (r : Result Bool StepFault) → IfOk r (λ made. made ≡ true → Delivers pick c.history h') →
      IfOk r (λ made. made ≡ false → h' ≡ c.history) → OnErr r (IsUnchanged c.history h') →
      IsCluster all parts requests (record c { history = h' })
  cluster_turned pick (Ok true) made unmade still = cluster_other (made refl).made refl
  cluster_turned pick (Ok false) made unmade still =
      subst (λ h. IsCluster all parts requests (record c { history = h })) (sym (unmade refl)) is
  cluster_turned pick (Err f) made unmade still = cluster_still still

  -- a take
  pub cluster_taken : (r : Result TakenView StepFault) → IfOk r (λ v. HandsOut c.history v h') → OnErr r (IsUnchanged c.history h') →
      IsCluster all parts requests (record c { history = h' })
  cluster_taken (Ok v) out still = cluster_other out.made refl
  cluster_taken (Err f) out still = cluster_still still

  -- a settle: two steps more, neither of which submits a request
  pub cluster_settled : (done : List DoneRow) → IsSettled c.history done h' → IsCluster all parts requests (record c { history = h' })
  cluster_settled done settled =
      let two = length-append c.history.steps (Run (names_of done) ∷ Settle ∷ []) in
      record {
        booked = omega (arith, is.booked, ap submits settled.steps, submits-append c.history.steps (Run (names_of done) ∷ Settle ∷ []));
        counted = is.counted;
        seats = is.seats;
        sits = omega (arith, is.sits, ap length settled.steps, two);
        within = omega (arith, settled.left, settled.max_steps, ap length settled.steps, two);
        most = omega (arith, is.most, settled.max_steps);
        few = omega (arith, is.few, settled.max_steps);
      }

  pub cluster_told : (done : List DoneRow) {E : Type 0} (r : Result (Unit {0}) E) → OnOk r (IsSettled c.history done h') →
      OnErr r (IsUnchanged c.history h') → IsCluster all parts requests (record c { history = h' })
  cluster_told done (Ok u) settled still = cluster_settled done settled
  cluster_told done (Err e) settled still = cluster_still still

-- the id of the request
pub submitted_is : (h h' : HistoryView) (conn : ConnId) (words : List (List ℕ)) (id : RequestId) →
    IsMade h (Submit conn words) (Submitted id) h' → (id.conn ≡ conn) × (id.seq ≡ suc (submits_by conn.0 h.steps))
submitted_is h h' conn words id made =
    let so = submitted_so h h' conn words id made in (
      ap (λ (i : RequestId). i.conn) so ∙ (λ k. record { 0 = conn.0 }),
      ap (λ (i : RequestId). i.seq) so ∙ ap suc (counts h.front.table h.steps made.world conn.0 made.leads),
    )

-- ---- stand

-- a seat has stood, whether its connection was closed or not
pub cluster_stood : {all parts requests : ℕ} {c : ClusterView} → IsCluster all parts requests c → (h' : HistoryView) (parts' back : ℕ)
    (conn : ConnId) → IsMade c.history (Close conn) Made h' ⊎ StaysOpen conn c.history h' → parts' ≡ parts + 1 →
    IsCluster all parts' requests (record c { history = h'; stood = c.stood + 1; back = back })
cluster_stood is h' parts' back conn (inl made) more = cluster_merged (cluster_other is h' made refl) parts' back more
cluster_stood is h' parts' back conn (inr still) more = cluster_merged (cluster_still is h' still.unchanged) parts' back more

-- ---- a request that may be handed out at once

arrived_on : {all parts requests : ℕ} {c : ClusterView} (n : ℕ) → IsCluster all parts requests c → (h' : HistoryView) →
    Arrives n c.history h' → IsCluster all parts requests (record c { history = h' })
arrived_on zero is h' same = cluster_same is h' (ap (λ (h : HistoryView). h.steps) same) (ap (λ (h : HistoryView). h.max_steps) same)
arrived_on (suc n) is h' (mid, first, rest) = arrived_on n (cluster_other is mid first.made refl) h' rest

gone_on : {all parts requests : ℕ} {c : ClusterView} → IsCluster all parts requests c → (h' : HistoryView) (taken : Option TakenView) →
    GoesOn c.history taken h' → IsCluster all parts requests (record c { history = h' })
gone_on is h' None same = arrived_on 0 is h' same
gone_on is h' (Some v) more = cluster_other (arrived_on (packets_in v.layer) is more.come more.arrives) h' more.hands_out.made refl

pub cluster_passed : {all parts requests : ℕ} {c : ClusterView} → IsCluster all parts requests c → (h' : HistoryView) (requests' book : ℕ)
    {conn : ConnId} {words : List (List ℕ)} {id : RequestId} {seen : List Step} {taken : Option TakenView} →
    HasPassed c.history conn words id seen taken h' → requests' ≡ requests + 1 → book ≡ c.book + 1 →
    IsCluster all parts requests' (record c { history = h'; book = book })
cluster_passed is h' requests' book passed counted booked =
    gone_on (cluster_submitted is passed.begun requests' book passed.made counted booked) h' _ passed.goes_on

-- what the seat is told
pub seat_passed : (h h' : HistoryView) (s after : SeatView) (words : List (List ℕ)) (id : RequestId) (seen : List Step)
    (taken : Option TakenView) → HasPassed h s.conn words id seen taken h' → IsPrefix s.seen h.steps →
    after ≡ record s { count = s.count + 1; last = id.seq; seen = seen } → Passes h s words taken h' after
seat_passed h h' s after words id seen taken passed behind seat =
    let is = submitted_is h passed.begun s.conn words id passed.made in
    record {
      id = id;
      begun = passed.begun;
      made = passed.made;
      behind = behind;
      said = said_now h.steps passed.begun.steps id words
          (passed.made.steps ∙ ap (λ i. h.steps ++ Submit i words ∷ []) (sym is.0))
          (is.1 ∙ ap (λ (i : ConnId). suc (submits_by i.0 h.steps)) (sym is.0));
      seat = seat ∙ ap (λ steps. record s { count = s.count + 1; last = id.seq; seen = steps }) passed.up_to;
      goes_on = passed.goes_on;
    }

-- ---- none

pub cluster_new : (all parts : ℕ) (h : HistoryView) (book most back : ℕ) → parts ≡ all → book ≡ 0 → h.steps ≡ [] → h.max_steps ≡ most →
    most < all → most ≤ GREATEST_STEPS → IsCluster all parts 0 (record { history = h; book = book; sat = 0; stood = 0; back = back })
cluster_new all parts h book most back whole zero' none same enough few = record {
  booked = zero' ∙ sym (ap submits none);
  counted = sym zero';
  seats = omega (arith, whole);
  sits = omega arith;
  within = omega (arith, ap length none);
  most = omega (arith, enough, same);
  few = omega (arith, few, same);
}
