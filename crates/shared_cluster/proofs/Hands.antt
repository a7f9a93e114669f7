-- What is in a hand behind a turn, and what came of a seat's request.
use Rattle.std.proofs.Common.{◌≡◌, ◌∙◌, ℕ, Bool, true, false, Option, Some, None, Result, Ok, Err, inl, refl, sym, subst, IfOk, IfSome}
use Rattle.std.proofs.Common.{IfNone, OnOk, OnErr, OnSome, ap}
use Rattle.cluster.specs.Clusters.{SeatView, ClusterView}
use Rattle.cluster.specs.Histories.{HistoryView, IsLawful}
use Rattle.groups.specs.declared.request.ConnId.{ConnId}
use Rattle.cluster.specs.Passing.{TakesAtOnce}
use Rattle.cluster.specs.Sealed.{TakenView, RanView}
use Rattle.cluster.proofs.Tapes.{same_trace}
use Rattle.placement.specs.Layout.{Layout}
use Rattle.router.specs.Router.{waiting}
use Rattle.shared_cluster.specs.Hands.{Hand, Run, Next, IsFound, taken_up, turn_of, Begins, IsBrought, Brings, HasSettled, Settles}
use Rattle.shared_cluster.specs.Hands.{Advances, HasTurned, IsUncollected, MayHold}
use Rattle.shared_cluster.specs.Turning.{GoesOn, RefusesSettle, StaysSo, IsNotThere}
use Rattle.shared_cluster.specs.declared.hand.Hand.TheVariants as hand
use Rattle.shared_cluster.specs.declared.hand.Run.TheVariants as run
use Rattle.shared_cluster.specs.declared.held.Next.TheVariants as next
use Rattle.shared_cluster.specs.declared.held.Unsettled.{Unsettled}
use Rattle.shared_cluster.specs.declared.held.Unsettled.TheVariants.{Starved, Foreign}
use Rattle.shared_cluster.specs.declared.shared.Turn.{Turn}
use Rattle.shared_cluster.specs.declared.shared.Turn.TheVariants as turn

-- ---- a hand that is free begins

pub found_so : {E : Type 0} (pick : ℕ → ℕ) (before after : HistoryView) (r : Result Next E) → OnOk r (IsLawful before)
    → IfOk r (GoesOn pick before after) → IfOk r (IsFound pick)
found_so pick before after (Ok found) lawful goes = record { before = before; after = after; lawful = lawful; goes_on = goes }
found_so pick before after (Err fault) lawful goes = tt

pub begins_so : (pick : ℕ → ℕ) (old : Hand) (found which : Next) → IsFound pick found → found ≡ which
    → Begins pick old (turn_of which) (taken_up old which)
begins_so pick old found which was is = record { found = which; was = subst (IsFound pick) is was; told = refl; holds = refl }

-- a layer that was taken at once
pub held_at_once : (begun new : HistoryView) (layer : TakenView) → TakesAtOnce begun layer new → MayHold (hand.Taken layer)
held_at_once begun new layer takes = (
  λ n. 0,
  record {
    before = takes.come;
    after = new;
    lawful = takes.lawful;
    goes_on = (record { out = takes.free; request = takes.ready.0; ready = takes.ready.1 }, takes.hands_out);
  },
)

-- ---- a layer is in the hand

-- a layer that found no memory is given back, so who runs it again runs the same
pub brought_again : (t : Layout) (may_refuse : Bool) (layer given : TakenView) (first came : Run) → IsBrought t may_refuse layer first
    → first ≡ run.Starved given → IsBrought t may_refuse given came → IsBrought t may_refuse layer came
brought_again t may_refuse layer given first came brought is again =
    let back : IsBrought t may_refuse layer (run.Starved given) = subst (IsBrought t may_refuse layer) is brought in
    subst (λ (v : TakenView). IsBrought t may_refuse v came) back.brings_on.0 again

pub brings_done : (t : Layout) (may_refuse : Bool) (layer : TakenView) (came : Run) (ran : RanView) → IsBrought t may_refuse layer came
    → came ≡ run.Handed ran → Brings t may_refuse layer (turn.Made false) (hand.HasRun ran)
brings_done t may_refuse layer came ran brought is = (refl, subst (IsBrought t may_refuse layer) is brought)

pub brings_back : (t : Layout) (may_refuse : Bool) (layer given : TakenView) (came : Run) → IsBrought t may_refuse layer came
    → came ≡ run.Starved given → Brings t may_refuse layer turn.Starved (hand.Taken given)
brings_back t may_refuse layer given came brought is =
    let back : IsBrought t may_refuse layer (run.Starved given) = subst (IsBrought t may_refuse layer) is brought in
    (refl, back.brings_on.0)

-- ---- what came of a layer is in the hand

-- what isn't settled is given back
pub given_back : (h : HistoryView) (done given : RanView) (u : Unsettled RanView) → RefusesSettle h done u → u ≡ Starved given
    → given ≡ done
given_back h done given (Starved other) refused is = let same : other ≡ given = cc in sym same ∙ refused.0
given_back h done given (Foreign why) refused is = cc

-- what was left of a settling that gives back what it was given
pub given_left : (done given : RanView) (left : Option (RanView)) → IfSome left (λ other. other ≡ done) → left ≡ Some given
    → given ≡ done
given_left done given left same is = subst (λ (l : Option (RanView)). IfSome l (λ other. other ≡ done)) is same

pub settled_none : (done : RanView) (left : Option (RanView)) → IfNone left (HasSettled done) → left ≡ None → HasSettled done
settled_none done left settled is = subst (λ (l : Option (RanView)). IfNone l (HasSettled done)) is settled

pub settled_again : {E : Type 0} (done given : RanView) (r : Result (Option (RanView)) E) → given ≡ done
    → IfOk r (λ left. IfNone left (HasSettled given)) → IfOk r (λ left. IfNone left (HasSettled done))
settled_again done given r same settled = subst (λ (d : RanView). IfOk r (λ left. IfNone left (HasSettled d))) same settled

pub given_again : {E : Type 0} (done given : RanView) (r : Result (Option (RanView)) E) → given ≡ done
    → IfOk r (λ left. IfSome left (λ other. other ≡ given)) → IfOk r (λ left. IfSome left (λ other. other ≡ done))
given_again done given r same back = subst (λ (d : RanView). IfOk r (λ left. IfSome left (λ other. other ≡ d))) same back

-- ---- any hand

pub advances_free : {E : Type 0} (t : Layout) (pick : ℕ → ℕ) (may_refuse : Bool) (old mid new : Hand) (r : Result Turn E) → old ≡ hand.Free
    → mid ≡ hand.Free → IfOk r (λ which. Begins pick mid which new) → IfOk r (λ which. Advances t pick may_refuse old which new)
advances_free t pick may_refuse old mid new r is free begins =
    subst (λ (o : Hand). IfOk r (λ which. Advances t pick may_refuse o which new)) (sym is)
    (subst (λ (m : Hand). IfOk r (λ which. Begins pick m which new)) free begins)

pub advances_taken : {E : Type 0} (t : Layout) (pick : ℕ → ℕ) (may_refuse : Bool) (old new : Hand) (layer : TakenView) (r : Result Turn E)
    → old ≡ hand.Taken layer → IfOk r (λ which. Brings t may_refuse layer which new)
    → IfOk r (λ which. Advances t pick may_refuse old which new)
advances_taken t pick may_refuse old new layer r is brings =
    subst (λ (o : Hand). IfOk r (λ which. Advances t pick may_refuse o which new)) (sym is) brings

pub advances_run : {E : Type 0} (t : Layout) (pick : ℕ → ℕ) (may_refuse : Bool) (old mid new : Hand) (done : RanView) (r : Result Turn E)
    → old ≡ hand.HasRun done → mid ≡ hand.Free → IfOk r (λ which. Settles done mid which new)
    → IfOk r (λ which. Advances t pick may_refuse old which new)
advances_run t pick may_refuse old mid new done r is free settles =
    subst (λ (o : Hand). IfOk r (λ which. Advances t pick may_refuse o which new)) (sym is)
    (subst (λ (m : Hand). IfOk r (λ which. Settles done m which new)) free settles)

-- there is nothing to do only for a hand that is free, and it stays so
idle_so : (found : Next) (new : Hand) → turn.Quiet ≡ turn_of found → new ≡ taken_up hand.Free found → new ≡ hand.Free
idle_so next.Quiet new is same = same
idle_so found new is same = cc

quiet_is_free : (t : Layout) (pick : ℕ → ℕ) (may_refuse : Bool) (old new : Hand) → Advances t pick may_refuse old turn.Quiet new
    → (old ≡ hand.Free) × (new ≡ hand.Free)
quiet_is_free t pick may_refuse hand.Free new turns = (refl, idle_so turns.found new turns.told turns.holds)
quiet_is_free t pick may_refuse (hand.Taken layer) hand.Free turns = absurd turns
quiet_is_free t pick may_refuse (hand.Taken layer) new turns = absurd (let other = turns.0 in cc)
quiet_is_free t pick may_refuse (hand.HasRun done) new turns = absurd turns

pub idle_is_free : (t : Layout) (pick : ℕ → ℕ) (may_refuse : Bool) (old new : Hand) (which : Turn)
    → Advances t pick may_refuse old which new → which ≡ turn.Quiet → (old ≡ hand.Free) × (new ≡ hand.Free)
idle_is_free t pick may_refuse old new which turns is =
    quiet_is_free t pick may_refuse old new (subst (λ (v : Turn). Advances t pick may_refuse old v new) is turns)

-- ---- what came of a seat's request

-- nothing has changed
pub stays_so : (k : ClusterView) → StaysSo k k
stays_so k = record {
  history = record { front = refl; max_steps = refl; steps = refl; ran = refl; trace = same_trace k.history.trace };
  book = record { book = refl; back = refl; stood = refl };
  sat = refl;
}

pub stays_by : (old new : ClusterView) → new ≡ old → StaysSo old new
stays_by old new same = subst (StaysSo old) (sym same) (stays_so old)

pub nothing_there : (k : ClusterView) (s : SeatView) (conn : ConnId) → conn ≡ s.conn
    → IsLawful k.history × (waiting k.history.front.router conn.0 ≡ None) → IsUncollected s
nothing_there k s conn is none = record {
  before = k;
  after = k;
  lawful = none.0;
  none = inl (subst (λ (c : ConnId). waiting k.history.front.router c.0 ≡ None) is none.1);
  stays = stays_so k;
}

pub found_uncollected : {X E : Type 0} (old new : ClusterView) (s : SeatView) (r : Result (Option X) E)
    → IfOk r (λ reply. IfNone reply (IsLawful old.history × IsNotThere old.history s))
    → IfOk r (λ reply. IfNone reply (StaysSo old new)) → IfOk r (λ reply. IfNone reply (IsUncollected s))
found_uncollected old new s (Ok None) none same =
    record { before = old; after = new; lawful = none.0; none = none.1; stays = same }
found_uncollected old new s r none same = tt

-- what came of the layer in the hand was settled, or is there still
pub turned_settled : (t : Layout) (old : Hand) (ran : RanView) → old ≡ hand.HasRun ran → HasSettled ran → HasTurned t old hand.Free
turned_settled t old ran is settled = record {
  pick = λ n. n;
  may_refuse = false;
  which = turn.Made true;
  turns = subst (λ (o : Hand). Advances t (λ n. n) false o (turn.Made true) hand.Free) (sym is) (refl, refl, settled);
}

pub turned_starved : (t : Layout) (old : Hand) (ran given : RanView) → old ≡ hand.HasRun ran → given ≡ ran
    → HasTurned t old (hand.HasRun given)
turned_starved t old ran given is same = record {
  pick = λ n. n;
  may_refuse = false;
  which = turn.Starved;
  turns = subst (λ (o : Hand). Advances t (λ n. n) false o turn.Starved (hand.HasRun given)) (sym is) (ap hand.HasRun same);
}

-- ---- what holds whatever is answered

pub if_ok : {X E : Type 0} {P : X → Type 0} (r : Result X E) → ((x : X) → P x) → IfOk r P
if_ok (Ok x) holds = holds x
if_ok (Err fault) holds = tt

pub if_on_ok : {X E P : Type 0} {Q : X → Type 0} (r : Result X E) → OnOk r P → (P → (x : X) → Q x) → IfOk r Q
if_on_ok (Ok x) holds so = so holds x
if_on_ok (Err fault) holds so = tt

pub on_some : {X P : Type 0} (o : Option X) → P → OnSome o P
on_some (Some x) holds = holds
on_some None holds = tt

pub on_err : {X E P : Type 0} (r : Result X E) → P → OnErr r P
on_err (Ok x) holds = tt
on_err (Err fault) holds = holds

pub if_some : {X P : Type 0} (o : Option X) → P → IfSome o (λ x. P)
if_some (Some x) holds = holds
if_some None holds = tt

pub if_none : {X P : Type 0} (o : Option X) → P → IfNone o P
if_none (Some x) holds = tt
if_none None holds = holds
