-- What was submitted, and what was collected, is what a seat is answered; what a closed cluster tells, and its trace.
use Rattle.std.proofs.Common.{◌≡◌, ◌∙◌, ap, sym, subst, refl, ℕ, suc, ◌+◌, List, [], ◌∷◌, ◌++◌, Option, Some, Result, Ok, Err, OnErr, IfErr}
use Rattle.std.proofs.Common.{IfSome, IfNone, None, inr, append_assoc}
use mathlib.Core.List.{IsPrefix}
use Rattle.cluster.specs.Clusters.{SeatView, last_id}
use Rattle.cluster.proofs.Seats.{submitted_is}
use Rattle.cluster.specs.Histories.{HistoryView, IsLawful, IsMade}
use Rattle.cluster.specs.Outcomes.{ComesFrom, IsAbove, raised}
use Rattle.cluster.specs.Passing.{Passes}
use Rattle.cluster.specs.Submits.{submits_by, IsSaid, session_met}
use Rattle.cluster.specs.declared.cluster.SealedReply.{SealedReply}
use Rattle.groups.specs.declared.request.RequestId.{RequestId}
use Rattle.journal.specs.declared.step.Step.{Step}
use Rattle.journal.specs.declared.step.Step.TheVariants.{Submit, Collect}
use Rattle.placement.specs.Layout.{Layout}
use Rattle.resp.specs.Content.{Content, content}
use Rattle.shared_cluster.proofs.Hands.{turned_settled}
use Rattle.cluster.specs.Sealed.{TakenView, RanView}
use Rattle.shared_cluster.specs.Hands.{Hand, Begun, HasBegun, Answers, HasTurned, HasSettled, Gives}
use Rattle.shared_cluster.specs.declared.asking.Begun.TheVariants as begun
use Rattle.shared_cluster.specs.declared.asking.Settled.TheVariants as settled
use Rattle.shared_cluster.specs.declared.hand.Hand.TheVariants as hand
use Rattle.shared_cluster.specs.Turning.{PassesOn, Finishes}
use Rattle.shared_cluster.specs.Asks.{Submits, HasSubmitted, Replies, IsCollected, IsReplied, IsCollectFault, IsAskFault}
use Rattle.shared_cluster.specs.declared.held.AskFault.{AskFault}
use Rattle.front.specs.Connections.{outcome_shown}
use Rattle.world.specs.Steps.{Submitted, Collected, Steps, Leads, opening}
use Rattle.world_laws.specs.Sessions.{sessions_from, all_free}

-- ---- behind the lock

pub was_submitted : (before mid after : HistoryView) (old new : SeatView) (words : List (List ℕ)) (id : RequestId) → mid ≡ before
    → IsMade mid (Submit old.conn words) (Submitted id) after → IsPrefix old.seen mid.steps
    → new ≡ record old { count = old.count + 1; last = id.seq; seen = after.steps } → Submits before old words after new
was_submitted before mid after old new words id same made behind seat =
    let was = subst (λ (h : HistoryView). IsMade h (Submit old.conn words) (Submitted id) after) same made in
    let is = submitted_is before after old.conn words id was in
    record {
      id = id;
      made = was;
      behind = subst (λ (h : HistoryView). IsPrefix old.seen h.steps) same behind;
      number = λ k. record { conn = is.0 k; seq = is.1 k };
      seat = seat;
    }

pub passed_on : (before mid after : HistoryView) (old new : SeatView) (words : List (List ℕ)) (taken : Option TakenView) → mid ≡ before
    → Passes mid old words taken after new → PassesOn before old words taken after new
passed_on before mid after old new words taken same passes = record {
  begun = passes.begun;
  submits = was_submitted before mid passes.begun old new words passes.id same passes.made passes.behind passes.seat;
  goes_on = passes.goes_on;
}

-- ---- of a shared cluster

pub has_submitted : (before after : HistoryView) (old new : SeatView) (words : List (List ℕ)) → Submits before old words after new
    → HasSubmitted old words new
has_submitted before after old new words submits = record {
  before = before.steps;
  behind = submits.behind;
  seat = submits.seat ∙ (λ k. record {
    conn = old.conn;
    floor = old.floor;
    count = old.count + 1;
    last = ap (λ (i : RequestId). i.seq) submits.number k;
    seen = submits.made.steps k;
  });
}

pub has_collected : (t : Layout) (before after : HistoryView) (old new : SeatView) (reply : Content) → Replies t before old reply after new
    → IsCollected t old reply new
has_collected t before after old new reply replies =
    let it = replies.replied in
    record {
      steps = before.steps;
      behind = it.behind;
      world = it.made.world;
      leads = subst (λ s. Leads s opening before.steps it.made.world) replies.table it.made.leads;
      outcome = outcome_shown it.outcome;
      after = it.made.after;
      collects = subst (λ s. Steps s it.made.world (Collect old.conn) (Collected (Some (outcome_shown it.outcome))) it.made.after)
          replies.table it.made.makes;
      id = it.id;
      reply = sym (ap content it.reply) ∙ replies.is;
      from = λ words said. subst (λ s. ComesFrom s it.made.world (session_met said) words (outcome_shown it.outcome)) replies.table
          (it.from words said);
      above = it.above;
      seat = it.seat ∙ (λ k. record old { floor = raised it.outcome.stamp old.floor; seen = it.made.steps k });
    }

-- ---- what was submitted and then collected

-- these words were said behind those steps, in all that begins with the Submit
said_behind : (old : SeatView) (words : List (List ℕ)) (before steps : List Step) (i : RequestId)
    → i ≡ record { conn = old.conn; seq = suc (submits_by old.conn.0 before) } → IsPrefix (before ++ Submit old.conn words ∷ []) steps
    → (said : IsSaid steps i words) × (said.before ≡ before)
said_behind old words before steps i is begins = (
  record {
    before = before;
    behind = begins.0;
    split = sym begins.1 ∙ append_assoc before (Submit old.conn words ∷ []) begins.0
        ∙ ap (λ c. before ++ Submit c words ∷ begins.0) (sym (ap (λ (x : RequestId). x.conn) is));
    number = ap (λ (x : RequestId). x.seq) is ∙ ap (λ c. suc (submits_by c before)) (sym (ap (λ (x : RequestId). x.conn.0) is));
  },
  refl,
)

pub replied_of : (t : Layout) (old mid new : SeatView) (words : List (List ℕ)) (reply : Content) → HasSubmitted old words mid
    → IsCollected t mid reply new → IsReplied t old words reply new
unfolding said_behind
replied_of t old mid new words reply has collected =
    let conn : mid.conn ≡ old.conn = ap (λ (s : SeatView). s.conn) has.seat in
    let id : collected.outcome.id ≡ record { conn = old.conn; seq = suc (submits_by old.conn.0 has.before) } =
    collected.id ∙ ap last_id has.seat in
    let behind = subst (λ (s : SeatView). IsPrefix s.seen collected.steps) has.seat collected.behind in
    let said = said_behind old words has.before collected.steps collected.outcome.id id behind in
    record {
      before = has.before;
      seen = has.behind;
      steps = collected.steps;
      behind = behind;
      world = collected.world;
      leads = collected.leads;
      outcome = collected.outcome;
      after = collected.after;
      collects = subst (λ c. Steps t collected.world (Collect c) (Collected (Some collected.outcome)) collected.after) conn
          collected.collects;
      id = id;
      reply = collected.reply;
      from = subst (λ c. ComesFrom t collected.world (sessions_from all_free has.before c) words collected.outcome)
          (ap (λ (x : RequestId). x.conn.0) id) (collected.from words said.0);
      above = subst (λ (s : SeatView). IsAbove collected.outcome.stamp s.floor) has.seat collected.above;
      seat = collected.seat ∙ (λ k. record {
        conn = conn k;
        floor = raised collected.outcome.stamp (ap (λ (s : SeatView). s.floor) has.seat k);
        count = ap (λ (s : SeatView). s.count) has.seat k;
        last = (ap (λ (s : SeatView). s.last) has.seat ∙ sym (ap (λ (x : RequestId). x.seq) id)) k;
        seen = collected.steps ++ Collect (conn k) ∷ [];
      });
    }

-- what came of a request in the holding in which it was submitted
pub answers_of : (t : Layout) (old mid new : SeatView) (words : List (List ℕ)) (b : Begun) → HasSubmitted old words mid
    → HasBegun t mid b new → Answers t old words b new
answers_of t old mid new words (begun.Replied sealed) has collected =
    replied_of t old mid new words (content sealed.reply) has collected
answers_of t old mid new words (begun.Waits held) has waits = (subst (HasSubmitted old words) (sym waits.0) has, waits.1)

pub collected_there : (t : Layout) (before after : HistoryView) (old new : SeatView) (o : Option SealedReply) (x : SealedReply)
    → o ≡ Some x → IfSome o (λ y. Replies t before old (content y.reply) after new) → IsCollected t old (content x.reply) new
collected_there t before after old new o x is replies =
    has_collected t before after old new (content x.reply)
    (subst (λ (p : Option SealedReply). IfSome p (λ y. Replies t before old (content y.reply) after new)) is replies)

-- ---- what came of a layer is settled, and what came of the seat's request collected in the same holding

pub gives_turned : (t : Layout) (ran : RanView) (s s' : SeatView) (o : Option SealedReply) (old new : Hand) → old ≡ hand.HasRun ran
    → new ≡ hand.Free → Gives t ran s (settled.Gives o) s' → HasTurned t old new
gives_turned t ran s s' (Some sealed) old new is free gives =
    subst (HasTurned t old) (sym free) (turned_settled t old ran is gives.0)
gives_turned t ran s s' None old new is free gives = subst (HasTurned t old) (sym free) (turned_settled t old ran is gives.0)

pub gives_replied : (t : Layout) (ran : RanView) (s s' : SeatView) (o : Option SealedReply) → Gives t ran s (settled.Gives o) s'
    → IfSome o (λ sealed. IsCollected t s (content sealed.reply) s')
gives_replied t ran s s' (Some sealed) gives = gives.1
gives_replied t ran s s' None gives = tt

pub gives_unasked : (t : Layout) (ran : RanView) (s s' : SeatView) (o : Option SealedReply) → Gives t ran s (settled.Gives o) s'
    → IfNone o (s' ≡ s)
gives_unasked t ran s s' (Some sealed) gives = tt
gives_unasked t ran s s' None gives = gives.1

pub gives_of : (t : Layout) (ran : RanView) (s s' : SeatView) (o : Option SealedReply) → HasSettled ran
    → IfSome o (λ sealed. IsCollected t s (content sealed.reply) s') → IfNone o (s' ≡ s) → Gives t ran s (settled.Gives o) s'
gives_of t ran s s' (Some sealed) has replied same = (has, replied)
gives_of t ran s s' None has replied same = (has, same)

-- both by one call
pub gives_finished : (t : Layout) (before after : HistoryView) (ran : RanView) (s s' : SeatView) (x : SealedReply) → IsLawful before
    → Finishes t before ran s (content x.reply) after s' → Gives t ran s (settled.Gives (Some x)) s'
gives_finished t before after ran s s' x lawful it = (
  record { before = before; after = it.mid; lawful = lawful; settled = it.settled },
  has_collected t it.mid after s s' (content x.reply) it.replies,
)

-- what is refused once the request was submitted
pub begun_fault : (old mid new : SeatView) (words : List (List ℕ)) (fault : AskFault) → HasSubmitted old words mid → new ≡ mid
    → IsCollectFault mid fault → IsAskFault old words fault new
begun_fault old mid new words fault has same refused =
    inr (subst (HasSubmitted old words) (sym same) has, subst (λ s. IsCollectFault s fault) (sym same) refused)

pub waited_fault : {X : Type 0} (old mid : SeatView) (words : List (List ℕ)) (r : Result X AskFault) (new : SeatView)
    → HasSubmitted old words mid → IfErr r (IsCollectFault mid) → OnErr r (new ≡ mid) → IfErr r (λ fault. IsAskFault old words fault new)
waited_fault old mid words (Ok x) new has refused same = tt
waited_fault old mid words (Err fault) new has refused same = begun_fault old mid new words fault has same refused
