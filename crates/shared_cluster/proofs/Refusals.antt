-- What is told of a step that is refused.
use Rattle.std.proofs.Common.{◌≡◌, ℕ, Bool, true, false, ◌&&◌, ◌==◌, if◌then◌else◌, List, [], ◌∷◌, ◌++◌, length, inl, inr, None, is_none}
use Rattle.std.proofs.Common.{refl, sym, ap, ◌∙◌, subst}
use Rattle.std.proofs.lemmas.Bool.{both_ways}
use Rattle.std.specs.Prelude.{codes}
use Rattle.router.specs.Lists.{is_listing}
use Rattle.router.specs.Router.{session_at}
use Rattle.command_table.specs.Words.{Word, is_word}
use Rattle.sessions.specs.Control.{control_of, control_in}
use Rattle.sessions.specs.Replies.{queued, nested}
use Rattle.sessions.specs.Session.{Answer, Now, asked, asks, Queues}
use Rattle.sessions.specs.declared.member.Member.{Member}
use Rattle.sessions.specs.declared.session.Session.{Session}
use Rattle.sessions.specs.declared.session.Session.TheVariants.{Free, Listing, Spoilt}
use Rattle.cluster.specs.Clusters.{SeatView}
use Rattle.cluster.specs.Histories.{HistoryView, IsLawful, IsFault}
use Rattle.cluster.specs.declared.fault.StepFault.{StepFault}
use Rattle.cluster.specs.declared.fault.StepFault.TheVariants as step
use Rattle.journal.specs.declared.step.Step.TheVariants.{Submit}
use Rattle.shared_cluster.specs.Asks.{is_listed, told_in, unlisted, lasting, RefusesAsk, RefusesSubmit, RefusesTurn, IsStopped, IsAskFault}
use Rattle.shared_cluster.specs.Desks.{IsUnqueued, IsStarved}
use Rattle.shared_cluster.specs.declared.fault.FaultKind.{FaultKind}
use Rattle.shared_cluster.specs.declared.fault.FaultKind.TheVariants.{Closed, Memory}
use Rattle.cluster.specs.Sealed.{RanView}
use Rattle.shared_cluster.specs.Turning.{RefusesSettle}
use Rattle.shared_cluster.specs.declared.held.AskFault.{AskFault}
use Rattle.shared_cluster.specs.declared.held.Unsettled.{Unsettled}
use Rattle.shared_cluster.specs.declared.held.Unsettled.TheVariants.{Starved, Foreign}

-- ---- behind the lock

pub open_refuses : (shut stopped : Bool) (h : HistoryView) (telling : StepFault → FaultKind) (IsWhy : StepFault → Type 0)
    (own : StepFault) (kind : FaultKind) → shut ≡ false → stopped ≡ false → IsLawful h → IsWhy own → kind ≡ telling own
    → RefusesAsk shut stopped h telling IsWhy kind
open_refuses false false h telling IsWhy own kind shut goes lawful refused is =
    record { lawful = lawful; own = own; is = sym is; why = refused }
open_refuses shut stopped h telling IsWhy own kind unshut goes lawful refused is = cc

-- a submit that the cluster refuses
pub submit_refused : (shut stopped : Bool) (h : HistoryView) (s : SeatView) (words : List (List ℕ)) (listed : Bool) (own : StepFault)
    (kind : FaultKind) → shut ≡ false → stopped ≡ false → IsLawful h → listed ≡ is_listed h s.conn words
    → IsFault h (Submit s.conn words) own → kind ≡ told_in listed own
    → RefusesAsk shut stopped h (told_in (is_listed h s.conn words)) (IsFault h (Submit s.conn words)) kind
submit_refused shut stopped h s words listed own kind unshut goes lawful is refused told_so =
    open_refuses shut stopped h (told_in (is_listed h s.conn words)) (IsFault h (Submit s.conn words)) own kind unshut goes lawful
    refused (told_so ∙ ap (λ b. told_in b own) is)

-- what isn't told is want of memory
pub untold : (IsWhy : StepFault → Type 0) (own : StepFault) → lasting own ≡ None → IsWhy own → IsWhy step.Memory
untold IsWhy step.Memory is why = why
untold IsWhy own is why = cc

-- ---- of a shared cluster

pub found_unsettled : (h : HistoryView) (done : RanView) (u : Unsettled RanView) (fault : AskFault) → RefusesSettle h done u
    → u ≡ Foreign fault → IsStopped fault
found_unsettled h done (Starved given) fault refused is = cc
found_unsettled h done (Foreign why) fault refused is =
    let same : why ≡ fault = cc in (true, h, subst (RefusesTurn true h) same refused.1)

-- ---- of a request that was to be the next member of an open list

-- what is told as want of memory is told of words that aren't listed
memory_unlisted : (listed : Bool) (kind : FaultKind) → unlisted listed kind ≡ Memory → listed ≡ false
memory_unlisted false kind is = refl
memory_unlisted true Closed is = cc
memory_unlisted true kind is = cc

-- whichever of three tests is the first to pass, or none
of_three : {A : Type 0} (P : A → Type 0) (a b c : Bool) (x y z w : A) → P x → P y → P z → P w
    → P (if a then x else if b then y else if c then z else w)
of_three P true b c x y z w px py pz pw = px
of_three P false true c x y z w px py pz pw = py
of_three P false false true x y z w px py pz pw = pz
of_three P false false false x y z w px py pz pw = pw

neither : {A B : Type 0} (one : Bool) (x y z : A) → (x ≡ z → B) → (y ≡ z → B) → (if one then x else y) ≡ z → B
neither true x y z unlike differs is = unlike is
neither false x y z unlike differs is = differs is

-- no list is open then
not_free : {B : Type 0} (said : Answer) (more : List Member) → ◌≡◌ {A = Session × Answer} (Free, said) (Listing more, Now queued) → B
not_free said more is = absurd (let k = ap (λ (p : Session × Answer). p.0) is in cc)

not_spoilt : {B : Type 0} (said : Answer) (more : List Member) → ◌≡◌ {A = Session × Answer} (Spoilt, said) (Listing more, Now queued) → B
not_spoilt said more is = absurd (let k = ap (λ (p : Session × Answer). p.0) is in cc)

not_nested : {B : Type 0} (members more : List Member)
    → ◌≡◌ {A = Session × Answer} (Listing members, Now nested) (Listing more, Now queued) → B
not_nested members more is = absurd (let k = ap (λ (p : Session × Answer). p.1) is in cc)

-- none of MULTI, EXEC and DISCARD is a member
no_control : (members more : List Member) (words : List Word) (name : Word)
    → asked (Listing members) words (control_of name) ≡ (Listing more, Now queued) → is_none (control_of name) ≡ true
no_control [] more words name =
    of_three (λ which. asked (Listing []) words which ≡ (Listing more, Now queued) → is_none which ≡ true)
    (is_word (codes "multi") name) (is_word (codes "exec") name) (is_word (codes "discard") name) _ _ _ _
    (neither (length words == 1) _ _ _ (not_nested [] more) (not_spoilt _ more))
    (neither (length words == 1) _ _ _ (not_free _ more) (not_spoilt _ more))
    (neither (length words == 1) _ _ _ (not_free _ more) (not_spoilt _ more)) (λ is. refl)
no_control (m ∷ ms) more words name =
    of_three (λ which. asked (Listing (m ∷ ms)) words which ≡ (Listing more, Now queued) → is_none which ≡ true)
    (is_word (codes "multi") name) (is_word (codes "exec") name) (is_word (codes "discard") name) _ _ _ _
    (neither (length words == 1) _ _ _ (not_nested (m ∷ ms) more) (not_spoilt _ more))
    (neither (length words == 1) _ _ _ (not_free _ more) (not_spoilt _ more))
    (neither (length words == 1) _ _ _ (not_free _ more) (not_spoilt _ more)) (λ is. refl)

no_member : (members more : List Member) (words : List Word) → asks (Listing members) words ≡ (Listing more, Now queued)
    → is_none (control_in words) ≡ true
no_member members more [] is = refl
no_member members more (name ∷ words) is = no_control members more (name ∷ words) name is

queued_listed : (session : Session) (words : List (List ℕ)) → Queues session words
    → (is_listing session && is_none (control_in words)) ≡ true
queued_listed session words queues =
    let at : asks (Listing queues.0) words ≡ (Listing (queues.0 ++ queues.1 ∷ []), Now queued) =
    subst (λ s. asks s words ≡ (Listing (queues.0 ++ queues.1 ∷ []), Now queued)) queues.2 queues.3 in
    ap (λ s. is_listing s && is_none (control_in words)) queues.2
    ∙ no_member queues.0 (queues.0 ++ queues.1 ∷ []) words at

unqueued : (s : SeatView) (words : List (List ℕ)) (shut stopped : Bool) (h : HistoryView) (fault : AskFault)
    → RefusesSubmit shut stopped h s words fault → fault.kind ≡ Memory → IsUnqueued s words
unqueued s words false false h fault refused is = (
  h,
  refused.1.lawful,
  λ queues. both_ways _ (memory_unlisted _ _ (refused.1.is ∙ is)) (queued_listed (session_at h.front.router s.conn.0) words queues),
)
unqueued s words shut stopped h fault refused is = absurd (let k = sym refused.1 ∙ is in cc)

-- a desk that answers want of memory
pub told_of_memory : (old : SeatView) (words : List (List ℕ)) (fault : AskFault) (new : SeatView) → IsAskFault old words fault new
    → fault.kind ≡ Memory → (new ≡ old) × IsUnqueued old words × IsStarved old words
told_of_memory old words fault new (inl (why, same)) is =
    (same, unqueued old words why.0 why.1 why.2 fault why.3 is, (fault, is, why))
told_of_memory old words fault new (inr (has, inl why)) is = absurd (why.2.1 is)
told_of_memory old words fault new (inr (has, inr why)) is = absurd (why.2.1 is)
