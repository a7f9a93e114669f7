-- A step leaves no choice.
use Rattle.std.proofs.Common.{◌≡◌, ◌≢◌, ℕ, List, [], ◌∷◌, ◌++◌, inl, refl, sym, ap, ◌∙◌, subst, arith}
use Rattle.std.proofs.lemmas.Option.{slice_get_within}
use Rattle.journal.specs.declared.step.Step.TheVariants.{Open, Submit, Deliver, Take, Run, Settle, Collect, Close, Repeat}
use Rattle.keyspace.specs.Map.{Map}
use Rattle.skeen_core.proofs.Ahead.{same_ascending}
use Rattle.skeen_core.proofs.RunLaws.{rule_determines}
use Rattle.skeen_core.specs.Group.{Receives}
use Rattle.delivery.proofs.Layers.{one_is_ready}
use Rattle.groups.specs.Order.{In}
use Rattle.skeen_core.specs.declared.packet.Delivered.{Delivered}
use Rattle.skeen_core.specs.declared.packet.Packet.{Packet}
use Rattle.groups.specs.declared.skip_id.SkipId.{SkipId}
use Rattle.world.specs.Steps.{Effect, Ran, starved_among, after_all, map_after, ended_as, RunInTurn, received, taken, settled, Comes}
use Rattle.world.specs.Steps.{Repeats, Takes, RunsLayer, Settles, Collects, Makes, Busy, NoConn, NoPacket, InFlight, NoLayer, IsBusy}
use Rattle.world.specs.Steps.{IsInFlight, NothingToRun, NothingToSettle}
use Rattle.world.specs.World.{World, Request, Standing, Closed, Idle, Waiting, Answered, Ended, Layer, NoneTaken, Taken, HasRun}
use Rattle.world_laws.specs.Determined.{StepsDetermine, HistoriesDetermine, RefusedIsNotAccepted}
use Rattle.world_laws.specs.Good.{Asked}
use Rattle.groups.proofs.Options.{some_same}

-- ---- one world

abbrev Same : Effect → Effect → World → World → Type 0
Same effect effect' new new' = (effect ≡ effect') × (new ≡ new')

comes_same : (old new new' : World) (k : ℕ) (effect effect' : Effect) → Comes old k effect new → Comes old k effect' new' →
    Same effect effect' new new'
comes_same old new new' k effect effect' a b =
    let packets : a.packet ≡ b.packet = some_same a.packet b.packet (sym a.there ∙ b.there) in
    let receives = subst (λ (p : Packet). Receives p.to (old.group p.to) p.id p.body b.sent b.delivered b.state) (sym packets) b.receives in
    let same = rule_determines a.packet.to
    (old.group a.packet.to) a.state b.state a.packet.id a.packet.body a.sent b.sent a.delivered b.delivered a.receives receives in (
      a.answers ∙ sym b.answers,
      a.after ∙ ap (λ p. received old k p a.sent a.delivered a.state) packets
          ∙ ap (λ l. received old k b.packet l a.delivered a.state) same.0
          ∙ ap (λ l. received old k b.packet b.sent l a.state) same.1 ∙ ap (λ s. received old k b.packet b.sent b.delivered s) same.2
          ∙ sym b.after,
    )

repeats_same : (old new new' : World) (k : ℕ) (effect effect' : Effect) → Repeats old k effect new → Repeats old k effect' new' →
    Same effect effect' new new'
repeats_same old new new' k effect effect' a b =
    let packets : a.packet ≡ b.packet = some_same a.packet b.packet (sym a.there ∙ b.there) in (
      a.answers ∙ sym b.answers,
      a.after ∙ ap (λ p. record old { packets = old.packets ++ p ∷ [] }) packets ∙ sym b.after,
    )

takes_same : (old new new' : World) (effect effect' : Effect) → Takes old effect new → Takes old effect' new' → Same effect effect' new new'
takes_same old new new' effect effect' a b =
    let layers = same_ascending a.layer b.layer a.ready.ascending b.ready.ascending (λ d there. b.ready.all d (a.ready.only d there))
    (λ d there. a.ready.all d (b.ready.only d there)) in
    (a.answers ∙ sym b.answers, a.after ∙ ap (taken old) layers ∙ sym b.after)

same_taken : (ds es : List Delivered) → Taken ds ≡ Taken es → ds ≡ es
same_taken ds es e = cc

same_run : (ds es : List Ended) → HasRun ds ≡ HasRun es → ds ≡ es
same_run ds es e = cc

run_same : (asked : Asked) (starved : List SkipId) (m : Map) (ds : List Delivered) (es es' : List Ended) →
    RunInTurn asked starved m ds es → RunInTurn asked starved m ds es' → es ≡ es'
run_same asked starved m [] es es' a b = a ∙ sym b
run_same asked starved m (d ∷ ds) [] es' a b = absurd a
run_same asked starved m (d ∷ ds) (e ∷ es) [] a b = absurd b
run_same asked starved m (d ∷ ds) (e ∷ es) (e' ∷ es') a b =
    let requests : a.0.0 ≡ b.0.0 = some_same a.0.0 b.0.0 (sym a.0.1 ∙ b.0.1) in
    let heads : e ≡ e' = a.0.2 ∙ ap (λ (q : Request). ended_as starved m d q.task) requests ∙ sym b.0.2 in
    let rest = run_same asked starved (map_after e.reply e.task m) ds es es' a.1
    (subst (λ (x : Ended). RunInTurn asked starved (map_after x.reply x.task m) ds es') (sym heads) b.1) in
    ap (λ x. x ∷ es) heads ∙ ap (λ l. e' ∷ l) rest

runs_same : (old new new' : World) (starved : List SkipId) (effect effect' : Effect) → RunsLayer old starved effect new →
    RunsLayer old starved effect' new' → Same effect effect' new new'
runs_same old new new' starved effect effect' a b =
    let layers : a.layer ≡ b.layer = same_taken a.layer b.layer (sym a.there ∙ b.there) in
    let outcomes : a.outcomes ≡ b.outcomes = run_same old.asked starved old.contents a.layer a.outcomes b.outcomes a.in_turn
    (subst (λ ds. RunInTurn old.asked starved old.contents ds b.outcomes) (sym layers) b.in_turn) in (
      a.answers ∙ ap (λ es. Ran (starved_among es)) outcomes ∙ sym b.answers,
      a.after ∙ ap (λ es. record old { layer = HasRun es; ended = old.ended ++ es; contents = after_all old.contents es }) outcomes
          ∙ sym b.after,
    )

settles_same : (old new new' : World) (effect effect' : Effect) → Settles old effect new → Settles old effect' new' →
    Same effect effect' new new'
settles_same old new new' effect effect' a b =
    let outcomes : a.outcomes ≡ b.outcomes = same_run a.outcomes b.outcomes (sym a.there ∙ b.there) in (
      a.answers ∙ sym b.answers,
      a.after ∙ ap (λ es. record old { standing = settled es old.standing; layer = NoneTaken }) outcomes
          ∙ sym b.after,
    )

collects_same : (old new new' : World) (c : ℕ) (s : Standing) (effect effect' : Effect) → Collects s old c effect new →
    Collects s old c effect' new' → Same effect effect' new new'
collects_same old new new' c Closed effect effect' a b = absurd a
collects_same old new new' c Idle effect effect' a b = (a.0 ∙ sym b.0, a.1 ∙ sym b.1)
collects_same old new new' c Waiting effect effect' a b = (a.0 ∙ sym b.0, a.1 ∙ sym b.1)
collects_same old new new' c (Answered o) effect effect' a b = (a.0 ∙ sym b.0, a.1 ∙ sym b.1)

pub steps_determine : StepsDetermine
steps_determine t old new new' Open effect effect' a b = (a.answers ∙ sym b.answers, a.after ∙ sym b.after)
steps_determine t old new new' (Submit conn words) effect effect' a b = (a.answers ∙ sym b.answers, a.after ∙ sym b.after)
steps_determine t old new new' (Deliver k) effect effect' a b = comes_same old new new' k effect effect' a b
steps_determine t old new new' Take effect effect' a b = takes_same old new new' effect effect' a b
steps_determine t old new new' (Run starved) effect effect' a b = runs_same old new new' starved effect effect' a b
steps_determine t old new new' Settle effect effect' a b = settles_same old new new' effect effect' a b
steps_determine t old new new' (Collect conn) effect effect' a b =
    collects_same old new new' conn.0 (old.standing conn.0) effect effect' a b
steps_determine t old new new' (Close conn) effect effect' a b = (a.answers ∙ sym b.answers, a.after ∙ sym b.after)
steps_determine t old new new' (Repeat k) effect effect' a b = repeats_same old new new' k effect effect' a b

pub histories_determine : HistoriesDetermine
histories_determine t old new new' [] effects effects' a b = (a.0 ∙ sym b.0, a.1 ∙ sym b.1)
histories_determine t old new new' (s ∷ ss) [] effects' a b = absurd a
histories_determine t old new new' (s ∷ ss) (e ∷ es) [] a b = absurd b
histories_determine t old new new' (s ∷ ss) (e ∷ es) (e' ∷ es') a b =
    let first = steps_determine t old a.0 b.0 s e e' a.1 b.1 in
    let rest = histories_determine t a.0 new new' ss es es' a.2 (subst (λ w. Makes t w ss es' new') (sym first.1) b.2) in
    (ap (λ x. x ∷ es) first.0 ∙ ap (λ l. e' ∷ l) rest.0, rest.1)

-- ---- refusals

busy_not_idle : (s : Standing) → IsBusy s → s ≡ Idle → ⊥
busy_not_idle Closed busy e = busy
busy_not_idle Idle busy e = busy
busy_not_idle Waiting busy e = cc
busy_not_idle (Answered o) busy e = cc

busy_not_closed : (s : Standing) → IsBusy s → s ≡ Closed → ⊥
busy_not_closed Closed busy e = busy
busy_not_closed Idle busy e = busy
busy_not_closed Waiting busy e = cc
busy_not_closed (Answered o) busy e = cc

closed_not_idle : (s : Standing) → s ≡ Closed → s ≡ Idle → ⊥
closed_not_idle s e d = absurd (cc)

in_flight_not_free : (l : Layer) → IsInFlight l → l ≡ NoneTaken → ⊥
in_flight_not_free NoneTaken there e = there
in_flight_not_free (Taken ds) there e = cc
in_flight_not_free (HasRun es) there e = cc

not_to_run : (l : Layer) (ds : List Delivered) → NothingToRun l → l ≡ Taken ds → ⊥
not_to_run NoneTaken ds none e = cc
not_to_run (Taken es) ds none e = none
not_to_run (HasRun es) ds none e = cc

not_to_settle : (l : Layer) (es : List Ended) → NothingToSettle l → l ≡ HasRun es → ⊥
not_to_settle NoneTaken es none e = cc
not_to_settle (Taken ds) es none e = cc
not_to_settle (HasRun ds) es none e = none

closed_collects : (old new : World) (c : ℕ) (s : Standing) (effect : Effect) → s ≡ Closed → Collects s old c effect new → ⊥
closed_collects old new c Closed effect e step = step
closed_collects old new c Idle effect e step = absurd (cc e)
closed_collects old new c Waiting effect e step = absurd (cc e)
closed_collects old new c (Answered o) effect e step = absurd (cc e)

nothing_ready : (old new : World) (effect : Effect) (ds : List Delivered) → Takes old effect new → ((d : Delivered) → In d ds → ⊥) →
    ds ≢ [] → ⊥
nothing_ready old new effect [] step none some = some refl
nothing_ready old new effect (d ∷ ds) step none some = none d (inl refl)

pub refused_is_not_accepted : RefusedIsNotAccepted
refused_is_not_accepted t old new (Submit conn words) effect NoConn refused step = closed_not_idle (old.standing conn.0) refused step.idle
refused_is_not_accepted t old new (Submit conn words) effect Busy refused step = busy_not_idle (old.standing conn.0) refused step.idle
refused_is_not_accepted t old new (Deliver k) effect NoPacket refused step = let within =
    slice_get_within old.packets k step.packet step.there in absurd (omega arith)
refused_is_not_accepted t old new Take effect InFlight refused step = in_flight_not_free old.layer refused step.free
refused_is_not_accepted t old new Take effect NoLayer refused step =
    nothing_ready old new effect step.layer step (λ d there.
    let one = one_is_ready old.queue d (step.ready.only d there) in refused.1 one.0 one.1) step.some
refused_is_not_accepted t old new (Run starved) effect NoLayer refused step = not_to_run old.layer step.layer refused step.there
refused_is_not_accepted t old new Settle effect NoLayer refused step = not_to_settle old.layer step.outcomes refused step.there
refused_is_not_accepted t old new (Collect conn) effect NoConn refused step =
    closed_collects old new conn.0 (old.standing conn.0) effect refused step
refused_is_not_accepted t old new (Close conn) effect NoConn refused step = step.is_open refused
refused_is_not_accepted t old new (Repeat k) effect NoPacket refused step = let within =
    slice_get_within old.packets k step.packet step.there in absurd (omega arith)
refused_is_not_accepted t old new step effect fault refused s = absurd refused
