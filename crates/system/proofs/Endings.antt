-- That nothing is left behind, that something can be done until then, and that there is an end to it.
use Rattle.std.proofs.Common.{◌≡◌, Bool, false, List, [], ◌∷◌, length, ◌⊎◌, inl, inr, Option, Some, None, refl, sym, ap, ◌∙◌, subst, arith}
use Rattle.std.specs.List.{AllZip}
use Rattle.tasks.specs.Starved.{starved_in}
use Rattle.delivery.specs.Queues.{queue_of}
use Rattle.delivery.specs.Ready.{QueueOf, IsReady}
use Rattle.execution_order.specs.Entries.{Row}
use Rattle.journal.specs.Views.{RowView}
use Rattle.journal.specs.declared.step.Step.{Step}
use Rattle.journal.specs.declared.step.Step.TheVariants as steps
use Rattle.resp.specs.Content.{Content}
use Rattle.groups.specs.Order.{In}
use Rattle.skeen_core.specs.declared.packet.Delivered.{Delivered}
use Rattle.skeen_core.specs.declared.packet.Packet.{Packet}
use Rattle.groups.specs.declared.request.RequestId.{RequestId}
use Rattle.groups.specs.declared.skip_id.SkipId.{SkipId}
use Rattle.groups.specs.declared.skip_id.SkipId.TheVariants.{Whole}
use Rattle.front.proofs.TakeMakes.{take_memory}
use Rattle.front.specs.Fronts.{IsOut}
use Rattle.system.proofs.Fronting.{front_at}
use Rattle.system.proofs.Layering.{run_admitted}
use Rattle.system.proofs.Names.{whole_starved}
use Rattle.system.proofs.Submitted.{was_asked}
use Rattle.system.specs.Endings.{IsExecuted, HasStarved, EachHasEnded, MayBeMade, SomeMayBeMade, TurnsAreFew}
use Rattle.system.specs.Faults.{own_fault}
use Rattle.system.specs.Halves.{IsAt, ShowsStage, progress_of}
use Rattle.system.specs.Reads.{table_of}
use Rattle.system.specs.Refusing.{Refuses, RefusesNot}
use Rattle.system.specs.System.{SystemView, IsSystem, IsRefused, IsQuiet}
use Rattle.system.specs.declared.fault.StepFault.{StepFault}
use Rattle.system.specs.declared.fault.StepFault.TheVariants.{Busy, NoConn, NoPacket, InFlight, NoLayer}
use Rattle.system.specs.declared.halves.Halves.{Halves}
use Rattle.system.specs.declared.stage.Stage.{Stage}
use Rattle.system.specs.declared.stage.Stage.TheVariants as stage
use Rattle.front.specs.Layers.{IsRow}
use Rattle.world.specs.Steps.{opening, OwnFault, NothingToSettle, Refused, starved_among}
use Rattle.world.specs.Steps as world
use Rattle.world.specs.World.{World, Ended, Layer, NoneTaken, HasRun}
use Rattle.world_laws.proofs.BoundLaws.{turns_are_bounded}
use Rattle.world_laws.proofs.QuietLaws.{quiet_means_ended}
use Rattle.world_laws.proofs.Worlds.{good_opening}
use Rattle.world_laws.specs.Good.{Named}
use Rattle.world_laws.specs.Headline.{with_row, rows_of}
use Rattle.world_laws.specs.Quiet as quiet

-- ---- what has ended

-- one of the rows is its
abbrev HasRow : List Row → RequestId → Type 0
HasRow rows i = (x : Row) × In x rows × (x.entry.id ≡ i)

-- it has a row, or is among what starved
abbrev Told : List Row → List SkipId → RequestId → Type 0
Told rows starved i = HasRow rows i ⊎ In (Whole i) starved

abbrev row_of : Ended → Content → Row
row_of e reply = record {
  entry = record { id = e.id; stamp = e.stamp; groups = e.groups; task = e.task; starved = starved_in e.task reply };
  reply = reply;
}

row_later : (e : Ended) (reply : Option Content) (rows : List Row) (i : RequestId) → HasRow rows i → HasRow (with_row e reply rows) i
row_later e None rows i it = it
row_later e (Some reply) rows i it = (it.0, inr it.1, it.2)

-- a request that was executed has its row
has_row : (es : List Ended) (e : Ended) (reply : Content) → In e es → e.reply ≡ Some reply → HasRow (rows_of es) e.id
has_row [] e reply there some = absurd there
has_row (f ∷ fs) e reply (inl same) some =
    subst (λ (x : Ended). HasRow (with_row f f.reply (rows_of fs)) x.id) (sym same)
    (subst (λ o. HasRow (with_row f o (rows_of fs)) f.id) (sym (ap (λ (x : Ended). x.reply) (sym same) ∙ some))
    (row_of f reply, inl refl, refl))
has_row (f ∷ fs) e reply (inr later) some = row_later f f.reply (rows_of fs) e.id (has_row fs e reply later some)

-- what has ended was executed, or starved
told : (es : List Ended) (e : Ended) → In e es → Told (rows_of es) (starved_among es) e.id
told es e there = by_reply e.reply refl
  where
    by_reply : (o : Option Content) → e.reply ≡ o → Told (rows_of es) (starved_among es) e.id
    by_reply None none = inr (whole_starved es e there none)
    by_reply (Some reply) some = inl (has_row es e reply there some)

-- the row that is kept of an executed request
kept : (xs : List Row) (rows : List RowView) (x : Row) → AllZip IsRow xs rows → In x xs → (row : RowView) × In row rows × IsRow x row
kept [] rows x all there = absurd there
kept (y ∷ xs) [] x all there = absurd all
kept (y ∷ xs) (row ∷ rows) x all (inl here) = (row, inl refl, subst (λ z. IsRow z row) (sym here) all.0)
kept (y ∷ xs) (row ∷ rows) x all (inr later) = let rest = kept xs rows x all.1 later in (rest.0, inr rest.1, rest.2)

quiet_there : (s : SystemView) → IsQuiet s → (h : List Step) (w : World) → IsAt s.halves h w → quiet.IsQuiet w
quiet_there s is h w at' =
    let queues : queue_of s.halves.front.multicast.queues ≡ w.queue = λ k g. at'.shows.multicast.queues g k in
    record {
      packets = sym at'.shows.multicast.packets ∙ is.packets;
      layer = subst (λ x. ShowsStage x w) is.layer at'.shows.stage;
      none_ready = subst (λ (q : QueueOf). (d : Delivered) → ¬ IsReady q d) queues is.none_ready;
    }

pub each_has_ended : (s : SystemView) → IsQuiet s → EachHasEnded s
each_has_ended s is h w at' effects made i submitted = (ended, shown)
  where
    there : quiet.IsQuiet w
    there = quiet_there s is h w at'

    ended : Named w.ended i
    ended =
        let asked = was_asked (table_of s) opening w h effects i made (good_opening (table_of s)) submitted in
        quiet_means_ended (table_of s) h w at'.leads there i asked.0 asked.1

    shown : IsExecuted s i ⊎ HasStarved s i
    shown = elim (told w.ended ended.0 ended.1) [
      | inl executed ↦
          let row = kept (rows_of w.ended) s.halves.back.rows executed.0 at'.shows.rows executed.1 in
          inl (row.0, row.1, row.2.id ∙ (executed.2 ∙ ended.2))
      | inr starved ↦
          inr (subst (λ names. In (Whole i) names) (sym at'.shows.starved)
          (subst (λ j. In (Whole j) (starved_among w.ended)) ended.2 starved))
    ]

-- ---- what can be done

-- the world to which the system's history led does not refuse what no world does
not_there : (s : SystemView) (step : Step) → IsSystem s → RefusesNot s.halves step → (fault : OwnFault) →
    s.halves.back.store.failed ≡ false → Refuses s.halves step fault → ⊥
not_there s step is none fault lived why =
    let shown = is.shows lived in none shown.0 shown.1 shown.2.at fault (why shown.0 shown.1 shown.2.at)

no_own_fault : (s : SystemView) (step : Step) → IsSystem s → RefusesNot s.halves step → (may_refuse : Bool) (fault : StepFault)
    (new : SystemView) → IsRefused may_refuse s step fault new → own_fault fault ≡ None
no_own_fault s step is none may Busy new refused = absurd (not_there s step is none world.Busy refused.lived refused.why)
no_own_fault s step is none may NoConn new refused = absurd (not_there s step is none world.NoConn refused.lived refused.why)
no_own_fault s step is none may NoPacket new refused = absurd (not_there s step is none world.NoPacket refused.lived refused.why)
no_own_fault s step is none may InFlight new refused = absurd (not_there s step is none world.InFlight refused.lived refused.why)
no_own_fault s step is none may NoLayer new refused = absurd (not_there s step is none world.NoLayer refused.lived refused.why)
no_own_fault s step is none may fault new refused = refl

may_be_made : (s : SystemView) (step : Step) → IsSystem s → RefusesNot s.halves step → MayBeMade s step
may_be_made s step is none = record { not_refused = none; no_own_fault = no_own_fault s step is none }

-- a packet that is there can be brought
deliver_not : (w : World) (packet : Packet) (rest : List Packet) → w.packets ≡ packet ∷ rest → (fault : OwnFault) →
    ¬ Refused w (steps.Deliver 0) fault
deliver_not w packet rest some world.NoPacket refused = let longer = ap (λ (ps : List Packet). length ps) some in omega arith
deliver_not w packet rest some fault refused = refused

-- a layer that was run can be settled
settle_not : (w : World) (es : List Ended) → w.layer ≡ HasRun es → (fault : OwnFault) → ¬ Refused w steps.Settle fault
settle_not w es ran world.NoLayer refused = subst NothingToSettle ran refused
settle_not w es ran fault refused = refused

-- where no layer is there and one could be taken a Take has no fault of its own
take_not : (p : Halves) → p.stage ≡ stage.Free → (((d : Delivered) → ¬ IsReady (queue_of p.front.multicast.queues) d) → ⊥) →
    RefusesNot p steps.Take
take_not p is_free some = λ h w at' fault refused.
    let free : w.layer ≡ NoneTaken = subst (λ s. ShowsStage s w) is_free at'.shows.stage in
    let none = subst (λ (l : Layer). IsOut l p.front.out) free at'.shows.out in
    take_memory p.front none some h w (front_at p h w at') fault refused

by_packets : (s : SystemView) (packets : List Packet) → IsSystem s → ¬ IsQuiet s → s.halves.stage ≡ stage.Free →
    s.halves.front.multicast.packets ≡ packets → MayBeMade s steps.Take ⊎ MayBeMade s (steps.Deliver 0)
by_packets s [] is busy free none =
    inl (may_be_made s steps.Take is (take_not s.halves free (λ idle. busy (record { packets = none; layer = free; none_ready = idle }))))
by_packets s (packet ∷ rest) is busy free some =
    inr (may_be_made s (steps.Deliver 0) is (λ h w at'. deliver_not w packet rest (sym at'.shows.multicast.packets ∙ some)))

by_stage : (s : SystemView) (now : Stage) → IsSystem s → ¬ IsQuiet s → s.halves.stage ≡ now → SomeMayBeMade (progress_of now) s
by_stage s stage.Free is busy same = by_packets s s.halves.front.multicast.packets is busy same refl
by_stage s (stage.Taken taken) is busy same = λ starved.
    may_be_made s (steps.Run starved) is (run_admitted s.halves taken same starved)
by_stage s (stage.HasRun ran) is busy same =
    may_be_made s steps.Settle is (λ h w at'.
    let there = subst (λ x. ShowsStage x w) same at'.shows.stage in settle_not w there.0 there.1)

pub some_may_be_made : (s : SystemView) → IsSystem s → ¬ IsQuiet s → SomeMayBeMade (progress_of s.halves.stage) s
some_may_be_made s is busy = by_stage s s.halves.stage is busy refl

-- ---- how many steps there can be

pub turns_are_few : (s : SystemView) → TurnsAreFew s
turns_are_few s h w at' = turns_are_bounded (table_of s) h w at'.leads
