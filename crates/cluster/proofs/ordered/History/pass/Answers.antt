use Rattle.std.proofs.Common.{◌≡◌, ◌+◌, ◌<◌, ◌++◌, ◌∷◌, [], List, length, Some, None, refl, sym, ap, ◌∙◌, subst, arith}
use Rattle.cluster.proofs.Histories.{history, history_still, left_so, AreLegal, goes_on, kept_few, told_as}
use Rattle.cluster.proofs.Passing.{IsLeft, has_begun, has_passed, is_begun, is_taken, passed_so, sealed, submit_legal, taken_legal, told_all}
use Rattle.cluster.proofs.Tapes.{room_less}
use Rattle.cluster.specs.Histories.{HistoryView, kept_for, IsHistory, IsFault}
use Rattle.cluster.specs.Passing.{arrivals, HasPassed}
use Rattle.cluster.specs.Sealed.{TakenView, IsTaken}
use Rattle.cluster.specs.Traces.{ArePushed, IsPushed}
use Rattle.cluster.specs.declared.tape.TheConstants.{SIZE_PASSED}
use Rattle.front.specs.Passing.{Passes, TakesAtOnce, packets_in}
use Rattle.front.specs.Refusing as refusing
use Rattle.journal.specs.declared.step.Step.{Step}
use Rattle.journal.specs.declared.step.Step.TheVariants.{Submit, Take}
use Rattle.layer_planner.specs.declared.job.Job.{Job}
use Rattle.cluster.proofs.ordered.History.pass.Given.{Over}
use Rattle.cluster.proofs.ordered.History.pass.Goals.{After-write_behind, After-write_all}
use Rattle.cluster.proofs.ordered.History.pass.Goals as goal

-- the history as it was, its steps with the Submit, and its trace
module _ (g : Over) (c : After-write_behind g) where
  abbrev old : HistoryView
  old = let in' = c.self.inside in history in'.front in'.max_steps in'.told in'.ran in'.trace

  left : IsLeft old
  left = subst IsLeft (sym c.self.view_is) c.requires

  pushed : IsPushed old.trace (Submit c.args.conn c.args.words) c.push_keeping.new.trace
  pushed = c.in-Ok.ensures.pushed

  abbrev begun : List Step
  begun = c.self.inside.told ++ Submit c.args.conn c.args.words ∷ []

  wrote : c.write_behind.new.self ≡ begun
  wrote = c.write_behind.ensures.written ∙ ap (λ s. c.self.inside.told ++ s ∷ []) c.of-made.ensures

  -- the front has passed
  passes : Passes c.self.inside.front c.args.conn c.args.words c.in-Ok-pass.passed.0 c.in-Ok-pass.passed.1 c.pass.new.self
  passes = passed_so c.self.inside.front c.pass.new.self c.args.conn c.parts_of-words.result.0 c.args.words c.parts_of-words.result.1
      c.in-Ok-pass.passed.0 c.in-Ok-pass.passed.1 c.parts_of-words.ensures c.in-Ok-pass.ensures.made

  begins : c.in-Ok-pass.passed.1 ≡ None →
      Passes c.self.inside.front c.args.conn c.args.words c.in-Ok-pass.passed.0 None c.pass.new.self
  begins is = subst (λ o. Passes c.self.inside.front c.args.conn c.args.words c.in-Ok-pass.passed.0 o c.pass.new.self) is passes

  takes : (layer : List Job) → c.in-Ok-pass.passed.1 ≡ Some layer →
      TakesAtOnce c.self.inside.front c.args.conn c.args.words c.in-Ok-pass.passed.0 layer c.pass.new.self
  takes layer is = subst (λ o. Passes c.self.inside.front c.args.conn c.args.words c.in-Ok-pass.passed.0 o c.pass.new.self) is passes

-- all that was written, and all that was pushed
took : (g : Over) (c : After-write_all g) (first : List Step) → c.write_behind.new.self ≡ first →
    c.write_all.new.self ≡ (first ++ arrivals (packets_in c.in-Some-layer.layer)) ++ Take ∷ []
took g c first written = c.write_all.ensures ∙ told_all c.write_behind.new.self first c.packets_of-packets.result
    (packets_in c.in-Some-layer.layer) written c.packets_of-packets.ensures

all_pushed : (g : Over) (c : After-write_all g) →
    ArePushed c.push_keeping.new.trace (arrivals (packets_in c.in-Some-layer.layer) ++ Take ∷ []) c.push_passed.new.trace
all_pushed g c = subst (λ n. ArePushed c.push_keeping.new.trace (arrivals n ++ Take ∷ []) c.push_passed.new.trace)
    c.packets_of-packets.ensures c.push_passed.ensures.pushed

pub take_back-requires : goal.take_back-requires
take_back-requires g c = (c.self.inside.trace, Submit c.args.conn c.args.words, c.in-Ok.ensures.pushed, c.place-place.ensures)

pub returns-in-Err-clause-fault : goal.returns-in-Err-clause-fault
returns-in-Err-clause-fault g c =
    let in' = c.self.inside in
    let old = history in'.front in'.max_steps in'.told in'.ran in'.trace in
    let given = subst IsLeft (sym c.self.view_is) c.requires in
    let left : length in'.told + kept_for in'.front.out < in'.max_steps = omega (arith, given, kept_few in'.front.out) in
    subst (λ h. IsFault h (Submit c.args.conn c.args.words) c.from.result) c.self.view_is
    (told_as g.T.Tabled.table old c.self.invariant.0 (Submit c.args.conn c.args.words) c.in-Err.fault c.from.result c.from.ensures
    (goes_on old (Submit c.args.conn c.args.words) tt left)
    (subst (λ s. refusing.IsFault in'.front s c.in-Err.fault) (sym c.parts_of-words.ensures) c.in-Err.ensures.refused))

pub invariant_of-self-in-Err : goal.invariant_of-self-in-Err
invariant_of-self-in-Err g c =
    let in' = c.self.inside in
    let old = history in'.front in'.max_steps in'.told in'.ran in'.trace in (
      history_still g.T.Tabled.table old (history c.pass.new.self in'.max_steps in'.told in'.ran c.take_back.new.trace) c.self.invariant.0
          (left_so old c.pass.new.self c.take_back.new.trace c.in-Err.ensures.unchanged
          (c.take_back.ensures.same in'.trace (Submit c.args.conn c.args.words) c.in-Ok.ensures.pushed)),
      c.self.invariant.1,
      c.self.invariant.2,
    )

pub write_behind-requires : goal.write_behind-requires
write_behind-requires g c =
    let in' = c.self.inside in
    let old = history in'.front in'.max_steps in'.told in'.ran in'.trace in
    let left = subst IsLeft (sym c.self.view_is) c.requires in
    let it = c.in-Ok-pass.passed in
    let passes = passed_so in'.front c.pass.new.self c.args.conn c.parts_of-words.result.0 c.args.words c.parts_of-words.result.1
    it.0 it.1 c.parts_of-words.ensures c.in-Ok-pass.ensures.made in
    subst (λ s. AreLegal g.T.Tabled.table (in'.told ++ s ∷ [])) (sym c.of-made.ensures)
    (submit_legal g.T.Tabled.table old c.self.invariant.0 left c.args.conn c.args.words it.0 c.push_keeping.new.trace
    c.in-Ok.ensures.pushed it.1 c.pass.new.self passes)

pub invariant_of-self-in_default-layer : goal.invariant_of-self-in_default-layer
invariant_of-self-in_default-layer g c =
    let at = (goal.at.invariant_of-self-in_default-layer g c).After-write_behind in
    let in' = c.self.inside in (
      subst (λ l. IsHistory g.T.Tabled.table (history c.pass.new.self in'.max_steps l in'.ran c.push_keeping.new.trace)) (sym (wrote g at))
          (is_begun g.T.Tabled.table (old g at) c.self.invariant.0 (left g at) c.args.conn c.args.words c.in-Ok-pass.passed.0
          c.push_keeping.new.trace (pushed g at) c.pass.new.self (begins g at c.in_default-layer.is)),
      c.self.invariant.1,
      c.self.invariant.2,
    )

pub returns-in_default-layer-clause-passed : goal.returns-in_default-layer-clause-passed
returns-in_default-layer-clause-passed g c =
    let at = (goal.at.returns-in_default-layer-clause-passed g c).After-write_behind in
    let in' = c.self.inside in
    subst (λ h. HasPassed h c.args.conn c.args.words c.in-Ok-pass.passed.0 c.part-seen.result None
    (history c.pass.new.self in'.max_steps c.write_behind.new.self in'.ran c.push_keeping.new.trace)) c.self.view_is
    (subst (λ l. HasPassed (old g at) c.args.conn c.args.words c.in-Ok-pass.passed.0 c.part-seen.result None
    (history c.pass.new.self in'.max_steps l in'.ran c.push_keeping.new.trace)) (sym (wrote g at))
    (has_begun g.T.Tabled.table (old g at) c.self.invariant.0 (left g at) c.args.conn c.args.words c.in-Ok-pass.passed.0
    c.push_keeping.new.trace (pushed g at) c.pass.new.self (begins g at c.in_default-layer.is) c.part-seen.result
    (c.part-seen.ensures ∙ wrote g at)))

pub returns-in_default-layer-clause-room : goal.returns-in_default-layer-clause-room
returns-in_default-layer-clause-room g c =
    room_less c.push_keeping.new.trace c.args.kept c.in-Some.room (omega (arith, c.in-Some.ensures)) c.in-Ok.ensures.room

pub push_passed-requires-clause-few : goal.push_passed-requires-clause-few
push_passed-requires-clause-few g c =
    let made = passed_so c.self.inside.front c.pass.new.self c.args.conn c.parts_of-words.result.0 c.args.words c.parts_of-words.result.1
    c.in-Ok-pass.passed.0 c.in-Ok-pass.passed.1 c.parts_of-words.ensures c.in-Ok-pass.ensures.made in
    let takes = subst
    (λ o. Passes c.self.inside.front c.args.conn c.args.words c.in-Ok-pass.passed.0 o c.pass.new.self) c.in-Some-layer.is made in
    omega (arith, takes.few, c.packets_of-packets.ensures)

pub push_passed-requires-clause-room : goal.push_passed-requires-clause-room
push_passed-requires-clause-room g c =
    room_less c.push_keeping.new.trace (SIZE_PASSED + c.args.kept) c.in-Some.room (omega (arith, c.in-Some.ensures)) c.in-Ok.ensures.room

pub write_all-requires : goal.write_all-requires
write_all-requires g c =
    let at = (goal.at.write_all-requires g c).After-write_behind in
    let all = told_all c.write_behind.new.self (begun g at) c.packets_of-packets.result (packets_in c.in-Some-layer.layer) (wrote g at)
    c.packets_of-packets.ensures in
    subst (AreLegal g.T.Tabled.table) (sym all)
    (taken_legal g.T.Tabled.table (old g at) c.self.invariant.0 (left g at) c.args.conn c.args.words c.in-Ok-pass.passed.0
    c.push_keeping.new.trace (pushed g at) c.in-Some-layer.layer c.pass.new.self (takes g at c.in-Some-layer.layer c.in-Some-layer.is))

pub invariant_of-taken : goal.invariant_of-taken
invariant_of-taken g c =
    let place = goal.at.invariant_of-taken g c in
    let at = place.After-write_behind in
    let all = took g place.After-write_all (begun g at) (wrote g at) in
    subst (λ n. IsTaken g.T.Tabled.table (record { layer = c.in-Some-layer.layer; number = n; told = c.part.result }))
    (sym c.layers.ensures)
    (subst (λ l. IsTaken g.T.Tabled.table (record { layer = c.in-Some-layer.layer; number = c.pass.new.self.layers; told = l }))
    (sym (c.part.ensures ∙ all))
    (sealed g.T.Tabled.table (old g at) c.self.invariant.0 (left g at) c.args.conn c.args.words c.in-Ok-pass.passed.0
    c.push_keeping.new.trace (pushed g at) c.in-Some-layer.layer c.pass.new.self (takes g at c.in-Some-layer.layer c.in-Some-layer.is)))

pub invariant_of-self-2 : goal.invariant_of-self-2
invariant_of-self-2 g c =
    let place = goal.at.invariant_of-self-2 g c in
    let at = place.After-write_behind in
    let in' = c.self.inside in (
      subst (λ l. IsHistory g.T.Tabled.table (history c.pass.new.self in'.max_steps l in'.ran c.push_passed.new.trace))
          (sym (took g place.After-write_all (begun g at) (wrote g at)))
          (is_taken g.T.Tabled.table (old g at) c.self.invariant.0 (left g at) c.args.conn c.args.words c.in-Ok-pass.passed.0
          c.push_keeping.new.trace (pushed g at) c.in-Some-layer.layer c.pass.new.self
          (takes g at c.in-Some-layer.layer c.in-Some-layer.is) c.push_passed.new.trace (all_pushed g place.After-write_all)),
      c.self.invariant.1,
      c.self.invariant.2,
    )

pub returns-clause-passed : goal.returns-clause-passed
returns-clause-passed g c =
    let place = goal.at.returns-clause-passed g c in
    let at = place.After-write_behind in
    let in' = c.self.inside in
    let all = took g place.After-write_all (begun g at) (wrote g at) in
    let v : TakenView = record { layer = c.in-Some-layer.layer; number = c.layers.result; told = c.part.result } in
    subst (λ h. HasPassed h c.args.conn c.args.words c.in-Ok-pass.passed.0 c.part-seen.result (Some v)
    (history c.pass.new.self in'.max_steps c.write_all.new.self in'.ran c.push_passed.new.trace)) c.self.view_is
    (subst (λ l. HasPassed (old g at) c.args.conn c.args.words c.in-Ok-pass.passed.0 c.part-seen.result (Some v)
    (history c.pass.new.self in'.max_steps l in'.ran c.push_passed.new.trace)) (sym all)
    (has_passed g.T.Tabled.table (old g at) c.self.invariant.0 (left g at) c.args.conn c.args.words c.in-Ok-pass.passed.0
    c.push_keeping.new.trace (pushed g at) c.in-Some-layer.layer c.pass.new.self
    (takes g at c.in-Some-layer.layer c.in-Some-layer.is) c.push_passed.new.trace (all_pushed g place.After-write_all) c.part-seen.result v
    (c.part-seen.ensures ∙ wrote g at) refl c.layers.ensures (c.part.ensures ∙ all)))
