use Rattle.std.proofs.Common.{[], ◌++◌, length, sym, ap, ◌∙◌, subst, arith}
use Rattle.back.specs.Runs.{HasRun, IsRefused}
use Rattle.journal.specs.Names.{AreNumbered}
use Rattle.journal.specs.declared.step.Step.TheVariants.{Run}
use Rattle.layer_results.proofs.Names.{names_numbered}
use Rattle.layer_results.specs.Results.{names_of}
use Rattle.system.proofs.Layering.{few_names, run_may, run_makes}
use Rattle.system.specs.Halves.{Makes}
use Rattle.system.specs.Outcomes.{most_of}
use Rattle.system.specs.declared.effect.Effect.TheVariants.{Ran}
use Rattle.system.proofs.halves.Halves.run.Goals as goal

pub note_starved-requires-clause-none : goal.note_starved-requires-clause-none
note_starved-requires-clause-none g c =
    let few = few_names c.args.self.now.back c.run.new.self c.as_slice.result.now c.args.self.now.stage c.in-Taken.taken
    c.in-Taken-replace.layer c.hand_over-done.result c.in-Taken.is (sym c.replace.ensures.value ∙ c.in-Taken-replace.is)
    c.in-Ok.ensures.run c.hand_over-done.ensures.given in
    let count = c.in-Some.ensures in
    let jobs = ap most_of c.jobs.ensures.jobs in
    let room = c.in_ok-starved.ensures.capacity in
    (c.in_ok-starved.ensures.items, omega arith)

pub note_starved-requires-clause-room : goal.note_starved-requires-clause-room
note_starved-requires-clause-room g c =
    let few = few_names c.args.self.now.back c.run.new.self c.as_slice.result.now c.args.self.now.stage c.in-Taken.taken
    c.in-Taken-replace.layer c.hand_over-done.result c.in-Taken.is (sym c.replace.ensures.value ∙ c.in-Taken-replace.is)
    c.in-Ok.ensures.run c.hand_over-done.ensures.given in
    let count = c.in-Some.ensures in
    let jobs = ap most_of c.jobs.ensures.jobs in
    let items = ap length c.in_ok-reserve.ensures.items in
    let room = c.in_ok-reserve.ensures.ok in
    omega arith

pub new-requires : goal.new-requires
new-requires g c = subst AreNumbered (sym c.note_starved.ensures.starved) (names_numbered c.hand_over-done.result)

pub returns-in-Ok-clause-made : goal.returns-in-Ok-clause-made
returns-in-Ok-clause-made g c =
    let old = c.args.self.now in
    let taken = c.in-Taken-replace.layer in
    let done = c.hand_over-done.result in
    let made = run_makes old c.run.new.self taken done c.note_starved.new.all c.args.skip c.new.result
    c.holds.ensures.no_run (sym c.replace.ensures.value ∙ c.in-Taken-replace.is)
    (subst (λ skip. HasRun old.back skip taken c.run.new.self) c.as_slice.ensures.names c.in-Ok.ensures.run)
    c.hand_over-done.ensures.given
    (c.new.ensures ∙ c.note_starved.ensures.starved)
    (c.note_starved.ensures.all ∙ ap (λ xs. xs ++ names_of done) c.in_ok-reserve.ensures.items) in
    subst (λ b. Makes old (Run c.args.skip) (Ran c.new.result)
    (record old { back = b; stage = c.set_stage.new.stage; starved = c.note_starved.new.all }))
    (sym c.hand_over-done.ensures.left)
    (subst (λ s. Makes old (Run c.args.skip) (Ran c.new.result)
    (record old { back = record c.run.new.self { last = [] }; stage = s; starved = c.note_starved.new.all }))
    (sym c.set_stage.ensures) made)

pub unreachable-requires-in-Err-Stale : goal.unreachable-requires-in-Err-Stale
unreachable-requires-in-Err-Stale g c =
    let old = c.args.self.now in
    let taken = c.in-Taken-replace.layer in
    let stale = subst (λ f. IsRefused (g.W.Workers.may_refuse c.args.workers.now) old.back taken f c.run.new.self)
    c.in-Err-Stale.field-0-is c.in-Err-Stale.ensures.fault in
    stale.2 (run_may old c.requires taken (sym c.replace.ensures.value ∙ c.in-Taken-replace.is)).1

pub unreachable-requires-in-Err-Foreign : goal.unreachable-requires-in-Err-Foreign
unreachable-requires-in-Err-Foreign g c =
    let old = c.args.self.now in
    let taken = c.in-Taken-replace.layer in
    let foreign = subst (λ f. IsRefused (g.W.Workers.may_refuse c.args.workers.now) old.back taken f c.run.new.self)
    c.in-Err-Foreign.field-0-is c.in-Err-Foreign.ensures.fault in
    foreign.1 (run_may old c.requires taken (sym c.replace.ensures.value ∙ c.in-Taken-replace.is)).0
