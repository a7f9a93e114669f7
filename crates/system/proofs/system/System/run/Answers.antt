use Rattle.std.proofs.Common.{rules, [], length, inl, inr, refl, sym, ap, ◌∙◌, subst}
use Rattle.std.proofs.lemmas.List.{nil_from_length}
use Rattle.system.proofs.Lasting.{obeys, seen}
use Rattle.system.proofs.Runs.{IsUpTo, up_to_next, runs_all, runs_to, refused_at_once}
use Rattle.system.specs.System.{ObeysOneThread}
use Rattle.system.proofs.system.System.run.Goals as goal

pub returns-in_default-clause-runs : goal.returns-in_default-clause-runs
returns-in_default-clause-runs g c = inr (record {
  some = λ none. let count = ap length none in search rules;
  lives = c.in_default.ensures.none.lives;
  left = c.in_default.ensures.none.left;
  none_made = c.reserve.ensures.items ∙ c.new-effects.ensures.items;
  is_memory = refl;
  same = refl;
})

pub returns-in_default-clause-one_thread : goal.returns-in_default-clause-one_thread
returns-in_default-clause-one_thread g c =
    subst ObeysOneThread c.self.view_is (obeys (seen c.self.inside) c.self.invariant.is_table)

pub returns-then-is_err-clause-runs : goal.returns-then-is_err-clause-runs
returns-then-is_err-clause-runs g c =
    inl (refused_at_once (g.W.Workers.may_refuse c.args.workers.now) c.args.self.now c.args.steps.items _ c.in-Some.fault
    (λ none. let count = ap length none in search rules) (c.reserve.ensures.items ∙ c.new-effects.ensures.items)
    (c.in-Some.ensures.some (g.W.Workers.may_refuse c.args.workers.now)))

pub returns-then-is_err-clause-one_thread : goal.returns-then-is_err-clause-one_thread
returns-then-is_err-clause-one_thread g c =
    subst ObeysOneThread c.self.view_is (obeys (seen c.self.inside) c.self.invariant.is_table)

pub loop-step-init : goal.loop-step-init
loop-step-init g c = (
  record { made = []; split = search rules; are_made = (c.reserve.ensures.items ∙ c.new-effects.ensures.items, refl) },
  search rules,
  subst ObeysOneThread c.self.view_is (obeys (seen c.self.inside) c.self.invariant.is_table),
)

pub loop-step-preserved : goal.loop-step-preserved
loop-step-preserved g c =
    let now = c.loop-step.invariant in
    let s = c.in-Some-step.ensures.steps in
    let left = c.next.new.self.rest.items in
    let here = subst (λ rest. IsUpTo c.args.self.now c.args.steps.items c.loop-step.effects.items rest c.loop-step.self) s.0 now.0 in
    let room = now.1 in (
      subst (λ effects. IsUpTo c.args.self.now c.args.steps.items effects left c.step.new.self) (sym c.push_reserved.ensures.items)
          (up_to_next c.args.self.now c.loop-step.self c.step.new.self c.args.steps.items left c.loop-step.effects.items c.in-Some-step.step
          c.in-Ok.effect here c.in-Ok.ensures.made c.step.ensures.one_thread),
      search rules,
      c.step.ensures.one_thread,
    )

pub returns-in-Err-clause-runs : goal.returns-in-Err-clause-runs
returns-in-Err-clause-runs g c =
    let now = c.loop-step.invariant in
    let s = c.in-Some-step.ensures.steps in
    let left = c.next.new.self.rest.items in
    let here = subst (λ rest. IsUpTo c.args.self.now c.args.steps.items c.loop-step.effects.items rest c.loop-step.self) s.0 now.0 in
    inl (runs_to (g.W.Workers.may_refuse c.args.workers.now) c.args.self.now c.loop-step.self c.step.new.self c.args.steps.items left
    c.loop-step.effects.items c.in-Some-step.step c.in-Err.fault here c.in-Err.ensures.refused)

pub returns-clause-runs : goal.returns-clause-runs
returns-clause-runs g c =
    let none = nil_from_length c.loop-step.step-iterator.rest.items (search rules) in
    inl (runs_all (g.W.Workers.may_refuse c.args.workers.now) c.args.self.now c.loop-step.self c.args.steps.items c.loop-step.effects.items
    (subst (λ rest. IsUpTo c.args.self.now c.args.steps.items c.loop-step.effects.items rest c.loop-step.self) none
    c.loop-step.invariant.0))
