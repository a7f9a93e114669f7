use Rattle.std.proofs.Common.{◌+◌, refl, sym, subst}
use Rattle.placement.specs.Layout.{IsTable}
use Rattle.system.proofs.Lasting.{obeys, lives, made_so, goes_on, Leaves, leaves, table_left, stays, refused_so, seen}
use Rattle.system.specs.System.{SystemView, IsStep, MayGoOn, IsRefused, ObeysOneThread}
use Rattle.system.specs.declared.halves.Halves.{Halves}
use Rattle.system.specs.declared.system.System.TheInside.{Inside}
use Rattle.system.proofs.system.System.step.Goals as goal

-- the system where these are its halves
abbrev with_halves : Inside → Halves → SystemView
with_halves inside halves = record { max_steps = inside.max_steps; steps = inside.steps; halves = halves }

pub returns-in-Some-clause-refused : goal.returns-in-Some-clause-refused
returns-in-Some-clause-refused g c = c.in-Some.ensures.some (g.W.Workers.may_refuse c.args.workers.now) c.args.step

pub returns-in-Some-clause-one_thread : goal.returns-in-Some-clause-one_thread
returns-in-Some-clause-one_thread g c =
    subst ObeysOneThread c.self.view_is (obeys (seen c.self.inside) c.self.invariant.is_table)

pub make-requires : goal.make-requires
make-requires g c =
    let may = subst MayGoOn (sym c.self.view_is) c.in_default.ensures.none in
    lives (seen c.self.inside) c.self.invariant may.lives may.left

pub invariant_of-self : goal.invariant_of-self
invariant_of-self g c =
    let old = seen c.self.inside in
    let may = subst MayGoOn (sym c.self.view_is) c.in_default.ensures.none in
    let made = made_so old c.args.step c.in-Ok.effect c.make.new.self c.self.invariant may.lives may.left c.in-Ok.ensures.made in
    goes_on old _ c.args.step c.in-Ok.effect c.self.invariant made

pub invariant_of-self-in-Err : goal.invariant_of-self-in-Err
invariant_of-self-in-Err g c =
    let told = c.in-Err.ensures in
    stays (seen c.self.inside) (with_halves c.self.inside c.make.new.self) c.self.invariant refl refl
    (leaves c.in-Err.fault c.self.inside.halves c.make.new.self (λ other. (told.fault other).1) (λ failed. (told.failed failed).1))

pub returns-in-Ok-clause-made : goal.returns-in-Ok-clause-made
returns-in-Ok-clause-made g c =
    let old = seen c.self.inside in
    let may = subst MayGoOn (sym c.self.view_is) c.in_default.ensures.none in
    subst (λ s. IsStep s c.args.step c.in-Ok.effect
    (record { max_steps = c.self.inside.max_steps; steps = c.self.inside.steps + 1; halves = c.make.new.self }))
    c.self.view_is
    (made_so old c.args.step c.in-Ok.effect c.make.new.self c.self.invariant may.lives may.left
    c.in-Ok.ensures.made)

pub returns-in-Ok-clause-one_thread : goal.returns-in-Ok-clause-one_thread
returns-in-Ok-clause-one_thread g c =
    obeys (with_halves c.self.inside c.make.new.self) (subst IsTable (sym c.in-Ok.ensures.made.table) c.self.invariant.is_table)

pub returns-in-Err-clause-refused : goal.returns-in-Err-clause-refused
returns-in-Err-clause-refused g c =
    let told = c.in-Err.ensures in
    let may = subst MayGoOn (sym c.self.view_is) c.in_default.ensures.none in
    subst (λ s. IsRefused (g.W.Workers.may_refuse c.args.workers.now) s c.args.step c.in-Err.fault
    (with_halves c.self.inside c.make.new.self)) c.self.view_is
    (refused_so (g.W.Workers.may_refuse c.args.workers.now) (seen c.self.inside)
    (with_halves c.self.inside c.make.new.self) c.args.step c.in-Err.fault
    may.lives may.left refl refl told.fault told.failed)

pub returns-in-Err-clause-one_thread : goal.returns-in-Err-clause-one_thread
returns-in-Err-clause-one_thread g c =
    let told = c.in-Err.ensures in
    let left : Leaves c.self.inside.halves c.make.new.self =
    leaves c.in-Err.fault c.self.inside.halves c.make.new.self (λ other. (told.fault other).1) (λ failed. (told.failed failed).1) in
    obeys (with_halves c.self.inside c.make.new.self)
    (subst IsTable (sym (table_left c.self.inside.halves c.make.new.self left)) c.self.invariant.is_table)
