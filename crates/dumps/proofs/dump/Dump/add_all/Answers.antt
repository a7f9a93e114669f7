use Rattle.std.proofs.Common.{◌≡◌, None, suc, ◌+◌, arith, take, ap, sym, ◌∙◌}
use Rattle.std.proofs.lemmas.List.{take_all}
use Rattle.std.specs.FinMap.{entries, insert}
use Rattle.std.specs.List.{slice_get}
use Rattle.dumps.proofs.Orders.{with_entries-next, with_entries-entries, past-none}
use Rattle.keyspace.specs.Map.{with_entries}
use Rattle.dumps.proofs.dump.Dump.add_all.Goals as goal

pub loop-place-preserved : goal.loop-place-preserved
loop-place-preserved g c =
    let es = g.K.Listed.listed c.args.keys.now in
    let one_more : suc c.loop-place.place ≡ c.loop-place.place + 1 = omega arith in
    c.in_ok-add.ensures.ok
    ∙ ap (λ m. insert m c.in-Some.key.now c.in-Some.value.now) c.loop-place.invariant
    ∙ sym (with_entries-next c.args.self.now es c.loop-place.place (c.in-Some.key.now, c.in-Some.value.now)
    c.in-Some.ensures.each_once (sym c.in-Some.ensures.entry))
    ∙ ap (λ n. with_entries c.args.self.now (take n es)) one_more

pub returns-in_default : goal.returns-in_default
returns-in_default g c =
    let es = g.K.Listed.listed c.args.keys.now in
    let none : slice_get es c.loop-place.place ≡ None = sym c.in_default.ensures.entry in
    c.loop-place.invariant
    ∙ ap (with_entries c.args.self.now) (take_all c.loop-place.place es (past-none es c.loop-place.place none))
    ∙ with_entries-entries c.args.self.now es
    ∙ ap (λ m. with_entries c.args.self.now (entries m)) (sym c.in_default.ensures.contents)
