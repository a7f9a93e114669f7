use Rattle.std.proofs.Common.{◌≡◌, IsSome, IsTrue, sym, ap, subst, ◌∙◌}
use Rattle.std.specs.FinMap.{get}
use Rattle.std.specs.List.{AllByRecursion}
use Rattle.keyspace.specs.Map.{set}
use Rattle.string_commands.proofs.Led.{all-front, last-there, last-undone}
use Rattle.string_commands.specs.Before.{Before, LeadsTo}
use Rattle.string_commands.proofs.pairs.put_back.Goals as goal

pub leave-requires-clause-there : goal.leave-requires-clause-there
leave-requires-clause-there g c =
    let m = g.K.Keyspace.contents c.loop-key.keyspace in
    let led = c.loop-key.invariant.led in
    subst (λ k. IsSome (get m k)) (sym c.as_slice.ensures.value)
    (last-there led.0 m c.pop.new.self.items (c.in-Some.key, c.in-Some.value)
    (subst (λ bs. LeadsTo led.0 bs m) c.in-Some.ensures.items led.1))

pub loop-key-preserved : goal.loop-key-preserved
loop-key-preserved g c =
    let last : Before = (c.in-Some.key, c.in-Some.value) in
    let left = c.pop.new.self.items in
    let m = g.K.Keyspace.contents c.loop-key.keyspace in
    let n = g.K.Keyspace.contents c.leave.new.keyspace in
    let led = c.loop-key.invariant.led in
    let now : n ≡ set m c.in-Some.key.items c.in-Some.value =
    c.leave.ensures.left ∙ ap (λ k. set m k c.in-Some.value) c.as_slice.ensures.value in
    record {
      led = (
        led.0,
        subst (LeadsTo led.0 left) (sym now)
            (last-undone led.0 m left last (subst (λ bs. LeadsTo led.0 bs m) c.in-Some.ensures.items led.1)),
      );
      still = λ a h.
          subst (LeadsTo a left) (sym now)
          (last-undone a m left last (subst (λ bs. LeadsTo a bs m) c.in-Some.ensures.items (c.loop-key.invariant.still a h)));
      covered =
          all-front (λ b. IsTrue (g.K.Keyspace.covered b.0.items)) left last
          (subst (AllByRecursion (λ b. IsTrue (g.K.Keyspace.covered b.0.items))) c.in-Some.ensures.items c.loop-key.invariant.covered);
    }
