use Rattle.std.proofs.Common.{◌≡◌, ◌++◌, [], ◌∷◌, IsTrue, length, reverse, refl, sym, ap, subst, ◌∙◌, arith}
use Rattle.std.specs.FinMap.{get, insert}
use Rattle.std.specs.List.{AllByRecursion}
use Rattle.command_cases.specs.Shapes.{with_pairs}
use Rattle.keyspace.specs.Map.{among}
use Rattle.string_commands.proofs.Led.{absent-before, all-snoc, led-snoc}
use Rattle.string_commands.proofs.ManyKeys.{all-among, on_err-always, all_turns, later_key, next_key, next_turn, some_missing}
use Rattle.string_commands.specs.Before.{LeadsTo}
use Rattle.texts.specs.Texts.{firsts, pairs_of, texts_of}
use Rattle.values.specs.declared.Value.TheVariants.{Str}
use Rattle.string_commands.proofs.pairs.put_all.Goals as goal

pub loop-key-init : goal.loop-key-init
loop-key-init g c =
    let m = g.K.Keyspace.contents c.args.keyspace.now in
    let paired : pairs_of (reverse (texts_of c.reverse.new.self.items)) ≡ c.args.pairs =
    all_turns c.into_turns-turns.result.items c.reverse.new.self.items c.args.pairs c.reverse.ensures.items c.into_turns-turns.ensures in
    record {
      puts = ap (with_pairs m) paired;
      within = λ q h. ap (λ ps. among (firsts ps) q) (sym paired) ∙ h;
      absent = λ q none. none;
      led = subst (λ bs. LeadsTo m bs m) (sym c.requires.room.0) refl;
      covered = subst (AllByRecursion (λ b. IsTrue (g.K.Keyspace.covered b.0.items))) (sym c.requires.room.0) tt;
      room = omega (arith, ap length c.requires.room.0, ap length paired, c.requires.room.1);
    }

pub put-requires : goal.put-requires
put-requires g c =
    let key = c.in-Some-Some.key in
    let here = c.loop-key.invariant.within key.items
    (next_key c.loop-key.turns.items c.pop.new.self.items c.pop-in-loop-key.new.self.items key c.in-Some-Some.value
    c.in-Some-Some.ensures.items c.in-Some-Some.ensures'.items) in
    subst (λ k. IsTrue (g.K.Keyspace.covered k)) (sym c.as_slice.ensures.value)
    (all-among g.K.Keyspace.covered (firsts c.args.pairs) c.requires.covered key.items here)

pub returns-in_err-value-clause-starves : goal.returns-in_err-value-clause-starves
returns-in_err-value-clause-starves g c =
    let m = g.K.Keyspace.contents c.loop-key.keyspace in
    let key = c.in-Some-Some.key in
    let here = c.loop-key.invariant.within key.items
    (next_key c.loop-key.turns.items c.pop.new.self.items c.pop-in-loop-key.new.self.items key c.in-Some-Some.value
    c.in-Some-Some.ensures.items c.in-Some-Some.ensures'.items) in
    on_err-always c.from_residual.result
    (some_missing (g.K.Keyspace.contents c.args.keyspace.now) (firsts c.args.pairs) key.items here
    (c.loop-key.invariant.absent key.items (ap (get m) (sym c.as_slice.ensures.value) ∙ c.in_err-value.ensures.absent)))

pub loop-key-preserved : goal.loop-key-preserved
loop-key-preserved g c =
    let key = c.in-Some-Some.key in
    let value = c.in-Some-Some.value in
    let stood = c.in_ok-value.value in
    let after = c.pop-in-loop-key.new.self.items in
    let rest = pairs_of (reverse (texts_of after)) in
    let before = c.loop-key.before.items in
    let first = g.K.Keyspace.contents c.args.keyspace.now in
    let m = g.K.Keyspace.contents c.loop-key.keyspace in
    let n = g.K.Keyspace.contents c.put.new.keyspace in
    let turn : pairs_of (reverse (texts_of c.loop-key.turns.items)) ≡ (key.items, value.items) ∷ rest =
    next_turn c.loop-key.turns.items c.pop.new.self.items after key value c.in-Some-Some.ensures.items c.in-Some-Some.ensures'.items in
    let here = c.loop-key.invariant.within key.items
    (next_key c.loop-key.turns.items c.pop.new.self.items c.pop-in-loop-key.new.self.items key c.in-Some-Some.value
    c.in-Some-Some.ensures.items c.in-Some-Some.ensures'.items) in
    let put : n ≡ insert m key.items (Str value.items) =
    c.in_ok-value.ensures.ok ∙ ap (λ k. insert m k (Str c.from.result)) c.as_slice.ensures.value
    ∙ ap (λ v. insert m key.items (Str v)) c.from.ensures in
    let was : get m key.items ≡ stood = ap (get m) (sym c.as_slice.ensures.value) ∙ c.in_ok-value.ensures.before in
    record {
      puts = ap (λ a. with_pairs a rest) put ∙ ap (with_pairs m) (sym turn) ∙ c.loop-key.invariant.puts;
      within = λ q h. c.loop-key.invariant.within q
          (later_key c.loop-key.turns.items c.pop.new.self.items after key value q c.in-Some-Some.ensures.items c.in-Some-Some.ensures'.items h);
      absent = λ q none. c.loop-key.invariant.absent q (absent-before m n key.items (Str value.items) q put none);
      led =
          subst (λ bs. LeadsTo first bs n) (sym c.push_reserved.ensures.items)
          (subst (LeadsTo first (before ++ (key, stood) ∷ [])) (sym put)
          (led-snoc first m before (key, stood) (Str value.items) c.loop-key.invariant.led was));
      covered =
          subst (AllByRecursion (λ b. IsTrue (g.K.Keyspace.covered b.0.items))) (sym c.push_reserved.ensures.items)
          (all-snoc (λ b. IsTrue (g.K.Keyspace.covered b.0.items)) before (key, stood) c.loop-key.invariant.covered
          (all-among g.K.Keyspace.covered (firsts c.args.pairs) c.requires.covered key.items here));
      room = omega (arith, ap length turn, c.push_reserved.ensures.len, c.push_reserved.ensures.capacity, c.loop-key.invariant.room);
    }
