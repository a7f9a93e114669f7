use Rattle.std.proofs.Common.{◌≡◌, ◌∷◌, IsSome, IsTrue, reverse, sym, ap, subst, ◌∙◌}
use Rattle.std.specs.FinMap.{get, insert}
use Rattle.command_cases.specs.Shapes.{with_pairs}
use Rattle.keyspace.specs.Map.{among}
use Rattle.string_commands.proofs.ManyKeys.{still_there, all_turns, later_key, next_key, next_turn}
use Rattle.texts.specs.Texts.{firsts, pairs_of, texts_of}
use Rattle.values.specs.declared.Value.TheVariants.{Str}
use Rattle.string_commands.proofs.pairs.replace_each.Goals as goal

pub loop-key-init : goal.loop-key-init
loop-key-init g c =
    let turned : pairs_of (reverse (texts_of c.reverse.new.self.items)) ≡ c.args.pairs =
    all_turns c.into_turns-turns.result.items c.reverse.new.self.items c.args.pairs c.reverse.ensures.items c.into_turns-turns.ensures in
    record {
      puts = ap (with_pairs (g.K.Keyspace.contents c.args.keyspace.now)) turned;
      covered = λ q h. c.requires.covered q (ap (λ ps. among (firsts ps) q) (sym turned) ∙ h);
      there = λ q h. c.requires.there q (ap (λ ps. among (firsts ps) q) (sym turned) ∙ h);
    }

pub replace-requires-clause-covered : goal.replace-requires-clause-covered
replace-requires-clause-covered g c =
    let key = c.in-Some-Some.key in
    let here = c.loop-key.invariant.covered key.items
    (next_key c.loop-key.turns.items c.pop.new.self.items c.pop-in-loop-key.new.self.items key c.in-Some-Some.value
    c.in-Some-Some.ensures.items c.in-Some-Some.ensures'.items) in
    subst (λ k. IsTrue (g.K.Keyspace.covered k)) (sym c.as_slice.ensures.value) here

pub replace-requires-clause-there : goal.replace-requires-clause-there
replace-requires-clause-there g c =
    let key = c.in-Some-Some.key in
    let here = c.loop-key.invariant.there key.items
    (next_key c.loop-key.turns.items c.pop.new.self.items c.pop-in-loop-key.new.self.items key c.in-Some-Some.value
    c.in-Some-Some.ensures.items c.in-Some-Some.ensures'.items) in
    subst (λ k. IsSome (get (g.K.Keyspace.contents c.loop-key.keyspace) k)) (sym c.as_slice.ensures.value) here

pub loop-key-preserved : goal.loop-key-preserved
loop-key-preserved g c =
    let key = c.in-Some-Some.key in
    let value = c.in-Some-Some.value in
    let after = c.pop-in-loop-key.new.self.items in
    let rest = pairs_of (reverse (texts_of after)) in
    let m = g.K.Keyspace.contents c.loop-key.keyspace in
    let n = g.K.Keyspace.contents c.replace.new.self in
    let turn : pairs_of (reverse (texts_of c.loop-key.turns.items)) ≡ (key.items, value.items) ∷ rest =
    next_turn c.loop-key.turns.items c.pop.new.self.items after key value c.in-Some-Some.ensures.items c.in-Some-Some.ensures'.items in
    let replaced : n ≡ insert m key.items (Str value.items) =
    c.replace.ensures.replaced ∙ ap (λ k. insert m k (Str c.from.result)) c.as_slice.ensures.value
    ∙ ap (λ v. insert m key.items (Str v)) c.from.ensures in
    record {
      puts = ap (λ a. with_pairs a rest) replaced ∙ ap (with_pairs m) (sym turn) ∙ c.loop-key.invariant.puts;
      covered = λ q h. c.loop-key.invariant.covered q
          (later_key c.loop-key.turns.items c.pop.new.self.items after key value q c.in-Some-Some.ensures.items c.in-Some-Some.ensures'.items h);
      there = λ q h. still_there m n key.items (Str value.items) q replaced
          (c.loop-key.invariant.there q
          (later_key c.loop-key.turns.items c.pop.new.self.items after key value q c.in-Some-Some.ensures.items c.in-Some-Some.ensures'.items h));
    }
