use Rattle.std.proofs.Common.{◌≡◌, true, false, is_some, sym, ◌∙◌}
use Rattle.std.specs.FinMap.{get}
use Rattle.texts.specs.Texts.{firsts}
use Rattle.string_commands.proofs.ManyKeys.{looked, one_there}
use Rattle.string_commands.proofs.pairs.is_one_there.Goals as goal

pub returns-then-is_some : goal.returns-then-is_some
returns-then-is_some g c =
    let m = g.K.Keyspace.contents c.args.keyspace.now in
    let key = c.first_at.result.now in
    let there : is_some (get m key) ≡ true =
    looked c.look.result (get m key) c.is_some.result c.look.ensures c.is_some.ensures ∙ c.if-is_some.true in
    sym (one_there m (firsts c.args.pairs.now) c.loop-place.place key true c.first_at.ensures there) ∙ c.loop-place.invariant

pub loop-place-preserved : goal.loop-place-preserved
loop-place-preserved g c =
    let m = g.K.Keyspace.contents c.args.keyspace.now in
    let key = c.first_at.result.now in
    let there : is_some (get m key) ≡ false =
    looked c.look.result (get m key) c.is_some.result c.look.ensures c.is_some.ensures ∙ c.if-is_some.false in
    sym (one_there m (firsts c.args.pairs.now) c.loop-place.place key false c.first_at.ensures there) ∙ c.loop-place.invariant
