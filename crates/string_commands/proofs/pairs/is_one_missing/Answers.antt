use Rattle.std.proofs.Common.{not, sym, ap, ◌∙◌}
use Rattle.std.specs.FinMap.{get}
use Rattle.texts.specs.Texts.{firsts}
use Rattle.string_commands.proofs.ManyKeys.{missed, missing_here, missing_later}
use Rattle.string_commands.proofs.pairs.is_one_missing.Goals as goal

pub returns-then-is_none-clause-missing : goal.returns-then-is_none-clause-missing
returns-then-is_none-clause-missing g c _ =
    let m = g.K.Keyspace.contents c.args.keyspace.now in
    let key = c.first_at.result.now in
    missing_here m (firsts c.args.pairs.now) c.loop-place.place key c.first_at.ensures
    (missed c.look.result (get m key) c.is_none.result c.look.ensures c.is_none.ensures ∙ ap not c.if-is_none.true)
    c.loop-place.invariant

pub loop-place-preserved : goal.loop-place-preserved
loop-place-preserved g c =
    let m = g.K.Keyspace.contents c.args.keyspace.now in
    let key = c.first_at.result.now in
    sym (missing_later m (firsts c.args.pairs.now) c.loop-place.place key c.first_at.ensures
    (missed c.look.result (get m key) c.is_none.result c.look.ensures c.is_none.ensures ∙ ap not c.if-is_none.false))
    ∙ c.loop-place.invariant
