use Rattle.texts.specs.Texts.{firsts}
use Rattle.string_commands.proofs.ManyKeys.{all-among, none_missing}
use Rattle.string_commands.proofs.pairs.replace_all.Goals as goal

pub replace_each-requires-clause-covered : goal.replace_each-requires-clause-covered
replace_each-requires-clause-covered g c q h = all-among g.K.Keyspace.covered (firsts c.args.pairs) c.requires q h

pub replace_each-requires-clause-there : goal.replace_each-requires-clause-there
replace_each-requires-clause-there g c q h =
    none_missing (g.K.Keyspace.contents c.args.keyspace.now) (firsts c.args.pairs)
    (c.is_one_missing.ensures.there c.if-is_one_missing.false) q h
