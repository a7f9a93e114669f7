use Rattle.std.proofs.Common.{Some, ap, ◌∙◌}
use Rattle.std.specs.Option.{option_map}
use Rattle.values.proofs.PairsSeen.{lookup-seen}
use Rattle.values.proofs.pair_table.look_up.Goals as goal

pub returns-in-Some : goal.returns-in-Some
returns-in-Some c =
    ap Some c.as_slice.ensures.value ∙ ap (option_map (λ v. v.items)) c.in-Some.ensures.value
    ∙ lookup-seen c.args.field.now c.args.pairs.now.entries

pub returns-in-None : goal.returns-in-None
returns-in-None c = ap (option_map (λ v. v.items)) c.in-None.ensures.value ∙ lookup-seen c.args.field.now c.args.pairs.now.entries
