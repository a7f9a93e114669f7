use Rattle.std.proofs.Common.{◌<◌, ◌≤◌, length, arith, sym, ap, ◌∙◌}
use Rattle.std.proofs.lemmas.List.{take_all}
use Rattle.command_table.specs.Held.{keys_held}
use Rattle.command_table.specs.Telling.{named}
use Rattle.groups.specs.GroupSet.{chosen}
use Rattle.placement.specs.Groups.{has_key_on}
use Rattle.placement.proofs.Addressed.{chosen-none, with-key}
use Rattle.placement.proofs.table.Table.groups_of_each.Goals as goal

pub loop-index-init : goal.loop-index-init
loop-index-init c = c.empty-groups.ensures ∙ sym (chosen-none 0 c.args.self.now.shards)

pub loop-index-preserved : goal.loop-index-preserved
loop-index-preserved c =
    let keys = named (keys_held c.args.keys) in
    let within : c.loop-index.index < length keys = omega arith in
    c.with-groups.ensures ∙ rw c.loop-index.invariant
    (with-key c.args.self.now keys c.loop-index.index c.at.result.now c.shard_of.result within c.at.ensures
    c.shard_of.ensures.value c.shard_of.ensures.in_range)

pub returns : goal.returns
returns c =
    let keys = named (keys_held c.args.keys) in
    let all : length keys ≤ c.loop-index.index = omega arith in
    c.loop-index.invariant
    ∙ ap (λ keys. chosen (λ shard. has_key_on c.args.self.now shard keys) 0 c.args.self.now.shards) (take_all c.loop-index.index keys all)
