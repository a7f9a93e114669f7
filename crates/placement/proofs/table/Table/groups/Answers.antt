use Rattle.std.proofs.Common.{◌≡◌, ◌<◌, ◌≤◌, ◌||◌, false, length, slice_get, Some, arith, sym, ap, ◌∙◌}
use Rattle.command_table.specs.Command.{keys_of, is_whole}
use Rattle.groups.specs.GroupSet.{chosen, with_group}
use Rattle.placement.specs.Groups.{groups_of, has_key_on}
use Rattle.placement.proofs.Addressed.{chosen-none, with-key, groups_of-keys, has-groups_of-key, Any-groups_of}
use Rattle.placement.proofs.table.Table.groups.Goals as goal
use Rattle.placement.proofs.table.Table.groups.Goals.{After-groups_of_each, After-with}

-- where the command names one key

one : (c : After-with) → c.with.result ≡ groups_of c.args.self.now c.args.command.now
one c =
    let table = c.args.self.now in
    let keys = keys_of c.args.command.now in
    let part : is_whole c.args.command.now ≡ false = sym c.keys_of-keys.ensures.whole ∙ sym c.is_all.ensures ∙ c.if-is_all.false in
    let count : c.len.result ≡ length keys = c.len.ensures ∙ ap length c.keys_of-keys.ensures.named in
    let within : 0 < length keys = omega arith in
    let all : length keys ≤ 1 = omega arith in
    let here : slice_get keys 0 ≡ Some c.at.result.now =
    ap (λ keys. slice_get keys 0) (sym c.keys_of-keys.ensures.named) ∙ c.at.ensures in
    groups_of-keys table c.args.command.now 1 c.with.result part all (c.with.ensures
    ∙ ap (λ gs. with_group gs c.shard_of.result) (c.empty.ensures ∙ sym (chosen-none 0 table.shards))
    ∙ with-key table keys 0 c.at.result.now c.shard_of.result within here c.shard_of.ensures.value c.shard_of.ensures.in_range)

pub returns-then-len-eq1-clause-exact : goal.returns-then-len-eq1-clause-exact
returns-then-len-eq1-clause-exact c = one c

pub returns-then-len-eq1-clause-each_key : goal.returns-then-len-eq1-clause-each_key
returns-then-len-eq1-clause-each_key c =
    λ key at. rw (one c) (has-groups_of-key c.args.self.now c.args.command.now key c.shards-shards.ensures.is_table at)

pub returns-then-len-eq1-clause-no_other : goal.returns-then-len-eq1-clause-no_other
returns-then-len-eq1-clause-no_other c =
    λ part group has. Any-groups_of c.args.self.now c.args.command.now group part (rw (one c) at has)

-- where it names none or several

each : (c : After-groups_of_each) → c.groups_of_each.result ≡ groups_of c.args.self.now c.args.command.now
each c =
    let table = c.args.self.now in
    let keys = keys_of c.args.command.now in
    let part : is_whole c.args.command.now ≡ false = sym c.keys_of-keys.ensures.whole ∙ sym c.is_all.ensures ∙ c.if-is_all.false in
    c.groups_of_each.ensures ∙ ap (λ keys. chosen (λ s. has_key_on table s keys) 0 table.shards) c.keys_of-keys.ensures.named
    ∙ ap (λ b. chosen (λ s. b || has_key_on table s keys) 0 table.shards) (sym part)

pub returns-clause-exact : goal.returns-clause-exact
returns-clause-exact c = each c

pub returns-clause-each_key : goal.returns-clause-each_key
returns-clause-each_key c =
    λ key at. rw (each c) (has-groups_of-key c.args.self.now c.args.command.now key c.shards-shards.ensures.is_table at)

pub returns-clause-no_other : goal.returns-clause-no_other
returns-clause-no_other c = λ part group has. Any-groups_of c.args.self.now c.args.command.now group part (rw (each c) at has)
