use Rattle.std.proofs.Common.{◌≡◌, drop, is_some}
use Rattle.std.specs.List.{list_any}
use Rattle.command_cases.specs.Shapes.{values_at}
use Rattle.texts.specs.Texts.{firsts}
use Rattle.string_commands.proofs.pairs.is_one_there.Given as goal

-- one of the keys from here on is there just where one of all is
abbrev pub invariant-loop-place : goal.invariant-loop-place
invariant-loop-place g l =
    let m = g.K.Keyspace.contents l.keyspace in
    list_any is_some (values_at m (drop l.place (firsts l.pairs))) ≡ list_any is_some (values_at m (firsts l.fn.pairs))
