use Rattle.std.proofs.Common.{◌≡◌, drop}
use Rattle.string_commands.specs.StringCommand.{missing_among}
use Rattle.texts.specs.Texts.{firsts}
use Rattle.string_commands.proofs.pairs.is_one_missing.Given as goal

-- those that are missing from here on are all
abbrev pub invariant-loop-place : goal.invariant-loop-place
invariant-loop-place g l =
    let m = g.K.Keyspace.contents l.keyspace in
    missing_among m (drop l.place (firsts l.pairs)) ≡ missing_among m (firsts l.pairs)
