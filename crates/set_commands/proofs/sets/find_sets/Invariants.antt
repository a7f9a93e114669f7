use Rattle.std.proofs.Common.{◌≡◌, ◌++◌, drop}
use Rattle.std.specs.Option.{option_map}
use Rattle.command_cases.specs.Shapes.{values_at}
use Rattle.set_commands.specs.Combination.{found_sets}
use Rattle.set_commands.specs.SetCommand.{sets_at}
use Rattle.texts.specs.Texts.{texts_of}
use Rattle.set_commands.proofs.sets.find_sets.Given as goal

-- the sets so far, before those at the keys that are left
abbrev pub invariant-loop-key : goal.invariant-loop-key
invariant-loop-key g l =
    let m = g.K.Keyspace.contents l.keyspace in
    option_map (λ rest. found_sets l.sets.items ++ rest) (sets_at (values_at m (texts_of (drop l.key-index l.key-items))))
    ≡ sets_at (values_at m l.keys)
