use Rattle.std.proofs.Common.{◌≡◌, map, take}
use Rattle.std.specs.Option.{option_copied}
use Rattle.hash_commands.specs.HashCommand.{found_pairs}
use Rattle.texts.specs.Texts.{texts_of}
use Rattle.values.specs.HashValue.{field_value}
use Rattle.hash_commands.proofs.arrays.each_value_reply.Given as goal

-- the fields so far have their values
abbrev pub invariant-loop-field : goal.invariant-loop-field
invariant-loop-field l =
    map option_copied l.found.items
    ≡ map (λ field. field_value (found_pairs (option_copied l.hash)) field) (texts_of (take l.field-index l.field-items))
