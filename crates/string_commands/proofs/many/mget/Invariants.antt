use Rattle.std.proofs.Common.{◌≡◌, ◌++◌, drop, map}
use Rattle.std.specs.Option.{option_copied}
use Rattle.command_cases.specs.Shapes.{values_at}
use Rattle.resp.specs.Content.{text_or_null}
use Rattle.string_commands.specs.StringCommand.{string_or_null}
use Rattle.texts.specs.Texts.{texts_of}
use Rattle.string_commands.proofs.many.mget.Given as goal

-- what is found so far, and what stands at the keys that are left, are the whole answer
abbrev pub invariant-loop-key : goal.invariant-loop-key
invariant-loop-key g l =
    let m = g.K.Keyspace.contents l.keyspace in
    map text_or_null (map option_copied l.found.items) ++ map string_or_null (values_at m (texts_of (drop l.key-index l.key-items)))
    ≡ map string_or_null (values_at m l.fn.keys)
