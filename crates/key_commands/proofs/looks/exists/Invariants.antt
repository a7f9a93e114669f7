use Rattle.std.proofs.Common.{◌≡◌, ◌+◌, ◌≤◌, drop, is_some}
use Rattle.command_cases.specs.Shapes.{values_at}
use Rattle.std.specs.List.{count_by}
use Rattle.texts.specs.Texts.{texts_of}
use Rattle.key_commands.proofs.looks.exists.Given as goal

-- those that are counted and those among the keys that are left are all that are there
abbrev pub invariant-loop-key : goal.invariant-loop-key
invariant-loop-key g l =
    let m = g.K.Keyspace.contents l.keyspace in
    record {
      bounded : l.there ≤ l.key-index;
      counts : l.there + count_by is_some (values_at m (texts_of (drop l.key-index l.key-items)))
          ≡ count_by is_some (values_at m l.fn.keys);
    }
