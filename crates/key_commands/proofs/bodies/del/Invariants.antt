use Rattle.std.proofs.Common.{◌≡◌, ◌+◌, ◌≤◌, drop}
use Rattle.std.specs.FinMap.{len}
use Rattle.keyspace.specs.Map.{restrict, without}
use Rattle.texts.specs.Texts.{texts_of}
use Rattle.key_commands.proofs.bodies.del.Given as goal

-- what the keys that are left take away, from here, is what all keys take away from the start
abbrev pub invariant-loop-key : goal.invariant-loop-key
invariant-loop-key g l =
    let contents = g.K.Keyspace.contents in
    let rest = texts_of (drop l.key-index l.key-items) in
    record {
      bounded : l.removed ≤ l.key-index;
      removes : without (contents l.keyspace) rest ≡ without (contents l.fn.keyspace) l.fn.keys;
      counts : l.removed + len (restrict (contents l.keyspace) rest) ≡ len (restrict (contents l.fn.keyspace) l.fn.keys);
    }
