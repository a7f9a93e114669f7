use Rattle.std.proofs.Common.{◌≡◌, take}
use Rattle.test_support.specs.Rows.{row_bytes}
use Rattle.test_support.proofs.rows.bytes_of.Given as goal

-- the bytes so far are those of the row so far
abbrev pub invariant-loop-byte : goal.invariant-loop-byte
invariant-loop-byte l = l.bytes.items ≡ row_bytes (take l.byte-index l.byte-items)
