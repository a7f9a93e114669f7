use Rattle.std.proofs.Common.{◌≡◌, ◌≤◌, ◌++◌, ap, ◌∙◌, take, drop, length, vec_len, arith}
use Rattle.std.proofs.lemmas.List.{take_at}
use Rattle.packing.specs.Codes.{words_code}
use Rattle.packing.proofs.PackedLaws.{packed_fits, packed_read}
use Rattle.packing.proofs.packed_request.PackedRequest.copy_into.Goals as goal
use Rattle.packing.proofs.packed_request.PackedRequest.copy_into.Goals.{After-write_words, then-len-size+in_ok-resize, else-len-size}

-- before it is cut, the buffer is long enough
long : (c : After-write_words) → c.in-Some.size ≤ vec_len c.if-len-size.bytes
long c = elim c.if-len-size.branch [
  | then-len-size+in_ok-resize w ↦ omega (arith, ap vec_len w.bytes-is, w.in_ok-resize.ensures.len)
  | else-len-size w ↦ omega (arith, ap vec_len w.bytes-is, w.if-len-size.false, c.len.ensures)
]

-- what was written is all of the buffer
the_put : (c : After-write_words)
    → take c.truncate.new.self.len (c.write_words.new.out ++ drop (length c.write_words.new.out) c.truncate.new.self.items)
    ≡ words_code c.args.words.now
the_put c = take_at c.write_words.new.out (drop (length c.write_words.new.out) c.truncate.new.self.items) c.truncate.new.self.len
    (omega (arith, ap length c.write_words.ensures, c.truncate.ensures.len, long c, c.in-Some.ensures.0)) ∙ c.write_words.ensures

pub invariant_of-result : goal.invariant_of-result
invariant_of-result c = packed_fits _ _ (the_put (goal.at.invariant_of-result c).After-write_words) c.in-Some.ensures.1

pub returns-clause-copied : goal.returns-clause-copied
returns-clause-copied c = packed_read _ _ (the_put (goal.at.returns-clause-copied c).After-write_words) c.in-Some.ensures.1
