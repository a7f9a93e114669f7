use Rattle.std.proofs.Common.{◌∙◌, ap, arith, sym}
use Rattle.std.specs.Str.{bytes_eq}
use Rattle.layer_results.proofs.Names.{head_of, members_at}
use Rattle.layer_results.proofs.members.member_count.Goals as goal

pub overflow_sub-result : goal.overflow_sub-result
overflow_sub-result c =
    let head = head_of c.args.words.now c.as_bytes.result.now _ _ _ c.as_bytes.ensures.code c.as_bytes.ensures.fit
    c.take_number-count.ensures.number c.take_number-count.ensures.rest c.take_word.ensures.word in
    omega (arith, head.counted)

pub returns-then-eq : goal.returns-then-eq
returns-then-eq c =
    let head = head_of c.args.words.now c.as_bytes.result.now _ _ _ c.as_bytes.ensures.code c.as_bytes.ensures.fit
    c.take_number-count.ensures.number c.take_number-count.ensures.rest c.take_word.ensures.word in
    let test = c.if-eq.ensures ∙ ap (bytes_eq c.take_word.result.0.now) c.as_slice.ensures in
    sym (members_at c.args.words.now c.take_number-count.result.0 c.take_word.result.0.now _ head test)

pub returns-else-eq : goal.returns-else-eq
returns-else-eq c =
    let head = head_of c.args.words.now c.as_bytes.result.now _ _ _ c.as_bytes.ensures.code c.as_bytes.ensures.fit
    c.take_number-count.ensures.number c.take_number-count.ensures.rest c.take_word.ensures.word in
    let test = c.if-eq.ensures ∙ ap (bytes_eq c.take_word.result.0.now) c.as_slice.ensures in
    sym (members_at c.args.words.now c.take_number-count.result.0 c.take_word.result.0.now _ head test)
