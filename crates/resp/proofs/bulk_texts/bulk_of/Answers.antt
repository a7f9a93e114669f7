use Rattle.std.proofs.Common.{◌-◌, None, length, take, drop, ap, sym, ◌∙◌, arith}
use Rattle.std.proofs.lemmas.List.{take_rest}
use Rattle.resp.specs.Bulks.{length_on}
use Rattle.resp.proofs.BulksRead.{head_line, line_read, null_read}
use Rattle.resp.proofs.bulk_texts.bulk_of.Goals as goal

pub returns-then-texts-eq45 : goal.returns-then-texts-eq45
returns-then-texts-eq45 c =
    ap (λ rest. (None, rest)) (take_rest c.args.texts.now 5)
    ∙ sym (null_read c.args.texts.now c.requires.0 c.requires.1 _ c.requires.2 c.if-texts-eq45.true)

pub length_of-size-requires : goal.length_of-size-requires
length_of-size-requires c =
    let texts = c.args.texts.now in
    let head = head_line texts c.requires.0 c.requires.1 _ c.requires.2 (omega arith) c.if-texts-eq45.false in
    (head.0, head.1, head.2, ap (length_on 0) (take_rest texts 1) ∙ head.3)

pub split_at-requires : goal.split_at-requires
split_at-requires c =
    let texts = c.args.texts.now in
    let head = head_line texts c.requires.0 c.requires.1 _ c.requires.2 (omega arith) c.if-texts-eq45.false in
    let says = ap (length_on 0) (take_rest texts 1) ∙ head.3 in
    let long = line_read (take (length texts - 1) (drop 1 texts)) c.length_of-size.result.0 head.0 c.length_of-size.result.1.now head.1
    c.length_of-size.ensures says head.4 in
    omega (arith, long)

pub behind_line_end-requires : goal.behind_line_end-requires
behind_line_end-requires c =
    let texts = c.args.texts.now in
    let head = head_line texts c.requires.0 c.requires.1 _ c.requires.2 (omega arith) c.if-texts-eq45.false in
    let says = ap (length_on 0) (take_rest texts 1) ∙ head.3 in
    let long = line_read (take (length texts - 1) (drop 1 texts)) c.length_of-size.result.0 head.0 c.length_of-size.result.1.now head.1
    c.length_of-size.ensures says head.4 in
    omega (arith, long, c.split_at.ensures.back_len)
