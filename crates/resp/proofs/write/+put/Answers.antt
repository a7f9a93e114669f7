use Rattle.std.proofs.Common.{◌≡◌, ◌<◌, ◌+◌, ◌∷◌, ◌++◌, append_assoc, length-append, rules, arith, length, ap, sym, ◌∙◌, vec_len, vec_capacity}
use Rattle.std.specs.Fmt.{decimal, signed_decimal}
use Rattle.resp.specs.Ascii.{asterisk}
use Rattle.resp.specs.Text.{crlf, reply_text}
use Rattle.resp.proofs.Texts.{text-Simple-written, text-Error-written, text-Int-written, text-Bulk-written, text-Array-written}
use Rattle.resp.proofs.Texts.{array_head_fits, array_item_fits, length-text-Bulks, text-Bulks-written}
use Rattle.resp.proofs.write.+put.Goals as goal

pub returns-in_ok-put_line-in-Simple-clause-ok : goal.returns-in_ok-put_line-in-Simple-clause-ok
returns-in_ok-put_line-in-Simple-clause-ok t c =
    text-Simple-written _ _ _ _ c.in-Simple.line c.in-Simple.is c.as_bytes.ensures.value c.in_ok-put_line-in-Simple.ensures.ok

pub returns-in_ok-put_error-in-Error-clause-ok : goal.returns-in_ok-put_error-in-Error-clause-ok
returns-in_ok-put_error-in-Error-clause-ok t c =
    text-Error-written _ _ _ c.in-Error.line c.in-Error.is c.in_ok-put_error-in-Error.ensures.ok

pub returns-in_ok-put_line-in-Int-clause-ok : goal.returns-in_ok-put_line-in-Int-clause-ok
returns-in_ok-put_line-in-Int-clause-ok t c =
    let shown : c.as_bytes-in-Int.result.now ≡ signed_decimal c.in-Int.n = search rules in
    text-Int-written _ _ _ _ c.in-Int.n c.in-Int.is shown c.in_ok-put_line-in-Int.ensures.ok

pub returns-in_ok-put_bulk-in-Bulk-clause-ok : goal.returns-in_ok-put_bulk-in-Bulk-clause-ok
returns-in_ok-put_bulk-in-Bulk-clause-ok t c =
    text-Bulk-written _ _ _ _ c.in-Bulk.bytes c.in-Bulk.is c.deref.ensures.value c.in_ok-put_bulk-in-Bulk.ensures.ok

pub returns-in_err-put_length-in-Array-clause-full : goal.returns-in_err-put_length-in-Array-clause-full
returns-in_err-put_length-in-Array-clause-full t c =
    let counted : c.len.result ≡ length c.in-Array.replies.items = omega (arith, c.len.ensures, c.in-Array.replies.ok) in
    let fits = array_head_fits c.args.reply.now c.in-Array.replies c.len.result c.in-Array.is counted in
    let fails : vec_capacity c.args.out.now < vec_len c.args.out.now + length (reply_text c.args.reply.now) =
    omega (arith, c.in_err-put_length-in-Array.ensures.full, fits) in
    search (rules, fails)

pub returns-in_err-put-in-Array-clause-full : goal.returns-in_err-put-in-Array-clause-full
returns-in_err-put-in-Array-clause-full t c =
    let items = c.deref-reply-items.ensures.value in
    let counted : c.len.result ≡ length c.in-Array.replies.items = omega (arith, c.len.ensures, c.in-Array.replies.ok) in
    let within : c.loop-reply.reply-index < length c.in-Array.replies.items = omega (arith, ap length items) in
    let fits = array_item_fits c.args.out.now.items c.put_length.new.out.items c.loop-reply.out.items c.args.reply.now
    c.reply-item.result
    c.in-Array.replies c.len.result c.loop-reply.reply-index c.in-Array.is counted within (rw items at c.reply-item.is)
    c.in_ok-put_length-in-Array.ensures.ok (rw items at c.loop-reply.invariant.texts) in
    let fails : vec_capacity c.args.out.now < vec_len c.args.out.now + length (reply_text c.args.reply.now) =
    omega (
      arith,
      fits,
      c.in_err-put-in-Array.ensures.full,
      c.loop-reply.invariant.capacity,
      c.in_ok-put_length-in-Array.ensures.capacity,
      c.loop-reply.out.ok,
      c.args.out.now.ok,
    ) in
    search (rules, fails)

pub returns-after-loop-reply-clause-ok : goal.returns-after-loop-reply-clause-ok
returns-after-loop-reply-clause-ok t c =
    text-Array-written _ _ _ _ c.in-Array.replies c.loop-reply.reply-index c.len.result c.in-Array.is
    (c.len.ensures ∙ sym c.deref-reply-items.ensures.len ∙ ap length c.deref-reply-items.ensures.value)
    c.in_ok-put_length-in-Array.ensures.ok
    (rw c.deref-reply-items.ensures.value at c.loop-reply.invariant.texts)
    (omega (arith, ap length c.deref-reply-items.ensures.value))

pub returns-in_err-put_length-in-Bulks-clause-full : goal.returns-in_err-put_length-in-Bulks-clause-full
returns-in_err-put_length-in-Bulks-clause-full t c =
    let whole = length-text-Bulks c.args.reply.now c.in-Bulks.texts c.len-in-Bulks.result c.in-Bulks.is c.len-in-Bulks.ensures in
    let fails : vec_capacity c.args.out.now < vec_len c.args.out.now + length (reply_text c.args.reply.now) =
    omega (arith, c.in_err-put_length-in-Bulks.ensures.full, whole) in
    search (rules, fails)

pub returns-in_err-extend_from_slice-in-Bulks-clause-full : goal.returns-in_err-extend_from_slice-in-Bulks-clause-full
returns-in_err-extend_from_slice-in-Bulks-clause-full t c =
    let whole = length-text-Bulks c.args.reply.now c.in-Bulks.texts c.len-in-Bulks.result c.in-Bulks.is c.len-in-Bulks.ensures in
    let begun : length c.put_length-in-Bulks.new.out.items
    ≡ length c.args.out.now.items + length (asterisk ∷ decimal c.len-in-Bulks.result ++ crlf) =
    ap length (c.in_ok-put_length-in-Bulks.ensures.ok
    ∙ append_assoc c.args.out.now.items (asterisk ∷ decimal c.len-in-Bulks.result) crlf)
    ∙ length-append c.args.out.now.items (asterisk ∷ decimal c.len-in-Bulks.result ++ crlf) in
    let fails : vec_capacity c.args.out.now < vec_len c.args.out.now + length (reply_text c.args.reply.now) =
    omega (
      arith,
      whole,
      begun,
      ap length c.as_bytes-in-Bulks.ensures,
      c.in_err-extend_from_slice-in-Bulks.ensures.full,
      c.in_ok-put_length-in-Bulks.ensures.capacity,
      c.put_length-in-Bulks.new.out.ok,
      c.args.out.now.ok,
    ) in
    search (rules, fails)

pub returns-in_ok-extend_from_slice-in-Bulks-clause-ok : goal.returns-in_ok-extend_from_slice-in-Bulks-clause-ok
returns-in_ok-extend_from_slice-in-Bulks-clause-ok t c =
    text-Bulks-written _ _ _ _ c.in-Bulks.texts c.len-in-Bulks.result c.in-Bulks.is c.len-in-Bulks.ensures
    c.in_ok-put_length-in-Bulks.ensures.ok
    (rw c.as_bytes-in-Bulks.ensures at c.in_ok-extend_from_slice-in-Bulks.ensures.items)
