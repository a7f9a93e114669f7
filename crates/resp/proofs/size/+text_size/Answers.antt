use Rattle.std.proofs.Common.{rules, arith, ◌≡◌, ◌+◌, ◌^◌, ◌<◌, ◌∷◌, ◌++◌, [], length, take, ap, refl, length-append, ◌∙◌, subst}
use Rattle.std.proofs.lemmas.List.{take_all}
use Rattle.std.specs.Fmt.{decimal, signed_decimal}
use Rattle.std.specs.List.{flat_map}
use Rattle.std.specs.Option.{SomeIff}
use Rattle.resp.specs.Ascii.{asterisk, plus, colon}
use Rattle.resp.specs.Text.{crlf, reply_text}
use Rattle.resp.proofs.Sizes.{sized, length-text-Simple, length-text-Int}
use Rattle.resp.proofs.Texts.{length-text-Array, length-text-Bulks, array_item_fits}
use Rattle.resp.proofs.size.+text_size.Goals as goal

pub returns-in-Simple : goal.returns-in-Simple
returns-in-Simple t c =
    sized _ _ (c.line_size.ensures plus ∙ length-text-Simple c.args.reply.now c.in-Simple.line _ c.in-Simple.is c.as_bytes.ensures.value)
    c.line_size.type_inv

pub returns-in-Int : goal.returns-in-Int
returns-in-Int t c =
    let shown : c.as_bytes-in-Int.result.now ≡ signed_decimal c.in-Int.n = search rules in
    sized _ _ (c.line_size-in-Int.ensures colon ∙ length-text-Int c.args.reply.now c.in-Int.n _ c.in-Int.is shown)
    c.line_size-in-Int.type_inv

-- where a reply's text is too large, the array's is
pub returns-in_err-text_size-in-Array : goal.returns-in_err-text_size-in-Array
returns-in_err-text_size-in-Array t c =
    let items = c.deref-reply-items.ensures.value in
    let counted : c.len.result ≡ length c.in-Array.replies.items = omega (arith, c.len.ensures, c.in-Array.replies.ok) in
    let within : c.loop-reply.reply-index < length c.in-Array.replies.items = omega (arith, ap length items) in
    let fits = array_item_fits [] _ _ c.args.reply.now c.reply-item.result c.in-Array.replies c.len.result c.loop-reply.reply-index
    c.in-Array.is counted within (rw items at c.reply-item.is) refl refl in
    let fails : length (reply_text c.args.reply.now) < 2 ^ 64 → ⊥ =
    λ h. c.in_err-text_size-in-Array.ensures (omega (arith, fits, h)) in
    rw c.from_residual.ensures fails

-- where the sum is too large, the array's text is
pub returns-in_err-size-in-Array : goal.returns-in_err-size-in-Array
returns-in_err-size-in-Array t c =
    let items = c.deref-reply-items.ensures.value in
    let counted : c.len.result ≡ length c.in-Array.replies.items = omega (arith, c.len.ensures, c.in-Array.replies.ok) in
    let within : c.loop-reply.reply-index < length c.in-Array.replies.items = omega (arith, ap length items) in
    let fits = array_item_fits [] _ _ c.args.reply.now c.reply-item.result c.in-Array.replies c.len.result c.loop-reply.reply-index
    c.in-Array.is counted within (rw items at c.reply-item.is) refl refl in
    let size = c.length_size-size.ensures.size asterisk in
    let before = rw items at c.loop-reply.invariant.texts in
    let parts = length-append (asterisk ∷ decimal c.len.result ++ crlf)
    (flat_map reply_text (take c.loop-reply.reply-index c.in-Array.replies.items)) in
    let item = c.in_ok-text_size-in-Array.ensures.1 in
    let fails : length (reply_text c.args.reply.now) < 2 ^ 64 → ⊥ =
    λ h. c.in_err-size-in-Array.ensures (omega (arith, fits, h, size, before, parts, item)) in
    rw c.from_residual-in_err-size-in-Array.ensures fails

pub returns-after-loop-reply : goal.returns-after-loop-reply
returns-after-loop-reply t c =
    let items = c.deref-reply-items.ensures.value in
    let counted : c.len.result ≡ length c.in-Array.replies.items = omega (arith, c.len.ensures, c.in-Array.replies.ok) in
    let all = ap (flat_map reply_text)
    (take_all c.loop-reply.reply-index c.in-Array.replies.items (omega (arith, ap length items))) in
    let whole = length-text-Array c.args.reply.now c.in-Array.replies c.len.result c.in-Array.is counted in
    let before = rw all at (rw items at c.loop-reply.invariant.texts) in
    sized _ _ (omega (arith, whole, before, c.length_size-size.ensures.size asterisk)) c.loop-reply.invariant.fits

pub returns-in-Bulks : goal.returns-in-Bulks
returns-in-Bulks t c =
    let whole = length-text-Bulks c.args.reply.now c.in-Bulks.texts c.len-in-Bulks.result c.in-Bulks.is c.len-in-Bulks.ensures in
    let head = c.length_size.ensures.size asterisk in
    let sum : c.length_size.result + length c.as_bytes-in-Bulks.result.now ≡ length (reply_text c.args.reply.now) =
    omega (arith, whole, head, ap length c.as_bytes-in-Bulks.ensures) in
    subst (λ n. SomeIff c.checked_add-in-Bulks.result (n < 2 ^ 64) n) sum c.checked_add-in-Bulks.ensures
