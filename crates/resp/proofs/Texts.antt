-- The text of each kind of reply, and of an array as its replies' texts in a row.
use Rattle.std.specs.Global.{Vec}
use Rattle.std.specs.Fmt.{decimal, signed_decimal}
use Rattle.std.proofs.Common.{◌≡◌, ℕ, ℤ, ◌+◌, List, [], ◌∷◌, ◌++◌, map, length, ap, sym, ◌∙◌, refl, Bor, arith, codes, take, ◌<◌, ◌≤◌}
use Rattle.std.proofs.Common.{append_assoc, length-append, get_or, Option, Some, None}
use Rattle.std.proofs.lemmas.List.{take_all}
use Rattle.std.proofs.lemmas.List.Folds.{length-flat_map-take}
use Rattle.std.specs.List.{flat_map}
use Rattle.resp.specs.declared.reply.ErrorText.{ErrorText}
use Rattle.resp.specs.declared.reply.Reply.{Reply}
use Rattle.resp.specs.declared.reply.Reply.TheVariants.{Simple, Error, Int, Bulk, Null, Array, Bulks}
use Rattle.resp.specs.Ascii.{plus, colon, minus, dollar, asterisk}
use Rattle.resp.specs.Bulks.{bulk_text}
use Rattle.resp.specs.Content.{text_or_null, content, contents, error_text}
use Rattle.resp.specs.Text.{crlf, text, contents_text, count_of, reply_text}
use Rattle.resp.proofs.Contents.{content-Simple, content-Error, content-Int, content-Bulk, content-Null, content-Array, content-Bulks}

count_of-contents : (replies : List Reply) → count_of (contents (map content replies)) ≡ length replies
count_of-contents [] = refl
count_of-contents (r ∷ rs) = ap (λ n. n + 1) (count_of-contents rs) ∙ omega arith

contents_text-contents : (replies : List Reply) → contents_text (contents (map content replies)) ≡ flat_map reply_text replies
contents_text-contents [] = refl
contents_text-contents (r ∷ rs) = ap (λ more. reply_text r ++ more) (contents_text-contents rs)

pub text-Simple : (line : Bor (List ℕ)) → text (content (Simple line)) ≡ codes "+" ++ line.now ++ crlf
text-Simple line = ap text (content-Simple line)

pub text-Error : (line : ErrorText) → text (content (Error line)) ≡ codes "-" ++ error_text line ++ crlf
text-Error line = ap text (content-Error line)

pub text-Int : (n : ℤ) → text (content (Int n)) ≡ codes ":" ++ signed_decimal n ++ crlf
text-Int n = ap text (content-Int n)

pub text-Bulk : (bytes : Vec ℕ) → text (content (Bulk bytes)) ≡ codes "$" ++ decimal (length bytes.items) ++ crlf ++ bytes.items ++ crlf
text-Bulk bytes = ap text (content-Bulk bytes)

pub text-Null : text (content Null) ≡ codes "$-1" ++ crlf
text-Null = ap text content-Null

pub text-Array : (replies : Vec Reply) → text (content (Array replies)) ≡ codes "*" ++ decimal (length replies.items) ++ crlf
    ++ flat_map reply_text replies.items
text-Array replies =
    rw (content-Array replies, count_of-contents replies.items, contents_text-contents replies.items)

count_of-bulks : (texts : List (Option (List ℕ))) → count_of (contents (map text_or_null texts)) ≡ length texts
count_of-bulks [] = refl
count_of-bulks (t ∷ ts) = ap (λ n. n + 1) (count_of-bulks ts) ∙ omega arith

text-one : (item : Option (List ℕ)) → text (text_or_null item) ≡ bulk_text item
text-one None = refl
text-one (Some bytes) = refl

contents_text-bulks : (texts : List (Option (List ℕ))) → contents_text (contents (map text_or_null texts)) ≡ flat_map bulk_text texts
contents_text-bulks [] = refl
contents_text-bulks (t ∷ ts) = rw text-one (ap (λ more. bulk_text t ++ more) (contents_text-bulks ts))

pub text-Bulks : (texts : List (Option (List ℕ))) → text (content (Bulks texts)) ≡ codes "*" ++ decimal (length texts) ++ crlf
    ++ flat_map bulk_text texts
text-Bulks texts = rw (content-Bulks texts, count_of-bulks texts, contents_text-bulks texts)

pub ruleset text_of = (text-Simple, text-Error, text-Int, text-Bulk, text-Null, text-Array, text-Bulks)

-- the length's line and then the texts of all replies are the text of the array
pub text-Array-written : (old begun out : List ℕ) (reply : Reply) (replies : Vec Reply) (i n : ℕ) → reply ≡ Array replies
    → n ≡ length replies.items → begun ≡ old ++ asterisk ∷ decimal n ++ crlf
    → out ≡ begun ++ flat_map reply_text (take i replies.items) → length replies.items ≤ i → out ≡ old ++ text (content reply)
text-Array-written old begun out reply replies i n is counted begins goes all =
    goes ∙ rw (begins, counted, take_all i replies.items all, is, text-Array replies) (simp append_assoc)

-- ---- what was written, as the text of the reply

pub text-Simple-written : (old out shown : List ℕ) (reply : Reply) (line : Bor (List ℕ)) → reply ≡ Simple line
    → shown ≡ line.now → out ≡ old ++ plus ∷ shown ++ crlf → out ≡ old ++ text (content reply)
text-Simple-written old out shown reply line is same goes =
    goes ∙ append_assoc old (plus ∷ shown) crlf ∙ rw (is, text-Simple line, same) refl

pub text-Error-written : (old out : List ℕ) (reply : Reply) (line : ErrorText) → reply ≡ Error line
    → out ≡ old ++ minus ∷ error_text line ++ crlf → out ≡ old ++ text (content reply)
text-Error-written old out reply line is goes =
    goes ∙ append_assoc old (minus ∷ error_text line) crlf ∙ rw (is, text-Error line) refl

pub text-Int-written : (old out shown : List ℕ) (reply : Reply) (n : ℤ) → reply ≡ Int n
    → shown ≡ signed_decimal n → out ≡ old ++ colon ∷ shown ++ crlf → out ≡ old ++ text (content reply)
text-Int-written old out shown reply n is same goes =
    goes ∙ append_assoc old (colon ∷ shown) crlf ∙ rw (is, text-Int n, same) refl

pub text-Bulk-written : (old out shown : List ℕ) (reply : Reply) (bytes : Vec ℕ) → reply ≡ Bulk bytes → shown ≡ bytes.items
    → out ≡ old ++ dollar ∷ decimal (length shown) ++ crlf ++ shown ++ crlf → out ≡ old ++ text (content reply)
text-Bulk-written old out shown reply bytes is same goes = goes ∙ rw (is, text-Bulk bytes, same) (simp append_assoc)

-- ---- parts of an array's text are no longer than it

pub length-text-Array : (reply : Reply) (replies : Vec Reply) (n : ℕ) → reply ≡ Array replies → n ≡ length replies.items
    → length (text (content reply)) ≡ length (asterisk ∷ decimal n ++ crlf) + length (flat_map reply_text replies.items)
length-text-Array reply replies n is counted =
    let same : text (content reply) ≡ (asterisk ∷ decimal n ++ crlf) ++ flat_map reply_text replies.items =
    rw (is, text-Array replies, counted) refl in
    ap length same ∙ length-append (asterisk ∷ decimal n ++ crlf) (flat_map reply_text replies.items)

pub array_head_fits : (reply : Reply) (replies : Vec Reply) (n : ℕ) → reply ≡ Array replies → n ≡ length replies.items
    → length (asterisk ∷ decimal n ++ crlf) ≤ length (text (content reply))
array_head_fits reply replies n is counted = omega (arith, length-text-Array reply replies n is counted)

-- behind the texts of the replies before it there is room for the text of one
pub array_item_fits : (old begun out : List ℕ) (reply item : Reply) (replies : Vec Reply) (n i : ℕ) → reply ≡ Array replies
    → n ≡ length replies.items → i < length replies.items → item ≡ get_or replies.items i item
    → begun ≡ old ++ asterisk ∷ decimal n ++ crlf → out ≡ begun ++ flat_map reply_text (take i replies.items)
    → length out + length (text (content item)) ≤ length old + length (text (content reply))
array_item_fits old begun out reply item replies n i is counted within at begins goes =
    let line : length begun ≡ length old + length (asterisk ∷ decimal n ++ crlf)
    = ap length (begins ∙ append_assoc old (asterisk ∷ decimal n) crlf) ∙ length-append old (asterisk ∷ decimal n ++ crlf) in
    let texts : length out ≡ length begun + length (flat_map reply_text (take i replies.items))
    = ap length goes ∙ length-append begun (flat_map reply_text (take i replies.items)) in
    let this : length (text (content item)) ≡ length (reply_text (get_or replies.items i item)) = ap (λ r. length (reply_text r)) at in
    omega (
      arith,
      length-text-Array reply replies n is counted,
      length-flat_map-take reply_text replies.items i item within,
      line,
      texts,
      this,
    )

-- ---- the same of bulk strings and nulls that are kept as their texts

pub length-text-Bulks : (reply : Reply) (texts : List (Option (List ℕ))) (n : ℕ) → reply ≡ Bulks texts → n ≡ length texts
    → length (asterisk ∷ decimal n ++ crlf) + length (flat_map bulk_text texts) ≡ length (text (content reply))
length-text-Bulks reply texts n is counted =
    rw (is, text-Bulks texts, counted) (sym (length-append (asterisk ∷ decimal (length texts) ++ crlf) (flat_map bulk_text texts)))

pub text-Bulks-written : (old begun out : List ℕ) (reply : Reply) (texts : List (Option (List ℕ))) (n : ℕ) → reply ≡ Bulks texts
    → n ≡ length texts → begun ≡ old ++ asterisk ∷ decimal n ++ crlf → out ≡ begun ++ flat_map bulk_text texts
    → out ≡ old ++ text (content reply)
text-Bulks-written old begun out reply texts n is counted begins goes = goes ∙ rw (begins, counted, is, text-Bulks texts) (simp append_assoc)
