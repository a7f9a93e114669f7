-- The definition of a reply's text, read against replies whose bytes are known from the RESP2 specification and from
-- Redis.
use Rattle.std.specs.Fmt.{digits}
use Rattle.std.proofs.Common.{◌≡◌, pos, negsuc, [], ◌∷◌, codes, refl, Bor, List, ℕ}
use Rattle.resp.specs.declared.reply.ErrorText.TheVariants.{Arity}
use Rattle.resp.specs.Content.{SimpleText, ErrorLine, Number, BulkText, Nothing, Several, contents, error_text}
use Rattle.resp.specs.Text.{text}

pong : text (SimpleText (codes "PONG")) ≡ codes "+PONG\r\n"
pong = refl

error : text (ErrorLine (codes "ERR syntax error")) ≡ codes "-ERR syntax error\r\n"
error = refl

one : text (Number (pos 1)) ≡ codes ":1\r\n"
unfolding digits
one = refl

minus_ten : text (Number (negsuc 9)) ≡ codes ":-10\r\n"
unfolding digits
minus_ten = refl

empty_bulk : text (BulkText []) ≡ codes "$0\r\n\r\n"
unfolding digits
empty_bulk = refl

bulk : text (BulkText (codes "hello")) ≡ codes "$5\r\nhello\r\n"
unfolding digits
bulk = refl

null : text Nothing ≡ codes "$-1\r\n"
null = refl

empty_array : text (Several (contents [])) ≡ codes "*0\r\n"
unfolding digits
empty_array = refl

nested : text (Several (contents (BulkText (codes "a") ∷ Several (contents (Nothing ∷ Number (pos 2) ∷ [])) ∷ [])))
    ≡ codes "*2\r\n$1\r\na\r\n*2\r\n$-1\r\n:2\r\n"
unfolding digits
nested = refl

arity : (name : Bor (List ℕ)) → name.now ≡ codes "get"
    → error_text (Arity name) ≡ codes "ERR wrong number of arguments for 'get' command"
arity name is = rw is refl
