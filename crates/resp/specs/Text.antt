-- The text of a reply, as the RESP2 specification gives it: the bytes that a client reads.
use Rattle.std.specs.Prelude.{ℕ, ◌+◌, List, [], ◌∷◌, ◌++◌, length, codes}
use Rattle.std.specs.Fmt.{decimal, signed_decimal}
use Rattle.resp.specs.Ascii.{carriage_return, line_feed}
use Rattle.resp.specs.declared.reply.Reply.{Reply}
use Rattle.resp.specs.Content.{Content, SimpleText, ErrorLine, Number, BulkText, Nothing, Several, Contents, NoMore, Then, content}

-- the two bytes that end each line
abbrev pub crlf : List ℕ
crlf = carriage_return ∷ line_feed ∷ []

-- how many replies an array has
abbrev pub count_of : Contents → ℕ
count_of NoMore = 0
count_of (Then c cs) = count_of cs + 1

abbrev mutual
  -- the text of a reply that says this
  pub text : Content → List ℕ
  text (SimpleText line) = codes "+" ++ line ++ crlf
  text (ErrorLine line) = codes "-" ++ line ++ crlf
  text (Number n) = codes ":" ++ signed_decimal n ++ crlf
  text (BulkText bytes) = codes "$" ++ decimal (length bytes) ++ crlf ++ bytes ++ crlf
  text Nothing = codes "$-1" ++ crlf
  text (Several cs) = codes "*" ++ decimal (count_of cs) ++ crlf ++ contents_text cs

  -- the texts of an array's replies, one after another
  pub contents_text : Contents → List ℕ
  contents_text NoMore = []
  contents_text (Then c cs) = text c ++ contents_text cs

-- the text of a reply
abbrev pub reply_text : Reply → List ℕ
reply_text reply = text (content reply)
