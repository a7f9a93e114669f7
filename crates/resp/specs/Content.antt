-- What a reply says, apart from how it lies in memory: RESP2's kinds of reply over byte strings and numbers.
use Rattle.std.specs.Prelude.{ℕ, ℤ, List, [], ◌∷◌, ◌++◌, map, codes, Option, Some, None}
use Rattle.resp.specs.declared.reply.ErrorText.{ErrorText}
use Rattle.resp.specs.declared.reply.ErrorText.TheVariants.{Fixed, Arity}
use Rattle.resp.specs.declared.reply.Reply.{Reply}
use Rattle.resp.specs.declared.reply.Reply.TheFolds.{fold-Reply}
use Rattle.resp.specs.declared.reply.Reply.TheOpen.{Reply-F}

mutual
  -- what a reply says
  pub data Content : Type 0 where
    SimpleText : List ℕ → Content
    ErrorLine : List ℕ → Content
    Number : ℤ → Content
    BulkText : List ℕ → Content
    Nothing : Content
    Several : Contents → Content

  -- what the replies of an array say, one after another
  pub data Contents : Type 0 where
    NoMore : Contents
    Then : Content → Contents → Contents

-- the contents of an array, from their list
abbrev pub contents : List Content → Contents
contents [] = NoMore
contents (c ∷ cs) = Then c (contents cs)

-- a bulk string, or null
abbrev pub text_or_null : Option (List ℕ) → Content
text_or_null None = Nothing
text_or_null (Some bytes) = BulkText bytes

-- what an error says
abbrev pub error_text : ErrorText → List ℕ
error_text (Fixed text) = text.now
error_text (Arity name) = codes "ERR wrong number of arguments for '" ++ name.now ++ codes "' command"

-- one level of a reply, once its parts have said what they say
abbrev pub content_step : Reply-F Content → Content
content_step (Reply-F.Simple text) = SimpleText text.now
content_step (Reply-F.Error text) = ErrorLine (error_text text)
content_step (Reply-F.Int n) = Number n
content_step (Reply-F.Bulk text) = BulkText text.items
content_step Reply-F.Null = Nothing
content_step (Reply-F.Array replies) = Several (contents replies.items)
content_step (Reply-F.Bulks texts) = Several (contents (map text_or_null texts))

-- what a reply says
abbrev pub content : Reply → Content
content = fold-Reply Content content_step

-- what is said where there was no memory for a request
abbrev pub out_of_memory : Content
out_of_memory = ErrorLine (codes "ERR out of memory")
