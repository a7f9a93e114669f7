-- The text of an array of replies, once the texts of the replies stand behind its line.
use Rattle.std.specs.Global.{Vec}
use Rattle.std.specs.Fmt.{decimal}
use Rattle.std.proofs.Common.{◌≡◌, ℕ, List, [], ◌∷◌, ◌++◌, length, ap, sym, ◌∙◌}
use Rattle.std.proofs.lemmas.List.{flat_map_more}
use Rattle.std.specs.List.{flat_map}
use Rattle.resp.proofs.Texts.{text-Array}
use Rattle.resp.specs.Ascii.{asterisk}
use Rattle.resp.specs.Text.{crlf, reply_text}
use Rattle.resp.specs.declared.reply.Reply.{Reply}
use Rattle.resp.specs.declared.reply.Reply.TheVariants.{Array}

-- one text more
pub texts-push : (start old new : List ℕ) (done after : List Reply) (reply : Reply) → old ≡ start ++ flat_map reply_text done
    → new ≡ old ++ reply_text reply → after ≡ done ++ reply ∷ [] → new ≡ start ++ flat_map reply_text after
texts-push start old new done after reply before here pushed =
    here ∙ ap (λ l. l ++ reply_text reply) before ∙ flat_map_more reply_text start done reply
    ∙ ap (λ l. start ++ flat_map reply_text l) (sym pushed)

module _ (begun out : List ℕ) (count : ℕ) (replies : Vec Reply) (begins : begun ≡ asterisk ∷ decimal count ++ crlf)
    (goes : out ≡ begun ++ flat_map reply_text replies.items) where
  pub texts-array : count ≡ length replies.items → out ≡ reply_text (Array replies)
  texts-array counted =
      goes ∙ ap (λ l. l ++ flat_map reply_text replies.items) begins
      ∙ ap (λ n. asterisk ∷ decimal n ++ crlf ++ flat_map reply_text replies.items) counted ∙ sym (text-Array replies)

  pub texts-some : out ≡ [] → ⊥
  texts-some none =
      let all : out ≡ asterisk ∷ (decimal count ++ crlf) ++ flat_map reply_text replies.items
      = goes ∙ ap (λ l. l ++ flat_map reply_text replies.items) begins in
      cc
