-- What each kind of reply says, as equations by which a body's clause on `content` is proved.
use Rattle.std.specs.Global.{Vec}
use Rattle.std.proofs.Common.{◌≡◌, ℕ, ℤ, List, [], ◌∷◌, map, Option, Some, refl, ap, sym, ◌∙◌, Bor}
use Rattle.resp.specs.declared.reply.ErrorText.{ErrorText}
use Rattle.resp.specs.declared.reply.Reply.{Reply}
use Rattle.resp.specs.declared.reply.Reply.TheVariants.{Simple, Error, Int, Bulk, Null, Array, rolls-Simple, rolls-Error, rolls-Int}
use Rattle.resp.specs.declared.reply.Reply.TheVariants.{rolls-Bulk, rolls-Null, rolls-Array, Bulks, rolls-Bulks}
use Rattle.resp.specs.declared.reply.Reply.TheFolds.{fold-roll-Reply}
use Rattle.resp.specs.Content.{SimpleText, ErrorLine, Number, BulkText, Nothing, Several, text_or_null, content, contents, error_text}

pub content-Simple : (text : Bor (List ℕ)) → content (Simple text) ≡ SimpleText text.now
content-Simple text = ap content (sym (rolls-Simple text)) ∙ fold-roll-Reply _ _ _

pub content-Error : (text : ErrorText) → content (Error text) ≡ ErrorLine (error_text text)
content-Error text = ap content (sym (rolls-Error text)) ∙ fold-roll-Reply _ _ _

pub content-Int : (n : ℤ) → content (Int n) ≡ Number n
content-Int n = ap content (sym (rolls-Int n)) ∙ fold-roll-Reply _ _ _

pub content-Bulk : (text : Vec ℕ) → content (Bulk text) ≡ BulkText text.items
content-Bulk text = ap content (sym (rolls-Bulk text)) ∙ fold-roll-Reply _ _ _

pub content-Null : content Null ≡ Nothing
content-Null = ap content (sym rolls-Null) ∙ fold-roll-Reply _ _ _

pub content-Array : (replies : Vec Reply) → content (Array replies) ≡ Several (contents (map content replies.items))
content-Array replies = ap content (sym (rolls-Array replies)) ∙ fold-roll-Reply _ _ _

pub content-Bulks : (texts : List (Option (List ℕ))) → content (Bulks texts) ≡ Several (contents (map text_or_null texts))
content-Bulks texts = ap content (sym (rolls-Bulks texts)) ∙ fold-roll-Reply _ _ _

map-Some : (texts : List (List ℕ)) → map text_or_null (map Some texts) ≡ map BulkText texts
map-Some [] = refl
map-Some (t ∷ ts) = ap (λ l. BulkText t ∷ l) (map-Some ts)

-- where there is no null among them
pub content-texts : (texts : List (List ℕ)) → content (Bulks (map Some texts)) ≡ Several (contents (map BulkText texts))
content-texts texts = content-Bulks (map Some texts) ∙ ap (λ l. Several (contents l)) (map-Some texts)

pub ruleset content_of = (content-Simple, content-Error, content-Int, content-Bulk, content-Null, content-Array, content-Bulks)
