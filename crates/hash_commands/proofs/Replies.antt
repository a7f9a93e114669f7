-- Texts put one behind another, for the pairs of a hash in order.
use Rattle.std.proofs.Common.{◌≡◌, ℕ, ◌+◌, List, [], ◌∷◌, ◌++◌, map, take, Option, Some, refl, sym, ap, ◌∙◌, append_assoc}
use Rattle.std.proofs.lemmas.List.{map-append}
use Rattle.std.specs.List.{slice_get}
use Rattle.hash_commands.specs.HashCommand.{HashPairs, bulk_texts, hget_answer, hmget_answer}
use Rattle.resp.proofs.Contents.{content-Bulks, content-texts}
use Rattle.resp.specs.Content.{Several, text_or_null, content, contents}
use Rattle.resp.specs.declared.reply.Reply.TheVariants.{Bulks}
use Rattle.texts.proofs.Lists.{take_next}
use Rattle.texts.specs.Texts.{Bytes, by_turns}
use Rattle.values.specs.HashValue.{field_value}

-- one text more, for one item
pub text_more : {A : Type 0} (text : A → Bytes) {texts more : List (Option Bytes)} (xs : List A) (i : ℕ) (x : A) → Some x ≡ slice_get xs i
    → texts ≡ map (λ y. Some (text y)) (take i xs) → more ≡ texts ++ Some (text x) ∷ [] → more ≡ map (λ y. Some (text y)) (take (i + 1) xs)
text_more text xs i x at before pushed =
    pushed ∙ ap (λ l. l ++ Some (text x) ∷ []) before ∙ sym (map-append (λ y. Some (text y)) (take i xs) (x ∷ []))
    ∙ ap (map (λ y. Some (text y))) (sym (take_next xs i x (sym at)))

by_turns-append : (pairs : List (Bytes × Bytes)) (pair : Bytes × Bytes)
    → by_turns (pairs ++ pair ∷ []) ≡ by_turns pairs ++ pair.0 ∷ pair.1 ∷ []
by_turns-append [] pair = refl
by_turns-append (p ∷ ps) pair = ap (λ l. p.0 ∷ p.1 ∷ l) (by_turns-append ps pair)

-- two texts more, for one pair
pub texts_more : {texts more all : List (Option Bytes)} (xs : List (Bytes × Bytes)) (i : ℕ) (x : Bytes × Bytes) → Some x ≡ slice_get xs i
    → texts ≡ map Some (by_turns (take i xs)) → more ≡ texts ++ Some x.0 ∷ [] → all ≡ more ++ Some x.1 ∷ []
    → all ≡ map Some (by_turns (take (i + 1) xs))
texts_more {texts = texts} xs i x at before pushed then_pushed =
    then_pushed ∙ ap (λ l. l ++ Some x.1 ∷ []) pushed ∙ append_assoc texts (Some x.0 ∷ []) (Some x.1 ∷ [])
    ∙ ap (λ l. l ++ Some x.0 ∷ Some x.1 ∷ []) before ∙ sym (map-append Some (by_turns (take i xs)) (x.0 ∷ x.1 ∷ []))
    ∙ ap (map Some) (sym (by_turns-append (take i xs) x) ∙ ap by_turns (sym (take_next xs i x (sym at))))

map-texts : {A : Type 0} (text : A → Bytes) (xs : List A) → map (λ x. Some (text x)) xs ≡ map Some (map text xs)
map-texts text [] = refl
map-texts text (x ∷ xs) = ap (λ l. Some (text x) ∷ l) (map-texts text xs)

-- one text for each
pub content-map : {A : Type 0} (text : A → Bytes) (xs : List A) → content (Bulks (map (λ x. Some (text x)) xs)) ≡ bulk_texts (map text xs)
content-map text xs = ap (λ ts. content (Bulks ts)) (map-texts text xs) ∙ content-texts (map text xs)

map-values : (pairs : HashPairs) (fields : List Bytes)
    → map text_or_null (map (λ field. field_value pairs field) fields) ≡ map (λ field. hget_answer field pairs) fields
map-values pairs [] = refl
map-values pairs (f ∷ fs) = ap (λ l. text_or_null (field_value pairs f) ∷ l) (map-values pairs fs)

-- the value of each field, or null
pub content-values : (pairs : HashPairs) (fields : List Bytes)
    → content (Bulks (map (λ field. field_value pairs field) fields)) ≡ hmget_answer fields pairs
content-values pairs fields =
    content-Bulks (map (λ field. field_value pairs field) fields) ∙ ap (λ l. Several (contents l)) (map-values pairs fields)
