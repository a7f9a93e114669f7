-- One request at the front of a stream, and how long what is behind it can be.
use Rattle.std.proofs.Common.{◌≡◌, ◌⊎◌, inl, inr, ℕ, ◌+◌, ◌<◌, ◌≤◌, List, [], ◌∷◌, ◌++◌}
use Rattle.std.proofs.Common.{length, take, drop, Some, refl, sym, ap, ◌∙◌}
use Rattle.std.proofs.Common.{length-append, append_assoc, take-append-drop, arith}
use Rattle.std.proofs.lemmas.List.{take-append-le}
use Rattle.std.proofs.Math.Seq.{take-append_seam}
use Rattle.std.specs.List.{flat_map}
use Rattle.resp_decoder.specs.declared.limits.Limits.{Limits}
use Rattle.std.proofs.lemmas.Bool.{cases_lt}
use Rattle.resp_decoder.specs.Texts.{bytes, Item, item_marks, Stream, IsLawful, IsOpen, item_text}
use Rattle.std.specs.List.{AllByRecursion}
use Rattle.resp_decoder.specs.Parsing.{item_at}
use Rattle.resp_decoder.proofs.Formats.{no_shorter}
use Rattle.resp_decoder.proofs.Items.{item_reads}
use Rattle.resp_decoder.proofs.Streams.{stream_one, open_nothing}
use Rattle.serving.specs.declared.connection.TheConstants.{PIECE}
use Rattle.serving.specs.Serves.{IsAtMostPiece}

-- the text of a request, and a rest
pub stream_request : (limits : Limits) (words : List (List ℕ)) (rest : List ℕ)
    → 0 < length words → IsLawful limits (Some words) → Stream limits (item_text (Some words) ++ rest) (words ∷ []) rest
stream_request limits [] rest some lawful = absurd (omega arith)
stream_request limits (w ∷ ws) rest some lawful = stream_one limits (Some (w ∷ ws)) rest lawful

-- the rest is no longer than the stream
pub length-rest-le : (limits : Limits) (stream rest : List ℕ) (requests : List (List (List ℕ)))
    → Stream limits stream requests rest → length rest ≤ length stream
length-rest-le limits stream rest requests p = omega (arith, ap length p.whole, length-append (flat_map item_text p.items) rest)

-- no text ends within an open rest
text_passes : (limits : Limits) (held piece tail : List ℕ) (x : Item) → IsLawful limits x → IsOpen limits held
    → held ++ piece ≡ item_text x ++ tail → length (item_text x) ≤ length held → ⊥
text_passes limits held piece tail x lawful opened same fits =
    let k = length (item_text x) in
    let begins : take k held ≡ item_text x = sym (take-append-le k held piece fits) ∙ ap (take k) same
    ∙ take-append_seam (item_text x) tail in
    no_shorter (item_at limits) (IsLawful limits) item_marks (item_reads limits) opened.value x opened.holds lawful opened.before
    opened.next opened.after
    (drop k held) opened.text (sym opened.split ∙ sym (take-append-drop k held) ∙ ap (λ l. l ++ drop k held) begins)

items_within : (limits : Limits) (held piece rest : List ℕ) (items : List Item) → AllByRecursion (IsLawful limits) items
    → held ++ piece ≡ flat_map item_text items ++ rest → IsOpen limits held → (rest ≡ held ++ piece) ⊎ (length rest ≤ length piece)
items_within limits held piece rest [] lawful same opened = inl (sym same)
items_within limits held piece rest (x ∷ xs) lawful same opened =
    let tail = flat_map item_text xs ++ rest in
    let whole : held ++ piece ≡ item_text x ++ tail = same ∙ append_assoc (item_text x) (flat_map item_text xs) rest in
    let lengths : length held + length piece ≡ length (item_text x) + (length (flat_map item_text xs) + length rest)
    = sym (length-append held piece) ∙ ap length whole ∙ length-append (item_text x) tail
    ∙ ap (λ n. length (item_text x) + n) (length-append (flat_map item_text xs) rest) in
    elim (cases_lt (length held) (length (item_text x))) [
      | inl longer ↦ inr (omega (arith, lengths, longer))
      | inr fits ↦ absurd (text_passes limits held piece tail x lawful.0 opened whole fits)
    ]

-- Behind requests that were taken out of an open rest and a piece there is no more than the piece, or all of it where
-- none was.
pub rest_within : (limits : Limits) (held piece rest : List ℕ) (requests : List (List (List ℕ)))
    → Stream limits (held ++ piece) requests rest
    → IsOpen limits held → (rest ≡ held ++ piece) ⊎ (length rest ≤ length piece)
rest_within limits held piece rest requests p opened = items_within limits held piece rest p.items p.lawful p.whole opened

-- what is left then is an open rest and at most the piece
pub at_most_piece : (limits : Limits) (held piece rest : List ℕ) (requests : List (List (List ℕ)))
    → Stream limits (held ++ piece) requests rest
    → IsOpen limits held → length piece ≤ PIECE → IsAtMostPiece limits rest
at_most_piece limits held piece rest requests p opened short =
    elim (rest_within limits held piece rest requests p opened) [
      | inl same ↦ record { held = held; piece = piece; whole = same; held_open = opened; short = short }
      | inr fewer ↦ record { held = []; piece = rest; whole = refl; held_open = open_nothing limits; short = omega (arith, fewer, short) }
    ]

pub take_short : (n : ℕ) (bytes : List ℕ) → length (take n bytes) ≤ length bytes
take_short n bytes = omega (arith, ap length (take-append-drop n bytes), length-append (take n bytes) (drop n bytes))
