-- Going on with a request of which some words have come, as if it were read anew.
use Rattle.std.proofs.Common.{◌≡◌, ℕ, zero, suc, ◌+◌, ◌-◌, ◌^◌, ◌<◌, ◌≤◌, List, [], ◌∷◌, ◌++◌, length}
use Rattle.std.proofs.Common.{take, drop, Option, Some, None}
use Rattle.std.proofs.Common.{Result, Ok, Err, refl, sym, ap, subst, ◌∙◌, append_assoc, arith}
use Rattle.std.specs.Prelude.{unwrap_or}
use Rattle.std.specs.List.{flat_map, AllByRecursion}
use Rattle.std.proofs.lemmas.List.{append-nil, length-append, drop_at, take-append-drop}
use Rattle.std.proofs.lemmas.List.Concat.{flat_map-append}
use Rattle.resp.specs.Text.{crlf}
use Rattle.resp_decoder.specs.declared.fault.Fault.TheVariants.{ExpectedStar, BadLength}
use Rattle.resp_decoder.specs.declared.limits.Limits.{Limits}
use Rattle.resp_decoder.specs.declared.parsing.Stop.{Stop}
use Rattle.resp_decoder.specs.Texts.{Marked, bytes, mark, number_marks, word_marks, item_text, IsShort, Stream}
use Rattle.resp_decoder.specs.Parts.{head_text, words_text, part_text}
use Rattle.resp_decoder.specs.Parsing.{word_at, words_at, head_at, body_at, item_at}
use Rattle.resp_decoder.proofs.Formats.{mapped, bytes-append}
use Rattle.resp_decoder.proofs.Streams.{stream_one}
use Rattle.resp_decoder.proofs.Items.{words_marks, word_reads, head_reads}

-- ---- places in a buffer

-- the bytes behind what was read are the last of the buffer
pub record Behind (buffer rest : List ℕ) (place : ℕ) : Type 0 where
  pub rest_fits : length rest ≤ length buffer
  pub fits : place ≤ length buffer
  pub bytes_are : drop place buffer ≡ rest

pub behind : (buffer : List ℕ) (start : ℕ) (front rest : List ℕ) → start ≤ length buffer → drop start buffer ≡ front ++ rest
    → Behind buffer rest (length buffer - length rest)
behind buffer start front rest fits e =
    let whole : buffer ≡ (take start buffer ++ front) ++ rest = sym (take-append-drop start buffer)
    ∙ ap (λ (t : List ℕ). take start buffer ++ t) e ∙ sym (append_assoc (take start buffer) front rest) in
    let len : length buffer ≡ length (take start buffer ++ front) + length rest = ap length whole
    ∙ length-append (take start buffer ++ front) rest in
    record {
      rest_fits = omega (arith, len);
      fits = omega arith;
      bytes_are = ap (λ (t : List ℕ). drop (length buffer - length rest) t) whole
          ∙ drop_at (take start buffer ++ front) rest (length buffer - length rest) (omega (arith, len));
    }

-- ---- one more word

words_text-push : (words : List (List ℕ)) (word : List ℕ) → words_text (words ++ word ∷ []) ≡ words_text words ++ bytes (word_marks word)
words_text-push words word =
    ap bytes (flat_map-append word_marks words (word ∷ [])
    ∙ ap (λ (t : Marked). flat_map word_marks words ++ t) (append-nil (word_marks word)))
    ∙ bytes-append (flat_map word_marks words) (word_marks word)

pub all_push : {X : Type 0} (P : X → Type 0) (xs : List X) (x : X) → AllByRecursion P xs → P x → AllByRecursion P (xs ++ x ∷ [])
all_push P [] x h p = (p, tt)
all_push P (y ∷ xs) x h p = (h.0, all_push P xs x h.1 p)

pub record WordMoves (bulk : ℕ) (buffer : List ℕ) (start : ℕ) (words : List (List ℕ)) (word rest : List ℕ) : Type 0 where
  pub rest_fits : length rest ≤ length buffer
  pub short : length word ≤ bulk
  pub text : words_text (words ++ word ∷ []) ++ drop (length buffer - length rest) buffer ≡ words_text words ++ drop start buffer

pub word_moves : (bulk : ℕ) (buffer : List ℕ) (start : ℕ) (words : List (List ℕ)) (word rest : List ℕ) → bulk < 2 ^ 32
    → start ≤ length buffer → word_at bulk (drop start buffer) ≡ Ok (word, rest)
    → WordMoves bulk buffer start words word rest
word_moves bulk buffer start words word rest small fits e =
    let g = (word_reads bulk small).got (drop start buffer) (word, rest) e in
    let b = behind buffer start (bytes (word_marks word)) rest fits g.1 in
    record {
      short = g.0;
      rest_fits = b.rest_fits;
      text = ap (λ (t : List ℕ). words_text (words ++ word ∷ []) ++ t) b.bytes_are
          ∙ ap (λ (t : List ℕ). t ++ rest) (words_text-push words word) ∙ append_assoc (words_text words) (bytes (word_marks word)) rest
          ∙ ap (λ (t : List ℕ). words_text words ++ t) (sym g.1);
    }

-- ---- the items that are no request

pub head_of_none : (limits : Limits) (b rest : List ℕ) → head_at limits.words b ≡ Ok (None, rest) → b ≡ item_text None ++ rest
head_of_none limits b rest e = ((head_reads limits.words limits.few_words).got b (None, rest) e).1

pub head_of_some : (limits : Limits) (b rest : List ℕ) (n : ℕ) → head_at limits.words b ≡ Ok (Some n, rest) → (n ≤ limits.words)
    × (b ≡ head_text n ++ rest)
head_of_some limits b rest n e = (head_reads limits.words limits.few_words).got b (Some n, rest) e

empty_item : item_text (Some []) ≡ head_text 0
empty_item = ap bytes (ap (λ (t : Marked). (42, ExpectedStar) ∷ t) (append-nil (number_marks 0)))

pub item_from_parts : (words : List (List ℕ)) → item_text (Some words) ≡ head_text (length words) ++ words_text words
item_from_parts words = bytes-append ((42, ExpectedStar) ∷ number_marks (length words)) (words_marks words)

-- ---- the rest of a request

-- what is still read, behind the words that have come
mapped_mapped : {A B C : Type 0} (f : B → C) (g : A → B) (q : Result (A × List ℕ) Stop) → mapped f (mapped g q) ≡ mapped (λ a. f (g a)) q
mapped_mapped f g (Ok x) = refl
mapped_mapped f g (Err e) = refl

stop_mapped : {A B : Type 0} (f : A → B) (stop : Stop) (q : Result (A × List ℕ) Stop) → q ≡ Err stop → mapped f q ≡ Err stop
stop_mapped f stop q e = ap (mapped f) e

words_stop : (bulk n left : ℕ) (words : List (List ℕ)) (rest : List ℕ) (stop : Stop) → bulk < 2 ^ 32 → length words + left ≡ n → 0 < left
    → AllByRecursion (λ w. length w ≤ bulk) words → word_at bulk rest ≡ Err stop
    → words_at bulk n (words_text words ++ rest) ≡ Err stop
unfolding words_at
words_stop bulk zero left words rest stop small total lacking short e = absurd (omega (arith, total, lacking))
words_stop bulk (suc n) left [] rest stop small total lacking short e = rw e refl
words_stop bulk (suc n) left (word ∷ words) rest stop small total lacking short e =
    let cut : words_text (word ∷ words) ++ rest ≡ bytes (word_marks word) ++ (words_text words ++ rest) =
    ap (λ (t : List ℕ). t ++ rest) (bytes-append (word_marks word) (words_marks words))
    ∙ append_assoc (bytes (word_marks word)) (words_text words) rest in
    let first = (word_reads bulk small).again word short.0 (words_text words ++ rest) in
    let others = words_stop bulk n left words rest stop small (omega (arith, total)) lacking short.1 e in
    ap (words_at bulk (suc n)) cut ∙ rw (first, others) refl

-- a request that some words have come of stops where its next word does
pub item_stops : (limits : Limits) (n left : ℕ) (words : List (List ℕ)) (rest : List ℕ) (stop : Stop) → length words + left ≡ n
    → n ≤ limits.words → 0 < left → AllByRecursion (IsShort limits) words → word_at limits.bulk rest ≡ Err stop
    → item_at limits (head_text n ++ (words_text words ++ rest)) ≡ Err stop
unfolding item_at body_at
item_stops limits n left words rest stop total within lacking short e =
    let head = (head_reads limits.words limits.few_words).again (Some n) within (words_text words ++ rest) in
    let body = words_stop limits.bulk n left words rest stop limits.short_bulk total lacking short e in
    rw (head, body) refl

-- an item stops where its head does
pub head_stops : (limits : Limits) (rest : List ℕ) (stop : Stop) → head_at limits.words rest ≡ Err stop → item_at limits rest ≡ Err stop
unfolding item_at
head_stops limits rest stop e = rw e refl

-- an item that is no request, and the rest behind it
pub record IsEmptyFront (limits : Limits) (b rest : List ℕ) : Type 0 where
  pub front : Stream limits b [] rest
  pub text : List ℕ
  pub first : ℕ
  pub whole : b ≡ (first ∷ text) ++ rest

pub empty_front : (limits : Limits) (b rest : List ℕ) (count : Option ℕ) → unwrap_or count 0 ≡ 0 → head_at limits.words b ≡ Ok (count, rest)
    → IsEmptyFront limits b rest
empty_front limits b rest None zero_is e =
    let whole = head_of_none limits b rest e in
    record {
      front = subst (λ (w : List ℕ). Stream limits w [] rest) (sym whole) (stream_one limits None rest tt);
      text = bytes (mark BadLength (45 ∷ 49 ∷ crlf));
      first = 42;
      whole = whole;
    }
empty_front limits b rest (Some n) zero_is e =
    let g = head_of_some limits b rest n e in
    let whole : b ≡ head_text 0 ++ rest = g.1 ∙ ap (λ (k : ℕ). head_text k ++ rest) zero_is in
    record {
      front = subst (λ (w : List ℕ). Stream limits w [] rest) (ap (λ (t : List ℕ). t ++ rest) empty_item
          ∙ sym whole) (stream_one limits (Some []) rest (omega arith, tt));
      text = bytes (number_marks 0);
      first = 42;
      whole = whole;
    }

pub part_is : (words : List (List ℕ)) (left : ℕ) → 0 < left → part_text words left ≡ head_text (length words + left) ++ words_text words
part_is words zero lacking = absurd (omega arith)
part_is words (suc left) lacking = refl
