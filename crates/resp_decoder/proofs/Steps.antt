-- What each step of reading on keeps.
use Rattle.std.proofs.Common.{◌≡◌, ℕ, suc, ◌+◌, ◌-◌, ◌^◌, ◌<◌, ◌≤◌, List, [], ◌∷◌, ◌++◌, length, drop, Option, Some, None, Result, Ok, Err}
use Rattle.std.proofs.Common.{refl, sym, ap, subst, ◌∙◌, append_assoc, arith}
use Rattle.std.specs.Prelude.{unwrap_or}
use Rattle.std.specs.Result.{IsErrAnd}
use Rattle.std.specs.Global.{Vec}
use Rattle.std.specs.List.{AllByRecursion}
use Rattle.std.proofs.lemmas.List.{length-append, length-drop, append-nil}
use Rattle.texts.specs.Texts.{texts_of}
use Rattle.resp_decoder.specs.declared.limits.Limits.{Limits}
use Rattle.resp_decoder.specs.declared.parsing.Stop.{Stop}
use Rattle.resp_decoder.specs.declared.parsing.Stop.TheVariants.{Open, Bad}
use Rattle.resp_decoder.specs.declared.progress.Progress.{Progress}
use Rattle.resp_decoder.specs.Texts.{item_text, IsShort, Stream, IsOpen, IsFault}
use Rattle.resp_decoder.specs.Parts.{head_text, words_text, part_text}
use Rattle.resp_decoder.specs.Parsing.{word_at, head_at}
use Rattle.resp_decoder.specs.Advancing.{named, words_of, held_bytes, IsSound, BeginsRequest, BeginsNone, Moves, Fills, Advances}
use Rattle.resp_decoder.proofs.Resume.{behind, word_moves, all_push, head_of_some, item_from_parts, item_stops, head_stops, empty_front}
use Rattle.resp_decoder.proofs.Resume.{part_is}
use Rattle.resp_decoder.proofs.Streams.{stream_none, stream_then}
use Rattle.resp_decoder.proofs.Items.{item_reads}

-- ---- a word

named_none : (name : Option (List ℕ)) (words others : List (List ℕ)) → named name words ≡ [] → named name others ≡ named name words
named_none None words others none = refl
named_none (Some first) words others none = absurd (omega (arith, ap length none))

-- where no word has come, none has with other room for those behind the name
pub still_none : (p : Progress) (words : List (Vec ℕ)) → words_of p ≡ [] → named p.name (texts_of words) ≡ words_of p
still_none p words none = named_none p.name (texts_of p.words.items) (texts_of words) none

-- a call that reads nothing on
pub moves_not : (buffer : List ℕ) (old now new : Progress) → Moves buffer old now → words_of new ≡ words_of now
    → new.start ≡ now.start → new.left ≡ now.left → Moves buffer old new
moves_not buffer old now new moved words_is start_is left_is = record {
  fits = rw start_is moved.fits;
  total = rw (words_is, left_is) moved.total;
  text = rw (words_is, start_is) moved.text;
}

pub fill_step : (bulk : ℕ) (buffer : List ℕ) (old now new : Progress) (word rest : List ℕ) → bulk < 2 ^ 32 → Moves buffer old now
    → AllByRecursion (λ w. length w ≤ bulk) (words_of now) → 0 < now.left
    → word_at bulk (drop now.start buffer) ≡ Ok (word, rest) → words_of new ≡ words_of now ++ word ∷ []
    → new.start ≡ length buffer - length rest → new.left ≡ now.left - 1
    → Moves buffer old new × AllByRecursion (λ w. length w ≤ bulk) (words_of new)
fill_step bulk buffer old now new word rest small moved short lacking read words_is start_is left_is =
    let w = word_moves bulk buffer now.start (words_of now) word rest small moved.fits read in
    let one_more : length (words_of new) ≡ length (words_of now) + 1 = ap length words_is ∙ length-append (words_of now) (word ∷ []) in (
      record {
        fits = omega (arith, start_is);
        total = omega (arith, one_more, left_is, lacking, moved.total);
        text = rw (words_is, start_is) (w.text ∙ moved.text);
      },
      rw words_is (all_push (λ w. length w ≤ bulk) (words_of now) word short w.short),
    )

pub word_fits : (bulk : ℕ) (buffer : List ℕ) (start : ℕ) (words : List (List ℕ)) (word rest : List ℕ) → bulk < 2 ^ 32
    → start ≤ length buffer → word_at bulk (drop start buffer) ≡ Ok (word, rest) → length rest ≤ length buffer
word_fits bulk buffer start words word rest small fits e = (word_moves bulk buffer start words word rest small fits e).rest_fits

-- ---- the head of a request

-- what holds before each head is read
pub record AtHead (limits : Limits) (buffer : List ℕ) (old now : Progress) : Type 0 where
  pub sound : IsSound limits now buffer
  pub idle : now.left ≡ 0
  pub front : Stream limits (drop old.start buffer) [] (drop now.start buffer)

pub at_head : (limits : Limits) (buffer : List ℕ) (old : Progress) → IsSound limits old buffer → old.left ≡ 0 → AtHead limits buffer old old
at_head limits buffer old sound idle = record { sound = sound; idle = idle; front = stream_none limits (drop old.start buffer) }

-- an item with no words is behind
pub record PassesItem (limits : Limits) (buffer : List ℕ) (old now new : Progress) (rest : List ℕ) : Type 0 where
  pub rest_fits : length rest ≤ length buffer
  pub kept : AtHead limits buffer old new
  pub closer : length buffer - new.start < length buffer - now.start

pub passes_item : (limits : Limits) (buffer : List ℕ) (old now new : Progress) (count : Option ℕ) (rest : List ℕ)
    → AtHead limits buffer old now → head_at limits.words (drop now.start buffer) ≡ Ok (count, rest) → unwrap_or count 0 ≡ 0
    → words_of new ≡ words_of now → new.start ≡ length buffer - length rest → new.left ≡ now.left
    → PassesItem limits buffer old now new rest
passes_item limits buffer old now new count rest at read empty words_is start_is left_is =
    let e = empty_front limits (drop now.start buffer) rest count empty read in
    let b = behind buffer now.start (e.first ∷ e.text) rest at.sound.fits e.whole in
    let len : length (drop now.start buffer) ≡ suc (length e.text) + length rest = ap length e.whole
    ∙ length-append (e.first ∷ e.text) rest in
    record {
      rest_fits = b.rest_fits;
      kept = record {
        sound = record {
          fits = subst (λ (k : ℕ). k ≤ length buffer) (sym start_is) b.fits;
          count = rw (words_is, left_is) at.sound.count;
          short = rw words_is at.sound.short;
          idle = λ none_left. words_is ∙ at.sound.idle at.idle;
        };
        idle = left_is ∙ at.idle;
        front = subst (λ (w : List ℕ). Stream limits (drop old.start buffer) [] w)
            (sym (ap (λ (k : ℕ). drop k buffer) start_is ∙ b.bytes_are))
            (stream_then limits (drop old.start buffer) [] [] (drop now.start buffer) rest at.front e.front);
      };
      closer = omega (arith, len, length-drop now.start buffer, b.rest_fits, start_is);
    }

-- the bytes that are held where no word has come
held_at_head : (words : List (List ℕ)) (n : ℕ) → words ≡ [] → 0 < n → part_text words n ≡ head_text n
held_at_head words n none some =
    let count : length words + n ≡ n = ap (λ (ws : List (List ℕ)). length ws + n) none ∙ omega arith in
    part_is words n some ∙ ap (λ (k : ℕ). head_text k ++ words_text words) count
    ∙ ap (λ (ws : List (List ℕ)). head_text n ++ words_text ws) none ∙ append-nil (head_text n)

pub some_count : (count : Option ℕ) (n : ℕ) → n ≡ unwrap_or count 0 → 0 < n → count ≡ Some n
some_count None n e positive = absurd (omega (arith, e, positive))
some_count (Some m) n e positive = ap (λ (k : ℕ). Some k) (sym e)

pub record PassesHead (limits : Limits) (buffer : List ℕ) (old new : Progress) (rest : List ℕ) : Type 0 where
  pub rest_fits : length rest ≤ length buffer
  pub begun : BeginsRequest limits buffer old new

pub passes_head : (limits : Limits) (buffer : List ℕ) (old now new : Progress) (count : Option ℕ) (n : ℕ) (rest : List ℕ)
    → AtHead limits buffer old now → head_at limits.words (drop now.start buffer) ≡ Ok (count, rest)
    → n ≡ unwrap_or count 0 → 0 < n → words_of new ≡ words_of now → new.start ≡ length buffer - length rest → new.left ≡ n
    → PassesHead limits buffer old new rest
passes_head limits buffer old now new count n rest at read n_is positive words_is start_is left_is =
    let g = head_of_some limits (drop now.start buffer) rest n (read
    ∙ ap (λ (o : Option ℕ). Ok (o, rest)) (some_count count n n_is positive)) in
    let b = behind buffer now.start (head_text n) rest at.sound.fits g.1 in
    let none : words_of new ≡ [] = words_is ∙ at.sound.idle at.idle in
    let held : held_bytes new buffer ≡ drop now.start buffer =
    ap (λ (k : ℕ). part_text (words_of new) k ++ drop new.start buffer) left_is
    ∙ ap (λ (t : List ℕ). t ++ drop new.start buffer) (held_at_head (words_of new) n none positive)
    ∙ ap (λ (k : ℕ). head_text n ++ drop k buffer) start_is
    ∙ ap (λ (t : List ℕ). head_text n ++ t) b.bytes_are
    ∙ sym g.1 in
    record {
      rest_fits = b.rest_fits;
      begun = record {
        sound = record {
          fits = subst (λ (k : ℕ). k ≤ length buffer) (sym start_is) b.fits;
          count = omega (arith, ap length none, left_is, g.0);
          short = subst (AllByRecursion (IsShort limits)) (sym none) tt;
          idle = λ none_left. none;
        };
        lacking = omega (arith, left_is, positive);
        front = subst (λ (w : List ℕ). Stream limits (drop old.start buffer) [] w) (sym held) at.front;
      };
    }

-- ---- a request

-- the bytes that are held, where no request is under way and where one is
pub held_idle : (p : Progress) (buffer : List ℕ) → p.left ≡ 0 → held_bytes p buffer ≡ drop p.start buffer
held_idle p buffer idle = ap (λ (k : ℕ). part_text (words_of p) k ++ drop p.start buffer) idle

pub held_is : (p : Progress) (buffer : List ℕ) → 0 < p.left → held_bytes p buffer ≡ head_text (length (words_of p) + p.left)
    ++ (words_text (words_of p) ++ drop p.start buffer)
held_is p buffer lacking =
    ap (λ (t : List ℕ). t ++ drop p.start buffer) (part_is (words_of p) p.left lacking)
    ∙ append_assoc (head_text (length (words_of p) + p.left)) (words_text (words_of p)) (drop p.start buffer)

-- words that were read change nothing that is held
held_moves : (buffer : List ℕ) (old new : Progress) → 0 < old.left → Moves buffer old new
    → held_bytes old buffer ≡ head_text (length (words_of new) + new.left) ++ (words_text (words_of new) ++ drop new.start buffer)
held_moves buffer old new lacking moved =
    held_is old buffer lacking
    ∙ ap (λ (k : ℕ). head_text k ++ (words_text (words_of old) ++ drop old.start buffer)) (sym moved.total)
    ∙ ap (λ (t : List ℕ). head_text (length (words_of new) + new.left) ++ t) (sym moved.text)

pub held_same : (buffer : List ℕ) (old new : Progress) → 0 < old.left → 0 < new.left → Moves buffer old new
    → held_bytes new buffer ≡ held_bytes old buffer
held_same buffer old new lacking still moved = held_is new buffer still ∙ sym (held_moves buffer old new lacking moved)

pub sound_moves : (limits : Limits) (buffer : List ℕ) (old new : Progress) → IsSound limits old buffer → 0 < new.left → Moves buffer old new
    → AllByRecursion (IsShort limits) (words_of new) → IsSound limits new buffer
sound_moves limits buffer old new sound still moved short = record {
  fits = moved.fits;
  count = omega (arith, moved.total, sound.count);
  short = short;
  idle = λ none_left. absurd (omega (arith, none_left, still));
}

-- the words that are lacking are read, behind empty requests
pub fills_advances : {X : Type 0} (limits : Limits) (buffer : List ℕ) (old mid new : Progress) (result : Result X Stop)
    → Stream limits (held_bytes old buffer) [] (held_bytes mid buffer) → IsSound limits mid buffer → 0 < mid.left
    → Moves buffer mid new → AllByRecursion (IsShort limits) (words_of new) → Fills limits.bulk buffer new result
    → Advances limits buffer old new result
fills_advances limits buffer old mid new (Ok x) front sound lacking moved short filled =
    let whole : length (words_of new) + new.left ≡ length (words_of new) = omega (arith, filled) in
    let text : held_bytes mid buffer ≡ item_text (Some (words_of new)) ++ drop new.start buffer =
    held_moves buffer mid new lacking moved
    ∙ ap (λ (k : ℕ). head_text k ++ (words_text (words_of new) ++ drop new.start buffer)) whole
    ∙ sym (append_assoc (head_text (length (words_of new))) (words_text (words_of new)) (drop new.start buffer))
    ∙ ap (λ (t : List ℕ). t ++ drop new.start buffer) (sym (item_from_parts (words_of new))) in
    record {
      fits = moved.fits;
      done = filled;
      has_name = omega (arith, moved.total, whole, lacking);
      lawful = (omega (arith, moved.total, whole, sound.count), short);
      front = subst (λ (w : List ℕ). Stream limits (held_bytes old buffer) [] w) text front;
    }
fills_advances limits buffer old mid new (Err Open) front sound lacking moved short filled =
    let stops = item_stops limits (length (words_of new) + new.left) new.left (words_of new) (drop new.start buffer) Open refl
    (omega (arith, moved.total, sound.count)) filled.0 short (filled.1 (λ e. cc)) in
    record {
      sound = sound_moves limits buffer mid new sound filled.0 moved short;
      front = subst (λ (w : List ℕ). Stream limits (held_bytes old buffer) [] w)
          (sym (held_same buffer mid new lacking filled.0 moved)) front;
      rest_open = subst (IsOpen limits) (sym (held_is new buffer filled.0))
          ((item_reads limits).part (head_text (length (words_of new) + new.left) ++ (words_text (words_of new) ++ drop new.start buffer))
          stops);
    }
fills_advances limits buffer old mid new (Err (Bad fault)) front sound lacking moved short filled =
    λ no_memory.
    let stops = item_stops limits (length (words_of new) + new.left) new.left (words_of new) (drop new.start buffer) (Bad fault) refl
    (omega (arith, moved.total, sound.count)) filled.0 short (filled.1 (λ e. no_memory cc)) in (
      held_bytes mid buffer,
      front,
      subst (λ (w : List ℕ). IsFault limits w fault) (sym (held_moves buffer mid new lacking moved))
          ((item_reads limits).bad (head_text (length (words_of new) + new.left) ++ (words_text (words_of new) ++ drop new.start buffer))
          fault stops),
    )

-- no request begins behind empty requests
pub none_advances : {X : Type 0} (limits : Limits) (buffer : List ℕ) (old new : Progress) (result : Result X Stop) → old.left ≡ 0
    → IsErrAnd result (BeginsNone limits buffer old new) → Advances limits buffer old new result
none_advances limits buffer old new (Ok x) idle none = absurd none
none_advances limits buffer old new (Err Open) idle none =
    record {
      sound = none.sound;
      front = rw (held_idle old buffer idle, held_idle new buffer none.idle) none.front;
      rest_open = subst (IsOpen limits) (sym (held_idle new buffer none.idle))
          ((item_reads limits).part (drop new.start buffer) (head_stops limits (drop new.start buffer) Open (none.why (λ e. cc))));
    }
none_advances limits buffer old new (Err (Bad fault)) idle none =
    λ no_memory. (
      drop new.start buffer,
      subst (λ (w : List ℕ). Stream limits w [] (drop new.start buffer)) (sym (held_idle old buffer idle)) none.front,
      (item_reads limits).bad (drop new.start buffer) fault
          (head_stops limits (drop new.start buffer) (Bad fault) (none.why (λ e. no_memory cc))),
    )

-- the same, with a request that begins
pub begins_stream : (limits : Limits) (buffer : List ℕ) (old new : Progress) → old.left ≡ 0 → BeginsRequest limits buffer old new
    → Stream limits (held_bytes old buffer) [] (held_bytes new buffer)
begins_stream limits buffer old new idle begun =
    subst (λ (w : List ℕ). Stream limits w [] (held_bytes new buffer)) (sym (held_idle old buffer idle)) begun.front
