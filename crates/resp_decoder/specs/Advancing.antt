-- How far the held bytes are read, and what reading on does.
use Rattle.std.specs.Prelude.{◌≡◌, ◌≢◌, ℕ, zero, suc, vec_capacity, ◌+◌, ◌<◌, ◌≤◌, List, [], ◌∷◌, ◌++◌, length, drop}
use Rattle.std.specs.Prelude.{Result, Ok, Err, Option, None, Some}
use Rattle.std.specs.List.{AllByRecursion}
use Rattle.texts.specs.Texts.{texts_of}
use Rattle.resp_decoder.specs.declared.fault.Fault.{Fault}
use Rattle.resp_decoder.specs.declared.fault.Fault.TheVariants.{Memory}
use Rattle.resp_decoder.specs.declared.limits.Limits.{Limits}
use Rattle.resp_decoder.specs.declared.parsing.Stop.{Stop}
use Rattle.resp_decoder.specs.declared.parsing.Stop.TheVariants.{Open, Bad}
use Rattle.resp_decoder.specs.declared.progress.Progress.{Progress}
use Rattle.resp_decoder.specs.declared.progress.TheConstants.{FIRST_WORDS}
use Rattle.resp_decoder.specs.Texts.{bytes, word_marks, item_text, IsShort, IsLawful, Stream, IsOpen, IsFault}
use Rattle.resp_decoder.specs.Parts.{head_text, words_text, part_text}
use Rattle.resp_decoder.specs.Parsing.{head_at, word_at}

-- the name, and the words behind it; none before the name has come
abbrev pub named : Option (List ℕ) → List (List ℕ) → List (List ℕ)
named None words = []
named (Some name) words = name ∷ words

-- the words that have come of the open request
abbrev pub words_of : Progress → List (List ℕ)
words_of p = named p.name (texts_of p.words.items)

-- the bytes that are held: those of the open request, and those of the buffer that are not read
abbrev pub held_bytes : Progress → List ℕ → List ℕ
held_bytes p buffer = part_text (words_of p) p.left ++ drop p.start buffer

-- what is true between two calls
pub record IsSound (limits : Limits) (p : Progress) (buffer : List ℕ) : Type 0 where
  pub fits : p.start ≤ length buffer
  pub count : length (words_of p) + p.left ≤ limits.words
  pub short : AllByRecursion (IsShort limits) (words_of p)
  pub idle : p.left ≡ 0 → words_of p ≡ []

-- for how many words of the open request there is room, its name included
abbrev pub room_of : Progress → ℕ
room_of p = vec_capacity p.words + 1

-- a count alone takes little room: no more than that for its first words is taken before one of them has come
abbrev pub TakesLittle : Progress → Type 0
TakesLittle p = words_of p ≡ [] → (p.words.items ≡ []) × (room_of p ≤ FIRST_WORDS)

-- ---- where memory may be wanted

-- empty requests, and then the head of a request that has words
pub record StandsHead (limits : Limits) (unread : List ℕ) : Type 0 where
  pub rest : List ℕ
  pub front : Stream limits unread [] rest
  pub count : ℕ
  pub some : 0 < count
  pub lawful : count ≤ limits.words
  pub more : List ℕ
  pub text : rest ≡ head_text count ++ more

-- a whole word
pub record StandsWord (limits : Limits) (unread : List ℕ) : Type 0 where
  pub word : List ℕ
  pub short : IsShort limits word
  pub more : List ℕ
  pub text : unread ≡ bytes (word_marks word) ++ more

-- a whole head stands at the place of reading, or, where the open request lacks words, a whole word
abbrev pub WantsMemory : Limits → List ℕ → ℕ → Type 0
WantsMemory limits unread zero = StandsHead limits unread
WantsMemory limits unread (suc left) = StandsWord limits unread

-- ---- the head of a request

-- Empty requests were dropped, and then a count that is not 0 was read.
pub record BeginsRequest (limits : Limits) (buffer : List ℕ) (old new : Progress) : Type 0 where
  pub sound : IsSound limits new buffer
  pub lacking : 0 < new.left
  pub front : Stream limits (drop old.start buffer) [] (held_bytes new buffer)

-- Empty requests were dropped, and what follows gives no count; or there was no memory.
pub record BeginsNone (limits : Limits) (buffer : List ℕ) (old new : Progress) (stop : Stop) : Type 0 where
  pub sound : IsSound limits new buffer
  pub idle : new.left ≡ 0
  pub front : Stream limits (drop old.start buffer) [] (drop new.start buffer)
  pub why : stop ≢ Bad Memory → head_at limits.words (drop new.start buffer) ≡ Err stop
  pub wants : stop ≡ Bad Memory → StandsHead limits (drop old.start buffer)

abbrev pub Begins : {X : Type 0} → Limits → List ℕ → Progress → Progress → Result X Stop → Type 0
Begins limits buffer old new (Ok x) = BeginsRequest limits buffer old new
Begins limits buffer old new (Err stop) = BeginsNone limits buffer old new stop

-- ---- the words of a request

-- words were read, and their text is as it was
pub record Moves (buffer : List ℕ) (old new : Progress) : Type 0 where
  pub fits : new.start ≤ length buffer
  pub total : length (words_of new) + new.left ≡ length (words_of old) + old.left
  pub text : words_text (words_of new) ++ drop new.start buffer ≡ words_text (words_of old) ++ drop old.start buffer

-- why no more words were read
abbrev pub Lacks : ℕ → List ℕ → Progress → Stop → Type 0
Lacks bulk buffer new stop =
    (0 < new.left) × (stop ≢ Bad Memory → word_at bulk (drop new.start buffer) ≡ Err stop)
    × (stop ≡ Bad Memory → (read : List ℕ × List ℕ) × (word_at bulk (drop new.start buffer) ≡ Ok read))

abbrev pub Fills : {X : Type 0} → ℕ → List ℕ → Progress → Result X Stop → Type 0
Fills bulk buffer new (Ok x) = new.left ≡ 0
Fills bulk buffer new (Err stop) = Lacks bulk buffer new stop

-- ---- a request

-- Empty requests were dropped, and then all words of a request were read.
pub record Completes (limits : Limits) (buffer : List ℕ) (old new : Progress) : Type 0 where
  pub fits : new.start ≤ length buffer
  pub done : new.left ≡ 0
  pub has_name : 0 < length (words_of new)
  pub lawful : IsLawful limits (Some (words_of new))
  pub front : Stream limits (held_bytes old buffer) [] (item_text (Some (words_of new)) ++ drop new.start buffer)

-- Empty requests were dropped, and an open rest is held.
pub record StaysOpen (limits : Limits) (buffer : List ℕ) (old new : Progress) : Type 0 where
  pub sound : IsSound limits new buffer
  pub front : Stream limits (held_bytes old buffer) [] (held_bytes new buffer)
  pub rest_open : IsOpen limits (held_bytes new buffer)

-- Empty requests are followed by a fault.
abbrev pub HasFault : Limits → List ℕ → Fault → Type 0
HasFault limits bytes fault = (rest : List ℕ) × Stream limits bytes [] rest × IsFault limits rest fault

abbrev pub Advances : {X : Type 0} → Limits → List ℕ → Progress → Progress → Result X Stop → Type 0
Advances limits buffer old new (Ok x) = Completes limits buffer old new
Advances limits buffer old new (Err Open) = StaysOpen limits buffer old new
Advances limits buffer old new (Err (Bad fault)) = fault ≢ Memory → HasFault limits (held_bytes old buffer) fault
