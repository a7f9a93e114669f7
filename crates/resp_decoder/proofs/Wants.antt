-- Where memory may be wanted: what is read is never told as want of memory, and what was read stands there.
use Rattle.std.proofs.Common.{◌≡◌, ◌≢◌, ℕ, ◌<◌, ◌-◌, ◌*◌, ◌+◌, List, [], ◌∷◌, ◌++◌, Bool, true, false, cond, Option, Some, Result, Ok, Err}
use Rattle.std.proofs.Common.{zero, suc, drop, refl, sym, ap, subst, ◌∙◌, length, arith}
use Rattle.std.specs.Prelude.{unwrap_or}
use Rattle.std.specs.Result.{IsErrAnd, IsErrOf}
use Rattle.resp.specs.Ascii.{digit_zero}
use Rattle.resp_decoder.specs.declared.fault.Fault.{Fault}
use Rattle.resp_decoder.specs.declared.fault.Fault.TheVariants.{ExpectedStar, ExpectedDollar, BadLength, ExpectedCrlf, Memory}
use Rattle.resp_decoder.specs.declared.limits.Limits.{Limits}
use Rattle.resp_decoder.specs.declared.parsing.Stop.{Stop}
use Rattle.resp_decoder.specs.declared.parsing.Stop.TheVariants.{Open, Bad}
use Rattle.resp_decoder.specs.Texts.{Stream}
use Rattle.resp_decoder.specs.Parsing.{◌>>=◌, byte_at, line_at, number_on, number_at, some_at, word_at, minus_one_at, count_at, head_at}
use Rattle.resp_decoder.specs.declared.progress.Progress.{Progress}
use Rattle.resp_decoder.specs.Parts.{words_text}
use Rattle.resp_decoder.specs.Advancing.{words_of, held_bytes, StandsHead, StandsWord, WantsMemory, BeginsRequest, BeginsNone, Begins}
use Rattle.resp_decoder.specs.Advancing.{Lacks, Fills}
use Rattle.resp_decoder.proofs.Items.{word_reads}
use Rattle.resp_decoder.proofs.Resume.{head_of_some}
use Rattle.resp_decoder.proofs.Steps.{AtHead, some_count, held_is}

-- ---- no reader answers want of memory

abbrev pub Never : {A : Type 0} → Result A Stop → Type 0
Never r = r ≡ Err (Bad Memory) → ⊥

never_ok : {A : Type 0} (x : A) → Never (Ok x)
never_ok x = λ e. cc

never_open : {A : Type 0} → Never {A = A} (Err Open)
never_open = λ e. cc

never_bad : {A : Type 0} (fault : Fault) → fault ≢ Memory → Never {A = A} (Err (Bad fault))
never_bad fault other = λ e. other cc

never_if : {A : Type 0} (t : Bool) (x y : Result A Stop) → Never x → Never y → Never (cond t x y)
never_if true x y p q = p
never_if false x y p q = q

never_then : {A B : Type 0} (r : Result A Stop) (f : A → Result B Stop) → Never r → ((x : A) → Never (f x)) → Never (r >>= f)
never_then (Ok x) f p q = q x
never_then (Err stop) f p q = λ e. let same : stop ≡ Bad Memory = cc in p (ap (λ s. Err s) same)

star : ExpectedStar ≢ Memory
star = λ e. cc

dollar_sign : ExpectedDollar ≢ Memory
dollar_sign = λ e. cc

bad_length : BadLength ≢ Memory
bad_length = λ e. cc

line_end : ExpectedCrlf ≢ Memory
line_end = λ e. cc

byte_never : (byte : ℕ) (fault : Fault) (b : List ℕ) → fault ≢ Memory → Never (byte_at byte fault b)
unfolding byte_at
byte_never byte fault [] other = never_open
byte_never byte fault (b ∷ bs) other = never_if _ _ _ (never_ok _) (never_bad fault other)

line_never : (fault : Fault) (b : List ℕ) → fault ≢ Memory → Never (line_at fault b)
unfolding line_at
line_never fault b other = never_then _ _ (byte_never _ fault b other) (λ p. byte_never _ fault p.1 other)

number_on_never : (max n : ℕ) (b : List ℕ) → Never (number_on max n b)
unfolding number_on
number_on_never max n [] = never_open
number_on_never max n (b ∷ bs) =
    never_if _ _ _ (number_on_never max (n * 10 + (b - digit_zero)) bs)
    (never_then _ _ (line_never BadLength (b ∷ bs) bad_length) (λ p. never_ok _))

number_never : (max : ℕ) (b : List ℕ) → Never (number_at max b)
unfolding number_at
number_never max [] = never_open
number_never max (b ∷ bs) = never_if _ _ _ (number_on_never max _ bs) (never_bad BadLength bad_length)

some_never : (n : ℕ) (b : List ℕ) → Never (some_at n b)
unfolding some_at
some_never n b = never_if _ _ _ never_open (never_ok _)

pub word_never : (bulk : ℕ) (b : List ℕ) → Never (word_at bulk b)
unfolding word_at
word_never bulk b =
    never_then _ _ (byte_never _ ExpectedDollar b dollar_sign) (λ p. never_then _ _ (number_never bulk p.1)
    (λ n. never_then _ _ (some_never n.0 n.1) (λ word. never_then _ _ (line_never ExpectedCrlf word.1 line_end) (λ q. never_ok _))))

minus_one_never : (b : List ℕ) → Never (minus_one_at b)
unfolding minus_one_at
minus_one_never b =
    never_then _ _ (byte_never _ BadLength b bad_length) (λ p. never_then _ _ (byte_never _ BadLength p.1 bad_length)
    (λ q. line_never BadLength q.1 bad_length))

count_never : (max : ℕ) (b : List ℕ) → Never (count_at max b)
unfolding count_at
count_never max [] = never_open
count_never max (b ∷ bs) =
    never_if _ _ _ (never_then _ _ (minus_one_never (b ∷ bs)) (λ p. never_ok _))
    (never_then _ _ (number_never max (b ∷ bs)) (λ n. never_ok _))

pub head_never : (max : ℕ) (b : List ℕ) → Never (head_at max b)
unfolding head_at
head_never max b = never_then _ _ (byte_never _ ExpectedStar b star) (λ p. count_never max p.1)

-- ---- what was read stands there

pub stands_head : (limits : Limits) (unread rest more : List ℕ) (count : Option ℕ) (n : ℕ) → Stream limits unread [] rest
    → head_at limits.words rest ≡ Ok (count, more) → count ≡ Some n → 0 < n → StandsHead limits unread
stands_head limits unread rest more count n front read is some =
    let g = head_of_some limits rest more n (read ∙ ap (λ (o : Option ℕ). Ok (o, more)) is) in
    record { rest = rest; front = front; count = n; some = some; lawful = g.0; more = more; text = g.1 }

pub stands_word : (limits : Limits) (unread : List ℕ) (read : List ℕ × List ℕ) → word_at limits.bulk unread ≡ Ok read
    → StandsWord limits unread
stands_word limits unread read e =
    let g = (word_reads limits.bulk limits.short_bulk).got unread read e in
    record { word = read.0; short = g.0; more = read.1; text = g.1 }

-- ---- how reading stops

-- the bytes that follow give no count
pub stops_at_head : {X : Type 0} (limits : Limits) (buffer : List ℕ) (old now : Progress) (result : Result X Stop) (stop : Stop)
    → AtHead limits buffer old now
    → head_at limits.words (drop now.start buffer) ≡ Err stop → result ≡ Err stop → Begins limits buffer old now result
stops_at_head limits buffer old now result stop at read is =
    let none : BeginsNone limits buffer old now stop = record {
      sound = at.sound;
      idle = at.idle;
      front = at.front;
      why = λ _. read;
      wants = λ is_memory. absurd (head_never limits.words (drop now.start buffer) (read ∙ ap (λ s. Err s) is_memory));
    } in
    subst (Begins limits buffer old now) (sym is) none

-- there is no memory for the words of the count that follows
pub wants_at_head : {X : Type 0} (limits : Limits) (buffer : List ℕ) (old now : Progress) (result : Result X Stop) (count : Option ℕ)
    (n : ℕ) (more : List ℕ) → AtHead limits buffer old now
    → head_at limits.words (drop now.start buffer) ≡ Ok (count, more) → n ≡ unwrap_or count 0 → 0 < n → result ≡ Err (Bad Memory)
    → Begins limits buffer old now result
wants_at_head limits buffer old now result count n more at read n_is some is =
    let none : BeginsNone limits buffer old now (Bad Memory) = record {
      sound = at.sound;
      idle = at.idle;
      front = at.front;
      why = λ other. absurd (other refl);
      wants = λ _. stands_head limits (drop old.start buffer) (drop now.start buffer) more count n at.front read
          (some_count count n n_is some) some;
    } in
    subst (Begins limits buffer old now) (sym is) none

-- the next word is not whole, or has a fault
pub stops_at_word : {X : Type 0} (bulk : ℕ) (buffer : List ℕ) (now : Progress) (result : Result X Stop) (stop : Stop) → 0 < now.left
    → word_at bulk (drop now.start buffer) ≡ Err stop → result ≡ Err stop → Fills bulk buffer now result
stops_at_word bulk buffer now result stop lacking read is =
    let lacks : Lacks bulk buffer now stop =
    (lacking, λ _. read, λ is_memory. absurd (word_never bulk (drop now.start buffer) (read ∙ ap (λ s. Err s) is_memory))) in
    subst (Fills bulk buffer now) (sym is) lacks

-- there is no memory for the next word
pub wants_at_word : {X : Type 0} (bulk : ℕ) (buffer : List ℕ) (now : Progress) (result : Result X Stop) (read : List ℕ × List ℕ)
    → 0 < now.left
    → word_at bulk (drop now.start buffer) ≡ Ok read → result ≡ Err (Bad Memory) → Fills bulk buffer now result
wants_at_word bulk buffer now result read lacking is_read is =
    let lacks : Lacks bulk buffer now (Bad Memory) = (lacking, λ other. absurd (other refl), λ _. (read, is_read)) in
    subst (Fills bulk buffer now) (sym is) lacks

-- ---- what a call leaves, where memory was wanted

wants_left : (limits : Limits) (unread : List ℕ) (left : ℕ) (read : List ℕ × List ℕ) → 0 < left → word_at limits.bulk unread ≡ Ok read
    → WantsMemory limits unread left
wants_left limits unread zero read lacking e = absurd (omega (arith, lacking))
wants_left limits unread (suc left) read lacking e = stands_word limits unread read e

-- a word stands where the open request goes on
pub wants_more : {X : Type 0} (limits : Limits) (buffer : List ℕ) (new : Progress) (result : Result X Stop)
    → Fills limits.bulk buffer new result
    → IsErrOf result (Bad Memory) → WantsMemory limits (drop new.start buffer) new.left
wants_more limits buffer new (Ok x) filled e = absurd cc
wants_more limits buffer new (Err stop) filled e =
    let is_memory : stop ≡ Bad Memory = cc in
    wants_left limits (drop new.start buffer) new.left (filled.2 is_memory).0 filled.0 (filled.2 is_memory).1

-- a head stands where a request was begun
pub wants_begun : (limits : Limits) (buffer : List ℕ) (old mid : Progress) → BeginsRequest limits buffer old mid
    → StandsHead limits (drop old.start buffer)
wants_begun limits buffer old mid begun = record {
  rest = held_bytes mid buffer;
  front = begun.front;
  count = length (words_of mid) + mid.left;
  some = omega (arith, begun.lacking);
  lawful = begun.sound.count;
  more = words_text (words_of mid) ++ drop mid.start buffer;
  text = held_is mid buffer begun.lacking;
}

pub wants_none : {X : Type 0} (limits : Limits) (buffer : List ℕ) (old new : Progress) (result : Result X Stop)
    → IsErrAnd result (BeginsNone limits buffer old new)
    → IsErrOf result (Bad Memory) → StandsHead limits (drop old.start buffer)
wants_none limits buffer old new (Ok x) none e = absurd none
wants_none limits buffer old new (Err stop) none e = let is_memory : stop ≡ Bad Memory = cc in none.wants is_memory
