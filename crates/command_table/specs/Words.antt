-- The words of a request.
use Rattle.std.specs.Prelude.{ℕ, ℤ, Bool, false, nat_eq, List, [], map, slice_get, slice_index_or, Option, Some, None, Result, Ok, Err}
use Rattle.std.specs.Char.{to_ascii_lowercase}
use Rattle.std.specs.List.{list_any}
use Rattle.std.specs.Str.{bytes_eq}
use Rattle.command_table.specs.declared.refusal.Refusal.{Refusal}
use Rattle.command_table.specs.declared.refusal.Refusal.TheVariants.{NotInteger}
use Rattle.integers.specs.Integer.{integer_of}
use Rattle.texts.specs.Texts.{Bytes}
pub use Rattle.texts.specs.Texts.{texts_of, pairs_of}

-- a word: any bytes
abbrev pub Word : Type 0
Word = Bytes

-- the word in lower case: ASCII letters alone have a case
abbrev pub lower : Word → Word
lower w = map to_ascii_lowercase w

-- the word is this text, which is in lower case, without regard to case
abbrev pub is_word : Word → Word → Bool
is_word text w = bytes_eq (lower w) text

-- this letter, where there is one, is one of these
abbrev pub is_one_of : List ℕ → Option ℕ → Bool
is_one_of letters None = false
is_one_of letters (Some found) = list_any (λ letter. nat_eq letter found) letters

-- the word has one of these letters at this place
abbrev pub has_letter : ℕ → List ℕ → Word → Bool
has_letter place letters word = is_one_of letters (slice_get word place)

-- the word at a place; the empty one where there is none
abbrev pub word : List Word → ℕ → Word
word words i = slice_index_or words i []

-- a number, where there is one
abbrev pub number_or_refusal : Option ℤ → Result ℤ Refusal
number_or_refusal (Some number) = Ok number
number_or_refusal None = Err NotInteger

-- the integer that the word should be
abbrev pub integer_word : Word → Result ℤ Refusal
integer_word w = number_or_refusal (integer_of w)
