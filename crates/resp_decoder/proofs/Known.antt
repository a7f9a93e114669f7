-- The definitions at known bytes, by computing.
use Rattle.std.proofs.Common.{◌≡◌, ℕ, List, [], ◌∷◌, ◌++◌, Err, refl, ap, ◌∙◌}
use Rattle.std.specs.Prelude.{codes}
use Rattle.std.specs.Fmt.{digits}
use Rattle.resp_decoder.specs.declared.fault.Fault.{Fault}
use Rattle.resp_decoder.specs.declared.fault.Fault.TheVariants.{ExpectedStar, ExpectedDollar, BadLength, ExpectedCrlf}
use Rattle.resp_decoder.specs.declared.limits.Limits.{Limits}
use Rattle.resp_decoder.specs.declared.parsing.Stop.TheVariants.{Bad}
use Rattle.resp_decoder.specs.Texts.{Item, IsFault}
use Rattle.resp_decoder.specs.Parsing.{Parsed, ◌>>=◌, byte_at, line_at, number_on, number_at, some_at, word_at, words_at, minus_one_at}
use Rattle.resp_decoder.specs.Parsing.{count_at, head_at, body_at, item_at}
use Rattle.resp_decoder.specs.Laws.{lines, KnownTexts, KnownFaults}
use Rattle.resp_decoder.proofs.Items.{item_reads}

pub known_texts : KnownTexts
unfolding digits
known_texts = (refl, refl, refl, refl, refl)

-- reading, as it depends on the two limits
abbrev read : ℕ → ℕ → List ℕ → Parsed Item
read words bulk b = head_at words b >>= λ count. body_at bulk count.0 count.1

read_known : (limits : Limits) (b : List ℕ) → limits.words ≡ 1048576 → limits.bulk ≡ 536870912 → item_at limits b ≡ read 1048576 536870912 b
unfolding item_at
read_known limits b words_are bulk_is = ap (λ (n : ℕ). read n limits.bulk b) words_are ∙ ap (λ (n : ℕ). read 1048576 n b) bulk_is

stands : (limits : Limits) (b : List ℕ) (fault : Fault) → limits.words ≡ 1048576 → limits.bulk ≡ 536870912
    → read 1048576 536870912 b ≡ Err (Bad fault) → IsFault limits b fault
stands limits b fault words_are bulk_is e = (item_reads limits).bad b fault (read_known limits b words_are bulk_is ∙ e)

pub known_faults : KnownFaults
unfolding byte_at line_at number_on number_at some_at word_at words_at minus_one_at count_at head_at body_at
known_faults limits w k = (
  stands limits (lines (codes "*1" ∷ codes "$03" ∷ codes "GET" ∷ [])) BadLength w k refl,
  stands limits (lines (codes "*1" ∷ []) ++ codes "$536870913") BadLength w k refl,
  stands limits (lines (codes "PING" ∷ [])) ExpectedStar w k refl,
  stands limits (lines (codes "*1" ∷ codes "+PING" ∷ [])) ExpectedDollar w k refl,
  stands limits (lines (codes "*1" ∷ codes "$4" ∷ []) ++ codes "PINGxx") ExpectedCrlf w k refl,
)
