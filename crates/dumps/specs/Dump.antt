-- The dump of a map: one line for each key, ascending by bytes.
use Rattle.std.specs.Prelude.{ℕ, List, [], ◌∷◌, ◌++◌, map, codes}
use Rattle.std.specs.Borrow.{Bor}
use Rattle.std.specs.FinMap.{entries, from_entries}
use Rattle.std.specs.List.{flat_map}
use Rattle.hex.specs.Hex.{encode_lower}
use Rattle.keyspace.specs.Map.{Map}
use Rattle.texts.specs.Texts.{Bytes, by_turns}
use Rattle.values.specs.Value.{type_name}
use Rattle.values.specs.declared.Value.{Value}
use Rattle.values.specs.declared.Value.TheVariants as kind

-- a text in lower-case hexadecimal; the empty one is a dash
abbrev pub word_of : Bytes → List ℕ
word_of [] = codes "-"
word_of (byte ∷ bytes) = encode_lower (byte ∷ bytes)

-- the texts of a value in their order: of a hash each field and its value by turns
abbrev pub texts_in : Value → List Bytes
texts_in (kind.Str text) = text ∷ []
texts_in (kind.List items) = items
texts_in (kind.Hash pairs) = by_turns pairs
texts_in (kind.Set members) = members

-- these texts, each behind a space
abbrev pub words_of : List Bytes → List ℕ
words_of texts = flat_map (λ text. 32 ∷ word_of text) texts

-- `key KEY TYPE TEXT ..`, and LF
abbrev pub entry_line : Bytes × Value → List ℕ
entry_line e = codes "key " ++ word_of e.0 ++ codes " " ++ type_name e.1 ++ words_of (texts_in e.1) ++ codes "\n"

abbrev pub dump_text : Map → List ℕ
dump_text m = flat_map entry_line (entries m)

-- ---- entries that are lent

abbrev pub Lent : Type 0
Lent = List (Bor Bytes × Bor Value)

-- what they are
abbrev pub lent : Lent → List (Bytes × Value)
lent es = map (λ e. (e.0.now, e.1.now)) es

abbrev pub map_of_lent : Lent → Map
map_of_lent es = from_entries (lent es)
