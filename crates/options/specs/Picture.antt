-- What the words of the command line of the picture's program say.
use Rattle.std.specs.Prelude.{◌≡◌, ◌⊎◌, List, [], ◌∷◌, Some, None, codes}
use Rattle.clap.specs.Words.{App, Row, Text, first_of, matches_of}
use Rattle.options.specs.CommandLine.{SaysOr, IsOutside, a_u64, app_named, needed_named, number_named, with_rules}
use Rattle.options.specs.Refusals.{IsRefusalBy, LacksBy, names_none}
use Rattle.options.specs.declared.fault.OptionsFault.{OptionsFault}
use Rattle.options.specs.declared.picture.Asked.{Asked}

-- the command line's options
abbrev pub line : App
line =
    with_rules (app_named (codes "shardkv-picture"))
    (needed_named (codes "table")
    ∷ needed_named (codes "trace")
    ∷ number_named a_u64 (codes "from")
    ∷ number_named a_u64 (codes "to")
    ∷ [])

-- these rows of options and their values say so
pub record AreSaidBy (rows : List Row) (asked : Asked) : Type 0 where
  pub table : first_of (codes "table") rows ≡ Some asked.table.now
  pub trace : first_of (codes "trace") rows ≡ Some asked.trace.now
  pub from : SaysOr 0 (first_of (codes "from") rows) asked.from
  pub to : SaysOr 18446744073709551615 (first_of (codes "to") rows) asked.to

-- the words say so, by the values that clap finds in them
abbrev pub AreSaid : List Text → Asked → Type 0
AreSaid words asked = AreSaidBy (matches_of line words) asked

-- ---- why they say nothing

-- the file that is told isn't named, or the step that is told is no number of 64 bits
abbrev pub IsOutOfBounds : List Row → Text → Type 0
IsOutOfBounds rows name =
    ((name ≡ codes "table") × (first_of (codes "table") rows ≡ None))
    ⊎ (((name ≡ codes "trace") × (first_of (codes "trace") rows ≡ None))
    ⊎ (((name ≡ codes "from") × IsOutside 0 0 18446744073709551615 (first_of (codes "from") rows))
    ⊎ ((name ≡ codes "to") × IsOutside 18446744073709551615 0 18446744073709551615 (first_of (codes "to") rows))))

abbrev pub Lacks : List Row → OptionsFault → Type 0
Lacks = LacksBy IsOutOfBounds names_none

abbrev pub IsRefusal : List Text → OptionsFault → Type 0
IsRefusal = IsRefusalBy line IsOutOfBounds names_none
