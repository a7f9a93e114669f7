-- The rows of the programs' tables of options.
use Rattle.std.specs.Prelude.{ℕ, List, Option, map}
use Rattle.clap.specs.Words.{App, Rule, Text, first_of, found_of, rows_of}
use Rattle.clap.specs.declared.parser.matches.ArgMatches.{ArgMatches}
use Rattle.options.specs.CommandLine.{a_u16, a_u64, app_named, flag_named, needed_named, number_named, option_named, with_rules}
use Rattle.options.specs.declared.option_row.Kind.{Kind}
use Rattle.options.specs.declared.option_row.Kind.TheVariants.{Flag, Valued, Needed, Number, ShortNumber}
use Rattle.options.specs.declared.option_row.OptionRow.{OptionRow}

-- the option of this name that takes so
abbrev pub rule_by : Text → Kind → Rule
rule_by name Flag = flag_named name
rule_by name (Valued value) = option_named name
rule_by name (Needed value) = needed_named name
rule_by name (Number value bounds default) = number_named a_u64 name
rule_by name (ShortNumber value bounds default) = number_named a_u16 name

abbrev pub rule_of_row : OptionRow → Rule
rule_of_row row = rule_by row.name.now row.kind

-- the command line of the program of this name with these options
abbrev pub line_of : Text → List OptionRow → App
line_of program rows = with_rules (app_named program) (map rule_of_row rows)

-- the least and the greatest number that an option takes, and the one where the words give none
abbrev pub range_of : Kind → ℕ × ℕ × ℕ
range_of Flag = (0, 18446744073709551615, 0)
range_of (Valued value) = (0, 18446744073709551615, 0)
range_of (Needed value) = (0, 18446744073709551615, 0)
range_of (Number value bounds default) = (bounds.0, bounds.1, default)
range_of (ShortNumber value bounds default) = (bounds.0, bounds.1, default)

-- the value that an option was given, if it was
abbrev pub given : OptionRow → ArgMatches → Option Text
given row found = first_of row.name.now (rows_of (found_of found))
