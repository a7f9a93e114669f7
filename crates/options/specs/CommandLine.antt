-- Command lines, their options and flags, and what the values of these say.
use Rattle.std.specs.Prelude.{◌≡◌, ◌<◌, ◌^◌, ◌⊎◌, ℕ, Bool, true, false, pos, List, [], ◌∷◌, Option, Some, None, codes}
use Rattle.std.specs.Net.Grammar.{IsIpText}
use Rattle.std.specs.Option.{option_map_or}
use Rattle.std.specs.Str.{bytes_eq}
use Rattle.std.specs.Str.Parse.{IsNumeral, digits_value, without_leading_plus}
use Rattle.std.specs.declared.net.ip_addr.IpAddr.{IpAddr}
use Rattle.clap.specs.Words.{App, Rule, Text, new_app, new_rule, with_rule}
use Rattle.clap.specs.declared.builder.action.ArgAction.TheVariants.{SetTrue}
use Rattle.clap.specs.declared.builder.value_parser.ValueParser.{ValueParser}
use Rattle.clap.specs.declared.builder.value_parser.ValueParser.TheVariants as parser

-- ---- what stands on it

-- the command line of a program of this name, which has a version, and no option yet
abbrev pub app_named : Text → App
app_named name = record (new_app name) { top = record (new_app name).top { has_version = true } }

-- an option of this name that takes a value
abbrev pub option_named : Text → Rule
option_named name = record (new_rule name) { long = Some name; value_names = 1 }

-- one that has to be given
abbrev pub needed_named : Text → Rule
needed_named name = record (option_named name) { required = true }

-- one whose value is read so
abbrev pub number_named : ValueParser → Text → Rule
number_named reader name = record (option_named name) { parser = Some reader }

-- numbers of 16 and of 64 bits
abbrev pub a_u16 : ValueParser
a_u16 = parser.Signed (pos 0) (pos 65535)

abbrev pub a_u64 : ValueParser
a_u64 = parser.Unsigned 0 18446744073709551615

-- a flag of this name, which takes none
abbrev pub flag_named : Text → Rule
flag_named name = record (new_rule name) { long = Some name; action = Some SetTrue }

-- a command line with these options behind its own
abbrev pub with_rules : App → List Rule → App
with_rules line [] = line
with_rules line (r ∷ rs) = with_rules (with_rule line r) rs

-- ---- what values say

-- a text says this number: decimal digits, behind a plus or not
abbrev pub Says : Text → ℕ → Type 0
Says text n = IsNumeral 10 (without_leading_plus text) × (n ≡ digits_value 10 (without_leading_plus text))

-- what an option's value says, or the default where it has none
abbrev pub SaysOr : ℕ → Option Text → ℕ → Type 0
SaysOr default None n = n ≡ default
SaysOr default (Some text) n = Says text n

-- there is a value, and it says no number of 64 bits
abbrev pub IsNoNumber : Option Text → Type 0
IsNoNumber None = ⊥
IsNoNumber (Some text) = (n : ℕ) → Says text n → n < 2 ^ 64 → ⊥

-- the option's number, given or by default, isn't within these bounds, or its value says none
abbrev pub IsOutside : ℕ → ℕ → ℕ → Option Text → Type 0
IsOutside default least most value =
    IsNoNumber value ⊎ ((n : ℕ) × SaysOr default value n × ((n < least) ⊎ (most < n)))

-- the value is the text of this address, or there is neither
abbrev pub IsAddress : Option Text → Option IpAddr → Type 0
IsAddress None address = address ≡ None
IsAddress (Some text) None = ⊥
IsAddress (Some text) (Some address) = IsIpText text address

-- there is a value, and it is no address's text
abbrev pub IsNoAddress : Option Text → Type 0
IsNoAddress None = ⊥
IsNoAddress (Some text) = (address : IpAddr) → ¬ IsIpText text address

-- whether the flag was given, by the value that clap finds for it
abbrev pub is_given : Option Text → Bool
is_given value = option_map_or (λ text. bytes_eq text (codes "true")) value false
