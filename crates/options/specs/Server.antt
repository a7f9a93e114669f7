-- What the words of the server's command line say.
use Rattle.std.specs.Int.NonZero.{non_zero_usize_get}
use Rattle.std.specs.Prelude.{◌≡◌, ◌≤◌, ◌⊎◌, List, [], ◌∷◌, Some, None, option_map, codes}
use Rattle.clap.specs.Words.{App, Row, Text, first_of, matches_of}
use Rattle.options.specs.CommandLine.{SaysOr, IsAddress, IsNoAddress, IsOutside, is_given, a_u16, a_u64, app_named, flag_named}
use Rattle.options.specs.CommandLine.{needed_named, number_named, option_named, with_rules}
use Rattle.options.specs.Refusals.{IsRefusalBy, LacksBy}
use Rattle.journal.specs.declared.trace.TheConstants.{GREATEST_STEPS}
use Rattle.options.specs.declared.fault.OptionsFault.{OptionsFault}
use Rattle.options.specs.declared.server.Options.{Options}

-- the numbers are in their ranges; the port's is that of its type, and workers are one or more by theirs
pub record InRange (o : Options) : Type 0 where
  pub few_workers : non_zero_usize_get o.workers ≤ 64
  pub some_connections : 1 ≤ o.connections
  pub some_steps : 1 ≤ o.max_steps
  pub few_steps : o.max_steps ≤ GREATEST_STEPS

-- ---- the command line

-- its options
abbrev pub line : App
line =
    with_rules (app_named (codes "shardkv-server"))
    (needed_named (codes "table")
    ∷ number_named a_u16 (codes "port")
    ∷ option_named (codes "bind")
    ∷ number_named a_u64 (codes "workers")
    ∷ number_named a_u64 (codes "connections")
    ∷ number_named a_u64 (codes "max-steps")
    ∷ option_named (codes "trace")
    ∷ number_named a_u64 (codes "report")
    ∷ flag_named (codes "until-input-ends")
    ∷ [])

-- ---- what it says

-- these rows of options and their values say so
pub record AreSaidBy (rows : List Row) (o : Options) : Type 0 where
  pub table : first_of (codes "table") rows ≡ Some o.table.now
  pub port : SaysOr 7379 (first_of (codes "port") rows) o.port
  pub bind : IsAddress (first_of (codes "bind") rows) o.bind
  pub workers : SaysOr 1 (first_of (codes "workers") rows) (non_zero_usize_get o.workers)
  pub connections : SaysOr 64 (first_of (codes "connections") rows) o.connections
  pub max_steps : SaysOr 1000000 (first_of (codes "max-steps") rows) o.max_steps
  pub trace : first_of (codes "trace") rows ≡ option_map (λ path. path.now) o.trace
  pub report : SaysOr 0 (first_of (codes "report") rows) o.report
  pub until_input_ends : o.until_input_ends ≡ is_given (first_of (codes "until-input-ends") rows)

-- the words say so, by the values that clap finds in them
abbrev pub AreSaid : List Text → Options → Type 0
AreSaid words o = AreSaidBy (matches_of line words) o

-- ---- why they say nothing

-- the table's file isn't named, or the number of the option that is told is out of its bounds
abbrev pub IsOutOfBounds : List Row → Text → Type 0
IsOutOfBounds rows name =
    ((name ≡ codes "table") × (first_of (codes "table") rows ≡ None))
    ⊎ (((name ≡ codes "port") × IsOutside 7379 0 65535 (first_of (codes "port") rows))
    ⊎ (((name ≡ codes "workers") × IsOutside 1 1 64 (first_of (codes "workers") rows))
    ⊎ (((name ≡ codes "connections") × IsOutside 64 1 18446744073709551615 (first_of (codes "connections") rows))
    ⊎ (((name ≡ codes "max-steps") × IsOutside 1000000 1 GREATEST_STEPS (first_of (codes "max-steps") rows))
    ⊎ ((name ≡ codes "report") × IsOutside 0 0 86400 (first_of (codes "report") rows))))))

-- what is to be bound is no address
abbrev pub NamesNoAddress : List Row → Type 0
NamesNoAddress rows = IsNoAddress (first_of (codes "bind") rows)

abbrev pub Lacks : List Row → OptionsFault → Type 0
Lacks = LacksBy IsOutOfBounds NamesNoAddress

abbrev pub IsRefusal : List Text → OptionsFault → Type 0
IsRefusal = IsRefusalBy line IsOutOfBounds NamesNoAddress
