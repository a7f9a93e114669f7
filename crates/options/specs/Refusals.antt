-- Why words say no options, and what is told then.
use Rattle.std.specs.Prelude.{◌≡◌, ◌≢◌, ◌⊎◌, ℕ, ⊤, false, List}
use Rattle.clap.specs.Values.{kind_of}
use Rattle.clap.specs.Words.{App, IsAmong, Row, Text, fault_of, matches_of, takes}
use Rattle.clap.specs.declared.error.Error.{Error}
use Rattle.clap.specs.declared.error.kind.ErrorKind.TheVariants.{DisplayHelp, DisplayVersion, OutOfMemory}
use Rattle.options.specs.declared.fault.OptionsFault.{OptionsFault}
use Rattle.options.specs.declared.fault.OptionsFault.TheVariants.{Words, Range, Address, Memory}

-- ---- why they say nothing

-- what the rows of options and their values lack: the number of the option that is told is out of its bounds, or what is to
-- be bound is no address
abbrev pub LacksBy : (List Row → Text → Type 0) → (List Row → Type 0) → List Row → OptionsFault → Type 0
LacksBy IsOut HasNone rows (Words error) = ⊥
LacksBy IsOut HasNone rows (Range name) = IsOut rows name.now
LacksBy IsOut HasNone rows Address = HasNone rows
LacksBy IsOut HasNone rows Memory = ⊥

-- clap refuses the words, by a kind of error that it finds in them, or there is no memory
abbrev pub IsRefusalOf : App → List Text → OptionsFault → Type 0
IsRefusalOf line words (Words error) = (takes line words ≡ false) × IsAmong (kind_of error) (fault_of line words)
IsRefusalOf line words (Range name) = ⊥
IsRefusalOf line words Address = ⊥
IsRefusalOf line words Memory = ⊤

-- or they lack something
abbrev pub IsRefusalBy : App → (List Row → Text → Type 0) → (List Row → Type 0) → List Text → OptionsFault → Type 0
IsRefusalBy line IsOut HasNone words fault = IsRefusalOf line words fault ⊎ LacksBy IsOut HasNone (matches_of line words) fault

-- the words of no program but the server's name an address
abbrev pub names_none : List Row → Type 0
names_none rows = ⊥

-- ---- what is told

-- what is told where the command line refuses the words: want of memory as such, and all else with its text
abbrev pub TellsRefusal : Error → OptionsFault → Type 0
TellsRefusal error fault =
    ((kind_of error ≡ OutOfMemory) × (fault ≡ Memory)) ⊎ ((kind_of error ≢ OutOfMemory) × (fault ≡ Words error))

-- the program's status where the words say no options: 0 for help and for the version, where they were asked for, else 2, and
-- its own for want of memory
abbrev pub HasStatus : ℕ → OptionsFault → ℕ → Type 0
HasStatus memory (Words error) status =
    (kind_of error ≡ DisplayHelp → status ≡ 0) × (kind_of error ≡ DisplayVersion → status ≡ 0)
    × (kind_of error ≢ DisplayHelp → kind_of error ≢ DisplayVersion → status ≡ 2)
HasStatus memory (Range name) status = status ≡ 2
HasStatus memory Address status = status ≡ 2
HasStatus memory Memory status = status ≡ memory
