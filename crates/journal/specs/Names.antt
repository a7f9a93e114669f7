-- Names of requests and of members of requests.
use Rattle.std.specs.Prelude.{⊤, ◌≤◌, List}
use Rattle.std.specs.List.{AllByRecursion}
use Rattle.groups.specs.declared.skip_id.SkipId.{SkipId}
use Rattle.groups.specs.declared.skip_id.SkipId.TheVariants.{Whole, Part}

-- the members of a request are numbered from 1
abbrev pub IsNumbered : SkipId → Type 0
IsNumbered (Whole id) = ⊤
IsNumbered (Part id number) = 1 ≤ number

abbrev pub AreNumbered : List SkipId → Type 0
AreNumbered names = AllByRecursion IsNumbered names
