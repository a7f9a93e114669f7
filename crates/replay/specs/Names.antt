-- What is named among requests and their members.
use Rattle.std.specs.Prelude.{Bool, List}
use Rattle.tasks.specs.Starved.{has}
use Rattle.groups.specs.Skips.{names_whole, parts_of}
use Rattle.groups.specs.declared.skip_id.SkipId.{SkipId}
use Rattle.groups.specs.declared.skip_id.SkipId.TheVariants.{Whole, Part}

-- one of these names names the same: the request as a whole, or the member of it
abbrev pub is_named : List SkipId → SkipId → Bool
is_named names (Whole id) = names_whole names id
is_named names (Part id number) = has (parts_of names id) number
