-- Names of members.
use Rattle.std.specs.Prelude.{ℕ, Bool, false, nat_eq, ◌&&◌}
use Rattle.groups.specs.Request.{same_id}
use Rattle.groups.specs.declared.request.RequestId.{RequestId}
use Rattle.groups.specs.declared.skip_id.SkipId.{SkipId}
use Rattle.groups.specs.declared.skip_id.SkipId.TheVariants.{Whole, Part}

-- it is the name of the request's member of this number
abbrev pub names_part : RequestId → ℕ → SkipId → Bool
names_part id number (Whole of) = false
names_part id number (Part of part) = same_id of id && nat_eq part number
