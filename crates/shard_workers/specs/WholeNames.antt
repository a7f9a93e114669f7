-- A name of what is to be skipped, beside a request.
use Rattle.std.specs.Prelude.{Bool, false}
use Rattle.groups.specs.Request.{same_id}
use Rattle.groups.specs.declared.request.RequestId.{RequestId}
use Rattle.groups.specs.declared.skip_id.SkipId.{SkipId}
use Rattle.groups.specs.declared.skip_id.SkipId.TheVariants.{Whole, Part}

-- it names the request as a whole
abbrev pub is_whole_of : SkipId → RequestId → Bool
is_whole_of (Whole i) id = same_id i id
is_whole_of (Part i n) id = false
