-- What some names of requests and of their members name.
use Rattle.std.specs.Prelude.{ℕ, Bool, false, ◌||◌, cond, List, [], ◌∷◌}
use Rattle.groups.specs.Request.{same_id}
use Rattle.groups.specs.declared.request.RequestId.{RequestId}
use Rattle.groups.specs.declared.skip_id.SkipId.{SkipId}
use Rattle.groups.specs.declared.skip_id.SkipId.TheVariants.{Whole, Part}

-- one of them names the request as a whole
abbrev pub names_whole : List SkipId → RequestId → Bool
names_whole [] id = false
names_whole (Whole i ∷ names) id = same_id i id || names_whole names id
names_whole (Part i n ∷ names) id = names_whole names id

-- the numbers of the request's members that they name
abbrev pub parts_of : List SkipId → RequestId → List ℕ
parts_of [] id = []
parts_of (Whole i ∷ names) id = parts_of names id
parts_of (Part i n ∷ names) id = cond (same_id i id) (n ∷ parts_of names id) (parts_of names id)
