-- Names that name a request as a whole: one of them does.
use Rattle.std.proofs.Common.{◌≡◌, ◌||◌, List, [], ◌∷◌, refl, ap}
use Rattle.std.specs.List.{list_any}
use Rattle.groups.specs.Request.{same_id}
use Rattle.groups.specs.Skips.{names_whole}
use Rattle.groups.specs.declared.request.RequestId.{RequestId}
use Rattle.groups.specs.declared.skip_id.SkipId.{SkipId}
use Rattle.groups.specs.declared.skip_id.SkipId.TheVariants.{Whole, Part}
use Rattle.shard_workers.specs.WholeNames.{is_whole_of}

pub one_names_whole : (names : List SkipId) (id : RequestId) → names_whole names id ≡ list_any (λ name. is_whole_of name id) names
one_names_whole [] id = refl
one_names_whole (Whole i ∷ names) id = ap (λ b. same_id i id || b) (one_names_whole names id)
one_names_whole (Part i n ∷ names) id = one_names_whole names id
