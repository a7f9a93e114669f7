-- When two groups agree.
use Rattle.std.specs.Prelude.{◌≡◌, Bool, List, filter}
use Rattle.std.specs.List.{list_any}
use Rattle.groups.specs.Request.{same_id}
use Rattle.groups.specs.declared.request.RequestId.{RequestId}
use Rattle.skeen_core.specs.declared.packet.Delivered.{Delivered}

-- the request is among these
abbrev pub has_request : List Delivered → RequestId → Bool
has_request ds i = list_any (λ d. same_id d.id i) ds

-- those that the other group has delivered, too, in the order of this one
abbrev pub shared : List Delivered → List Delivered → List Delivered
shared mine others = filter (λ d. has_request others d.id) mine

-- of the requests that both have delivered, each has the same order, and the same stamps
abbrev pub Agree : List Delivered → List Delivered → Type 0
Agree mine others = shared mine others ≡ shared others mine
