-- A connection that is served by a desk.
use Rattle.std.specs.Prelude.{ℕ, List, Option, Result}
use Rattle.cluster.specs.Clusters.{SeatView}
use Rattle.placement.specs.Layout.{Layout}
use Rattle.resp_decoder.specs.declared.limits.Limits.{Limits}
use Rattle.serving.specs.Serves.{Serves}
use Rattle.serving.specs.declared.outcome.ServeFault.{ServeFault}
use Rattle.serving.specs.declared.outcome.Served.{Served}
use Rattle.shared_cluster.specs.Desks.{Asks}
use Rattle.shared_cluster.specs.declared.held.AskFault.{AskFault}

-- It was served as `Serves` says: the requests that were read were asked of the desk in order, and what was written is the texts of
-- its answers. What each of them is `Asks` says of the desk's seat, where keys lie by this table.
abbrev pub ServesDesk : {D : Type 0} → Layout → D → D → (D → SeatView) → Limits → Option (List ℕ) → Option (List ℕ) → Option (List ℕ)
    → Option (List ℕ) → Result Served (ServeFault AskFault) → Type 0
ServesDesk table old new seat limits before after held holds result =
    Serves (λ s words answer t. Asks table (seat s) words answer (seat t)) limits before after held holds old new result
