-- Stamps and the final stamp of a request, as in the total order that Guerraoui and Schiper give of Skeen's algorithm:
-- each addressed process proposes a timestamp, the greatest is the message's own, and processes break ties.
use Rattle.std.specs.Prelude.{ℕ, Bool, cond, nat_lt, ◌==◌, ◌&&◌, ◌||◌, List, [], ◌∷◌, Option, Some, None}
use Rattle.groups.specs.declared.stamp.Stamp.{Stamp}

-- by the clocks, and at one clock by the groups
abbrev pub stamp_lt : Stamp → Stamp → Bool
stamp_lt s t = nat_lt s.clock t.clock || (s.clock == t.clock && nat_lt s.group t.group)

-- a request stands at its final stamp where that is known, else at the group's own proposal
abbrev pub place_by : Option Stamp → Stamp → Stamp
place_by None own = own
place_by (Some s) own = s

abbrev pub later : Stamp → Stamp → Stamp
later s t = cond (stamp_lt s t) t s

-- the later of a group's proposal, if it made one, and a stamp, if there is one
abbrev pub later_of : ℕ → Option ℕ → Option Stamp → Option Stamp
later_of g (Some n) (Some s) = Some (later (record { clock = n; group = g }) s)
later_of g (Some n) None = None
later_of g None s = None

-- the greatest of these groups' proposals, where each has made one
abbrev pub final : (ℕ → Option ℕ) → List ℕ → Option Stamp
final clocks [] = Some (record { clock = 0; group = 0 })
final clocks (g ∷ gs) = later_of g (clocks g) (final clocks gs)
