use Rattle.std.proofs.Common.{◌≡◌, ◌-◌, ◌≤◌, length, drop}
use Rattle.skeen_core.specs.Group.{reached_by}
use Rattle.skeen_core.proofs.reached.Reached.deliver_all.Given as goal

-- what is left has still to be reached, and there is room for it
abbrev pub invariant-loop-request : goal.invariant-loop-request
invariant-loop-request l =
    (reached_by l.self.numbers (drop l.request-index l.delivered) ≡ reached_by l.initial.self.numbers l.delivered)
    × (length l.delivered - l.request-index ≤ l.self.room)
