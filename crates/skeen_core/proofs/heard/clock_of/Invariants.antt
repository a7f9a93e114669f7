use Rattle.std.proofs.Common.{◌≡◌, drop}
use Rattle.skeen_core.specs.Heard.{clock_of}
use Rattle.skeen_core.proofs.heard.clock_of.Given as goal

-- the proposals passed so far aren't the one that is looked for
abbrev pub invariant-loop-proposal : goal.invariant-loop-proposal
invariant-loop-proposal l = clock_of (drop l.proposal-index l.list) l.from ≡ clock_of l.list l.from
