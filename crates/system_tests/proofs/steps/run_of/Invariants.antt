use Rattle.journal.specs.Names.{AreNumbered}
use Rattle.system_tests.proofs.steps.run_of.Given as goal

-- those so far are numbered from 1
abbrev pub invariant-loop-name : goal.invariant-loop-name
invariant-loop-name l = AreNumbered l.names.items
