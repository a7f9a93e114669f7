use Rattle.std.proofs.Common.{subst, sym}
use Rattle.std.specs.List.Sorted.{IsStrictlySortedBy}
use Rattle.std.specs.Map.{keys_of}
use Rattle.skeen_core.specs.Kept.{IsKept}
use Rattle.skeen_core.specs.Pending.{stamp_cmp}
use Rattle.skeen_core.proofs.Lawful.{lawful_fresh}
use Rattle.skeen_core.proofs.Receipts.{kept_new}
use Rattle.skeen_core.proofs.agreement.Agreement.new.Goals as goal

pub invariant_of-result : goal.invariant_of-result
invariant_of-result c = subst (λ ps. IsKept c.args.id 0 c.new.result.entries ps) (sym c.new-2.ensures)
    (subst (λ es. IsKept c.args.id 0 es _) (sym c.new.ensures.empty)
    (kept_new c.args.id (subst (λ es. IsStrictlySortedBy stamp_cmp (keys_of es)) c.new.ensures.empty c.new.ensures.ordered) _
    (lawful_fresh c.args.id)))
