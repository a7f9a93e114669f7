use Rattle.std.proofs.Common.{◌≡◌, cond, Option, Some, None, sym, ap, ◌∙◌, inl, inr}
use Rattle.std.proofs.lemmas.Bool.{cases_Bool}
use Rattle.std.proofs.lemmas.Map.Lookups.{btree_map_from_get}
use Rattle.groups.specs.declared.stamp.Stamp.{Stamp}
use Rattle.skeen_core.specs.Pending.{is_place, at}
use Rattle.skeen_core.specs.declared.pending.Pending.{Pending}
use Rattle.skeen_core.proofs.Places.{stamp_total, stamp_exact, same_place, absorbed}
use Rattle.skeen_core.proofs.pending.enter.Goals as goal

-- what was entered and taken out again
back : (s q : Stamp) (p : Pending) (f : Stamp → Option Pending) → f s ≡ None
    → cond (is_place s q) None (cond (is_place s q) (Some p) (f q)) ≡ f q
back s q p f none = absorbed (is_place s q) None (Some p) (f q) ∙ elim (cases_Bool (is_place s q)) [
  | inl e ↦ ap (λ b. cond b None (f q)) e ∙ sym none ∙ ap f (same_place s q e)
  | inr e ↦ ap (λ b. cond b None (f q)) e
]

pub returns-in-Err-clause-pending_kept : goal.returns-in-Err-clause-pending_kept
returns-in-Err-clause-pending_kept c =
    btree_map_from_get stamp_total c.remove.new.self c.args.pending.now c.remove.ensures.ordered c.in_ok-insert.ensures.was_ordered
    (λ q. c.remove.ensures.updates.0 q ∙ ap (cond (is_place c.args.place q) None) (c.in_ok-insert.ensures.updates.0 q)
    ∙ back c.args.place q c.args.request (at c.args.pending.now.entries) c.requires.free) stamp_exact
