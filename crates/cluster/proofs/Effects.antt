-- What a step answers that was made.
use Rattle.std.proofs.Common.{◌≡◌, ℕ, suc, List, Option, refl}
use Rattle.cluster.specs.Histories.{HistoryView, IsMade, IsUnanswered}
use Rattle.front.specs.Making.{effect_shown}
use Rattle.front.specs.declared.effect.Effect as ours
use Rattle.front.specs.declared.effect.Effect.TheVariants as effect
use Rattle.groups.specs.declared.request.ConnId.{ConnId}
use Rattle.groups.specs.declared.request.RequestId.{RequestId}
use Rattle.journal.specs.declared.step.Step.{Step}
use Rattle.journal.specs.declared.step.Step.TheVariants.{Open, Submit, Deliver, Close}
use Rattle.placement.specs.Layout.{Layout}
use Rattle.router.specs.declared.outcome.Outcome as kept
use Rattle.world.specs.Steps.{Effect, Opened, Submitted, Collected, Made, Steps, next_id}
use Rattle.world.specs.World.{World, Outcome}

-- ---- as the world says it

pub submitted_same : (i j : RequestId) → Submitted i ≡ Submitted j → i ≡ j
submitted_same i j same = let k = same in cc

-- a Submit answers the id of the connection's next request
pub submitted_so : (h h' : HistoryView) (conn : ConnId) (words : List (List ℕ)) (id : RequestId)
    (made : IsMade h (Submit conn words) (Submitted id) h') → id ≡ next_id made.world conn.0
submitted_so h h' conn words id made = submitted_same id (next_id made.world conn.0) made.makes.answers

-- ---- by its kind

by_opened : (e : ours.Effect) (n : ℕ) → effect_shown e ≡ Opened n → (conn : ConnId) × (e ≡ effect.Opened conn)
by_opened (effect.Opened conn) n same = (conn, refl)
by_opened e n same = absurd (let k = same in cc)

by_submitted : (e : ours.Effect) (i : RequestId) → effect_shown e ≡ Submitted i → (id : RequestId) × (e ≡ effect.Submitted id)
by_submitted (effect.Submitted id) i same = (id, refl)
by_submitted e i same = absurd (let k = same in cc)

pub by_collected : (e : ours.Effect) (o : Option Outcome) → effect_shown e ≡ Collected o →
    (outcome : Option kept.Outcome) × (e ≡ effect.Collected outcome)
by_collected (effect.Collected outcome) o same = (outcome, refl)
by_collected e o same = absurd (let k = same in cc)

pub collected_same : (x y : Option kept.Outcome) → effect.Collected x ≡ effect.Collected y → x ≡ y
collected_same x y same = let k = same in cc

by_made : (e : ours.Effect) → effect_shown e ≡ Made → e ≡ effect.Made
by_made effect.Made same = refl
by_made e same = absurd (let k = same in cc)

pub opens : (h h' : HistoryView) (e : ours.Effect) → IsMade h Open (effect_shown e) h' → (conn : ConnId) × (e ≡ effect.Opened conn)
opens h h' e made = by_opened e (suc made.world.opened) made.makes.answers

pub submits_some : (h h' : HistoryView) (conn : ConnId) (words : List (List ℕ)) (e : ours.Effect) →
    IsMade h (Submit conn words) (effect_shown e) h' → (id : RequestId) × (e ≡ effect.Submitted id)
submits_some h h' conn words e made = by_submitted e (next_id made.world conn.0) made.makes.answers

nothing : (t : Layout) (w w' : World) (s : Step) (a : Effect) → IsUnanswered s → Steps t w s a w' → a ≡ Made
nothing t w w' (Deliver place) a kind step = step.answers
nothing t w w' (Close conn) a kind step = step.answers
nothing t w w' s a kind step = absurd kind

-- a step that answers nothing
pub answers_nothing : (h h' : HistoryView) (s : Step) (e : ours.Effect) → IsUnanswered s → IsMade h s (effect_shown e) h' → e ≡ effect.Made
answers_nothing h h' s e kind made =
    by_made e (nothing h.front.table made.world made.after s (effect_shown e) kind made.makes)
