-- What a history submitted to groups the world was asked.
use Rattle.std.proofs.Common.{◌≡◌, ◌≢◌, ℕ, List, [], ◌∷◌, inl, inr, Some, refl, sym, ◌∙◌, subst}
use Rattle.std.proofs.lemmas.Bool.{cond-true}
use Rattle.journal.specs.declared.step.Step.{Step}
use Rattle.journal.specs.declared.step.Step.TheVariants.{Submit}
use Rattle.placement.specs.Layout.{Layout}
use Rattle.groups.proofs.Ids.{same_id-refl}
use Rattle.groups.specs.Request.{same_id}
use Rattle.groups.specs.declared.request.ConnId.{ConnId}
use Rattle.groups.specs.declared.request.RequestId.{RequestId}
use Rattle.tasks.specs.Tasks.{Task, task_groups}
use Rattle.system.specs.Endings.{AsksGroups}
use Rattle.world.specs.Steps.{Effect, Steps, Makes, next_id, floor_of, answer_to, remembered, submitted, submitted_to}
use Rattle.world.specs.Steps as world
use Rattle.world.specs.World.{World, Request}
use Rattle.world_laws.proofs.Floors.{knows_more}
use Rattle.world_laws.proofs.Sessions.{session_step}
use Rattle.world_laws.proofs.Worlds.{keeps}
use Rattle.world_laws.specs.Collecting.{Submits, WasSubmittedFrom}
use Rattle.world_laws.specs.Good.{WorldGood}

abbrev pub IsAsked : World → RequestId → Type 0
IsAsked w i = (q : Request) × (w.asked i ≡ Some q)

-- it stays asked
asked_still : (t : Layout) (old new : World) (ss : List Step) (es : List Effect) (i : RequestId) → Makes t old ss es new →
    WorldGood t old → IsAsked old i → IsAsked new i
asked_still t old new [] es i made good asked = subst (λ w. IsAsked w i) (sym made.1) asked
asked_still t old new (s ∷ ss) [] i made good asked = absurd made
asked_still t old new (s ∷ ss) (e ∷ es) i made good asked =
    asked_still t made.0 new ss es i made.2 (keeps t old made.0 s e made.1 good)
    (asked.0, (knows_more t old made.0 s e made.1 good).0 i asked.0 asked.1)

asked_to : (old : World) (c : ℕ) (task : Task) (gs : List ℕ) → gs ≢ [] → IsAsked (submitted_to old c task gs) (next_id old c)
asked_to old c task [] some = absurd (some refl)
asked_to old c task (g ∷ gs) some =
    let q : Request = record { floor = floor_of old c; groups = g ∷ gs; task = task } in
    (q, cond-true (same_id (next_id old c) (next_id old c)) (Some q) (old.asked (next_id old c)) (same_id-refl (next_id old c)))

asked_submit : (t : Layout) (old new : World) (i : RequestId) (conn : ConnId) (words : List (List ℕ)) (e : Effect) →
    world.Submits t old conn.0 words e new → Submits (AsksGroups t) i old.session (Submit conn words) e → IsAsked new i
asked_submit t old new i conn words (world.Submitted j) step now =
    let mid = remembered old conn.0 words in
    let same : next_id old conn.0 ≡ i = sym (same_submitted j (next_id old conn.0) step.answers) ∙ now.1 in
    subst (λ w. IsAsked w i) (sym step.after)
    (subst (λ k. IsAsked (submitted t mid conn.0 (answer_to old conn.0 words)) k) same
    (subst (λ a. IsAsked (submitted t mid conn.0 a) (next_id old conn.0)) (sym now.2.1)
    (asked_to mid conn.0 now.2.0 (task_groups t now.2.0) now.2.2)))
  where
    same_submitted : (j k : RequestId) → world.Submitted j ≡ world.Submitted k → j ≡ k
    same_submitted j k same = let e = same in cc
asked_submit t old new i conn words effect step now = absurd now

asked_now : (t : Layout) (old new : World) (i : RequestId) (s : Step) (e : Effect) → Steps t old s e new →
    Submits (AsksGroups t) i old.session s e → IsAsked new i
asked_now t old new i (Submit conn words) e step now = asked_submit t old new i conn words e step now
asked_now t old new i s e step now = absurd now

-- what was submitted to groups, by what connections remember from the first world on, is asked
pub was_asked : (t : Layout) (old new : World) (ss : List Step) (es : List Effect) (i : RequestId) → Makes t old ss es new →
    WorldGood t old → WasSubmittedFrom (AsksGroups t) i old.session ss es → IsAsked new i
was_asked t old new [] es i made good was = absurd was
was_asked t old new (s ∷ ss) [] i made good was = absurd made
was_asked t old new (s ∷ ss) (e ∷ es) i made good (inl now) =
    asked_still t made.0 new ss es i made.2 (keeps t old made.0 s e made.1 good) (asked_now t old made.0 i s e made.1 now)
was_asked t old new (s ∷ ss) (e ∷ es) i made good (inr later) =
    was_asked t made.0 new ss es i made.2 (keeps t old made.0 s e made.1 good)
    (subst (λ sessions. WasSubmittedFrom (AsksGroups t) i sessions ss es) (sym (session_step t old made.0 s e made.1)) later)
