-- What was asked stays.
use Rattle.std.proofs.Common.{◌≡◌, ℕ, List, [], ◌∷◌, ◌++◌, sym, ap, ◌∙◌, subst}
use Rattle.journal.specs.declared.step.Step.{Step}
use Rattle.journal.specs.declared.step.Step.TheVariants.{Open, Submit, Deliver, Take, Run, Settle, Collect, Close, Repeat}
use Rattle.order_laws.proofs.Yielding.{yields_of, begins}
use Rattle.order_laws.specs.Layers.{Yields, handed_out}
use Rattle.order_laws.specs.Takes.{AskedStays}
use Rattle.placement.specs.Layout.{Layout}
use Rattle.sessions.specs.Session.{Answer, Now, Go}
use Rattle.tasks.specs.Tasks.{Task, task_groups}
use Rattle.world.specs.Steps.{opening, Effect, Steps, Collects, submitted, submitted_to, remembered, answer_to, floor_of, next_id}
use Rattle.world.specs.World.{World, Standing, Closed, Idle, Waiting, Answered}
use Rattle.world_laws.proofs.Groups.{AskedMore}
use Rattle.world_laws.proofs.Requests.{asks_more, next_is_new}
use Rattle.world_laws.proofs.Worlds.{keeps, good_world}
use Rattle.world_laws.specs.Good.{AskedGood, WorldGood}

-- what is asked in a world that asks the same
same_asked : (old new : World) → new.asked ≡ old.asked → AskedMore old.asked new.asked
same_asked old new same i q is = ap (λ f. f i) same ∙ is

submitted_to_asks : (t : Layout) (w : World) (c : ℕ) (task : Task) (gs : List ℕ) →
    AskedGood t w.asked w.proposed w.seq w.last → AskedMore w.asked (submitted_to w c task gs).asked
submitted_to_asks t w c task [] good = λ i q is. is
submitted_to_asks t w c task (g ∷ gs) good =
    asks_more w.asked (next_id w c) (record { floor = floor_of w c; groups = g ∷ gs; task = task })
    (next_is_new t w.asked w.proposed w.seq w.last c good)

submitted_asks : (t : Layout) (w : World) (c : ℕ) (a : Answer) → AskedGood t w.asked w.proposed w.seq w.last →
    AskedMore w.asked (submitted t w c a).asked
submitted_asks t w c (Now reply) good = λ i q is. is
submitted_asks t w c (Go task) good = submitted_to_asks t w c task (task_groups t task) good

collects_asks : (old new : World) (c : ℕ) (s : Standing) (effect : Effect) → Collects s old c effect new → AskedMore old.asked new.asked
collects_asks old new c Closed effect step = absurd step
collects_asks old new c Idle effect step = same_asked old new (ap (λ (w : World). w.asked) step.1)
collects_asks old new c Waiting effect step = same_asked old new (ap (λ (w : World). w.asked) step.1)
collects_asks old new c (Answered o) effect step = same_asked old new (ap (λ (w : World). w.asked) step.1)

step_asks : (t : Layout) (old new : World) (s : Step) (effect : Effect) → WorldGood t old → Steps t old s effect new →
    AskedMore old.asked new.asked
step_asks t old new Open effect good step = same_asked old new (ap (λ (w : World). w.asked) step.after)
step_asks t old new (Submit conn words) effect good step =
    subst (λ (w : World). AskedMore old.asked w.asked) (sym step.after)
    (submitted_asks t (remembered old conn.0 words) conn.0 (answer_to old conn.0 words) good.requests)
step_asks t old new (Deliver k) effect good step = same_asked old new (ap (λ (w : World). w.asked) step.after)
step_asks t old new Take effect good step = same_asked old new (ap (λ (w : World). w.asked) step.after)
step_asks t old new (Run starved) effect good step = same_asked old new (ap (λ (w : World). w.asked) step.after)
step_asks t old new Settle effect good step = same_asked old new (ap (λ (w : World). w.asked) step.after)
step_asks t old new (Collect conn) effect good step = collects_asks old new conn.0 (old.standing conn.0) effect step
step_asks t old new (Close conn) effect good step = same_asked old new (ap (λ (w : World). w.asked) step.after)
step_asks t old new (Repeat k) effect good step = same_asked old new (ap (λ (w : World). w.asked) step.after)

all_ask : (t : Layout) (old new : World) (ss : List Step) (ls : List (List _)) → WorldGood t old →
    Yields handed_out t old ss ls new → AskedMore old.asked new.asked
all_ask t old new [] ls good a i q is = ap (λ (w : World). w.asked i) a.1 ∙ is
all_ask t old new (s ∷ ss) ls good a i q is =
    all_ask t a.1 new ss a.2 (keeps t old a.1 s a.0 a.3 good) a.4 i q (step_asks t old a.1 s a.0 good a.3 i q is)

pub asked_stays : AskedStays
asked_stays t steps more old new before after =
    let a = yields_of handed_out t opening old steps before in
    let b = yields_of handed_out t opening new (steps ++ more) after in
    let rest = begins handed_out t opening old new steps more a.0 b.0 a.1 b.1 in
    all_ask t old new more rest.0 (good_world t steps old before) rest.2
