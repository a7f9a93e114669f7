-- A run, one step after another.
use Rattle.std.proofs.Common.{◌≡◌, ◌∙◌, ℕ, suc, ◌+◌, ◌≤◌, List, [], ◌∷◌, ◌++◌}
use Rattle.std.proofs.Common.{length, drop, refl, sym, ap, subst, arith, append_assoc}
use Rattle.std.proofs.lemmas.List.{append-nil}
use Rattle.journal.specs.declared.step.Step.{Step}
use Rattle.journal.specs.declared.step.Step.TheVariants as step
use Rattle.sessions.specs.Session.{Answer, Now, Go}
use Rattle.tasks.specs.Tasks.{Task, task_groups}
use Rattle.picture.specs.Flights.{arrival_in, kept_at}
use Rattle.picture.specs.Run.{Moment, Walks, InEach, last_of, made_by, steps_of, told_by}
use Rattle.placement.specs.Layout.{Layout}
use Rattle.skeen_core.specs.declared.packet.Packet.{Packet}
use Rattle.world.specs.Steps.{Effect, Steps, Collects, answer_to, remembered, submitted, submitted_to, starts, next_id, floor_of}
use Rattle.world.specs.World.{World, Standing, Closed, Idle, Waiting, Answered}

-- ---- one moment more

pub walks_more : (t : Layout) (w new : World) (ms : List Moment) (s : Step) (e : Effect) → Walks t w ms → Steps t (last_of w ms) s e new →
    Walks t w (ms ++ record { step = s; after = new } ∷ [])
walks_more t w new [] s e walks made = ((e, made), tt)
walks_more t w new (m ∷ ms) s e walks made = (walks.0, walks_more t m.after new ms s e walks.1 made)

pub last_more : (w : World) (ms : List Moment) (m : Moment) → last_of w (ms ++ m ∷ []) ≡ m.after
last_more w [] m = refl
last_more w (n ∷ ms) m = last_more n.after ms m

pub steps_more : (ms : List Moment) (m : Moment) → steps_of (ms ++ m ∷ []) ≡ steps_of ms ++ m.step ∷ []
steps_more [] m = refl
steps_more (n ∷ ms) m = ap (λ l. n.step ∷ l) (steps_more ms m)

pub length_steps : (ms : List Moment) → length (steps_of ms) ≡ length ms
length_steps [] = refl
length_steps (m ∷ ms) = ap suc (length_steps ms)

pub each_more : (P Q : ℕ → World → Type 0) (n : ℕ) (w : World) (ms : List Moment) (m : Moment) → InEach P n w ms →
    ((i : ℕ) (v : World) → i ≤ n + length ms → P i v → Q i v) → Q (suc (n + length ms)) m.after → InEach Q n w (ms ++ m ∷ [])
each_more P Q n w [] m each goes next =
    (goes n w (omega arith) each, subst (λ k. Q (suc k) m.after) (let e : n + 0 ≡ n = omega arith in e) next)
each_more P Q n w (k ∷ ms) m each goes next =
    let same : n + suc (length ms) ≡ suc n + length ms = omega arith in (
      goes n w (omega arith) each.0,
      each_more P Q (suc n) k.after ms m each.1 (λ i v less. goes i v (subst (λ l. i ≤ l) (sym same) less))
          (subst (λ l. Q (suc l) m.after) same next),
    )

pub told_more : {X : Type 0} (f : ℕ → World → Step → World → List X) (n : ℕ) (w : World) (ms : List Moment) (m : Moment) →
    told_by f n w (ms ++ m ∷ []) ≡ told_by f n w ms ++ f (n + length ms) (last_of w ms) m.step m.after
told_more f n w [] m =
    let e : n ≡ n + 0 = omega arith in append-nil (f n w m.step m.after) ∙ ap (λ k. f k w m.step m.after) e
told_more f n w (k ∷ ms) m =
    let e : suc n + length ms ≡ n + suc (length ms) = omega arith in
    let first = f n w k.step k.after in
    let rest = told_by f (suc n) k.after ms in
    ap (λ l. first ++ l) (told_more f (suc n) k.after ms m)
    ∙ ap (λ i. first ++ (rest ++ f i (last_of k.after ms) m.step m.after)) e
    ∙ sym (append_assoc first rest (f (n + suc (length ms)) (last_of k.after ms) m.step m.after))

pub made_more : {X : Type 0} (f : ℕ → World → Step → World → X → X) (n : ℕ) (w : World) (ms : List Moment) (m : Moment) (x : X) →
    made_by f n w (ms ++ m ∷ []) x ≡ f (n + length ms) (last_of w ms) m.step m.after (made_by f n w ms x)
made_more f n w [] m x = let e : n ≡ n + 0 = omega arith in ap (λ k. f k w m.step m.after x) e
made_more f n w (k ∷ ms) m x =
    let e : suc n + length ms ≡ n + suc (length ms) = omega arith in
    let next = f n w k.step k.after x in
    made_more f (suc n) k.after ms m next
    ∙ ap (λ i. f i (last_of k.after ms) m.step m.after (made_by f (suc n) k.after ms next)) e

-- ---- packets

-- what stands behind the first ones
pub behind : {A : Type 0} (xs ks ss : List A) → xs ≡ ks ++ ss → xs ≡ ks ++ drop (length ks) xs
behind xs ks ss is = is ∙ ap (λ l. ks ++ l) (sym (ap (drop (length ks)) is ∙ dropped ks ss))
  where
    dropped : {A : Type 0} (ks ss : List A) → drop (length ks) (ks ++ ss) ≡ ss
    dropped [] ss = refl
    dropped (k ∷ ks) ss = dropped ks ss

sent_to : (t : Layout) (w : World) (c : ℕ) (task : Task) (gs : List ℕ) →
    (ss : List Packet) × ((submitted_to w c task gs).packets ≡ w.packets ++ ss)
sent_to t w c task [] = ([], sym (append-nil w.packets))
sent_to t w c task (g ∷ gs) =
    (starts (next_id w c) (record { floor = floor_of w c; groups = g ∷ gs; task = task }) (g ∷ gs), refl)

sent_where : (t : Layout) (w : World) (c : ℕ) (answer : Answer) →
    (ss : List Packet) × ((submitted t w c answer).packets ≡ w.packets ++ ss)
sent_where t w c (Now reply) = ([], sym (append-nil w.packets))
sent_where t w c (Go task) = sent_to t w c task (task_groups t task)

collected : (o : Standing) (old new : World) (c : ℕ) (e : Effect) → Collects o old c e new → new.packets ≡ old.packets
collected Closed old new c e is = absurd is
collected Idle old new c e is = ap (λ w. w.packets) is.1
collected Waiting old new c e is = ap (λ w. w.packets) is.1
collected (Answered outcome) old new c e is = ap (λ w. w.packets) is.1

-- a step leaves those that it doesn't bring to their groups, and sends others behind them
pub packets_after : (t : Layout) (old new : World) (s : Step) (e : Effect) → Steps t old s e new →
    (ss : List Packet) × (new.packets ≡ kept_at (arrival_in s) old.packets ++ ss)
packets_after t old new step.Open e is = ([], ap (λ w. w.packets) is.after ∙ sym (append-nil old.packets))
packets_after t old new (step.Submit conn words) e is =
    let sent = sent_where t (remembered old conn.0 words) conn.0 (answer_to old conn.0 words) in
    (sent.0, ap (λ w. w.packets) is.after ∙ sent.1)
packets_after t old new (step.Deliver k) e is = (is.sent, ap (λ w. w.packets) is.after)
packets_after t old new step.Take e is = ([], ap (λ w. w.packets) is.after ∙ sym (append-nil old.packets))
packets_after t old new (step.Run starved) e is = ([], ap (λ w. w.packets) is.after ∙ sym (append-nil old.packets))
packets_after t old new step.Settle e is = ([], ap (λ w. w.packets) is.after ∙ sym (append-nil old.packets))
packets_after t old new (step.Collect conn) e is =
    ([], collected (old.standing conn.0) old new conn.0 e is ∙ sym (append-nil old.packets))
packets_after t old new (step.Close conn) e is = ([], ap (λ w. w.packets) is.after ∙ sym (append-nil old.packets))
packets_after t old new (step.Repeat k) e is = (is.packet ∷ [], ap (λ w. w.packets) is.after)

-- ---- the layer

sent_layer : (t : Layout) (w : World) (c : ℕ) (task : Task) (gs : List ℕ) → (submitted_to w c task gs).layer ≡ w.layer
sent_layer t w c task [] = refl
sent_layer t w c task (g ∷ gs) = refl

-- a Submit and a Collect leave it
pub submitted_layer : (t : Layout) (w : World) (c : ℕ) (answer : Answer) → (submitted t w c answer).layer ≡ w.layer
submitted_layer t w c (Now reply) = refl
submitted_layer t w c (Go task) = sent_layer t w c task (task_groups t task)

pub collected_layer : (o : Standing) (old new : World) (c : ℕ) (e : Effect) → Collects o old c e new → new.layer ≡ old.layer
collected_layer Closed old new c e is = absurd is
collected_layer Idle old new c e is = ap (λ w. w.layer) is.1
collected_layer Waiting old new c e is = ap (λ w. w.layer) is.1
collected_layer (Answered outcome) old new c e is = ap (λ w. w.layer) is.1
