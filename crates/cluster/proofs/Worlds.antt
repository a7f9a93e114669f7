-- How many requests a connection has submitted in the world of some steps.
use Rattle.std.proofs.Common.{◌≡◌, ℕ, suc, ◌+◌, ◌==◌, cond, List, [], ◌∷◌, refl, ap, ◌∙◌, arith, inl, inr, eqb-true}
use Rattle.std.proofs.lemmas.Bool.{cond-true, cond-false, cases_Bool}
use Rattle.cluster.specs.Submits.{submit_by, submits_by}
use Rattle.journal.specs.declared.step.Step.{Step}
use Rattle.journal.specs.declared.step.Step.TheVariants.{Submit, Collect}
use Rattle.placement.specs.Layout.{Layout}
use Rattle.sessions.specs.Session.{Answer, Now, Go, asks}
use Rattle.tasks.specs.Tasks.{Task, task_groups}
use Rattle.world.specs.Steps.{at, opening, Effect, Collects, Steps, Makes, Leads, submitted, submitted_to, in_session}
use Rattle.world.specs.World.{World, Standing, Closed}
use Rattle.world_laws.proofs.DeterminedLaws.{histories_determine}

-- ---- how many requests a connection has submitted

submitted_to_seq : (w : World) (c : ℕ) (task : Task) (gs : List ℕ) → (submitted_to w c task gs).seq ≡ at w.seq c (suc (w.seq c))
submitted_to_seq w c task [] = refl
submitted_to_seq w c task (g ∷ gs) = refl

submitted_seq : (t : Layout) (w : World) (c : ℕ) (a : Answer) → (submitted t w c a).seq ≡ at w.seq c (suc (w.seq c))
submitted_seq t w c (Now reply) = refl
submitted_seq t w c (Go task) = submitted_to_seq w c task (task_groups t task)

one_more_at : (f : ℕ → ℕ) (c d : ℕ) → at f d (suc (f d)) c ≡ f c + cond (c == d) 1 0
one_more_at f c d = elim (cases_Bool (c == d)) [
  | inl here ↦
      let same = ap f (eqb-true c d here) in
      let one : cond {A = ℕ} (c == d) 1 0 ≡ 1 = cond-true (c == d) 1 0 here in
      cond-true (c == d) (suc (f d)) (f c) here ∙ omega arith
  | inr else' ↦ cond-false (c == d) (suc (f d)) (f c) else' ∙ (let none : cond {A = ℕ} (c == d) 1 0 ≡ 0 = cond-false (c == d) 1 0 else' in
      omega arith)
]

collects_seq : (w w' : World) (c : ℕ) (standing : Standing) (e : Effect) → Collects standing w c e w' → w'.seq ≡ w.seq
collects_seq w w' c Closed e step = absurd step
collects_seq w w' c standing e step = ap (λ v. v.seq) step.1

none_more : (f g : ℕ → ℕ) (c : ℕ) → f ≡ g → f c ≡ g c + 0
none_more f g c same = let k = ap (λ (h : ℕ → ℕ). h c) same in omega arith

pub step_seq : (t : Layout) (w w' : World) (s : Step) (e : Effect) (c : ℕ) → Steps t w s e w' → w'.seq c ≡ w.seq c + submit_by c s
step_seq t w w' (Submit conn words) e c step =
    let came = asks (w.session conn.0) words in
    ap (λ v. v.seq c) step.after
    ∙ (ap (λ (f : ℕ → ℕ). f c) (submitted_seq t (in_session w conn.0 came.0) conn.0 came.1) ∙ one_more_at w.seq c conn.0)
step_seq t w w' (Collect conn) e c step = none_more w'.seq w.seq c (collects_seq w w' conn.0 (w.standing conn.0) e step)
step_seq t w w' s e c step = none_more w'.seq w.seq c (ap (λ v. v.seq) step.after)

pub makes_seq : (t : Layout) (c : ℕ) (h : List Step) (es : List Effect) (w w' : World) → Makes t w h es w' →
    w'.seq c ≡ w.seq c + submits_by c h
makes_seq t c [] es w w' made = none_more w'.seq w.seq c (ap (λ v. v.seq) made.1)
makes_seq t c (s ∷ h) [] w w' made = absurd made
makes_seq t c (s ∷ h) (e ∷ es) w w' made =
    let one = step_seq t w made.0 s e c made.1 in
    let more = makes_seq t c h es made.0 w' made.2 in
    omega arith

-- in the world of a trace it is the number of its Submits
pub counts : (t : Layout) (h : List Step) (w : World) (c : ℕ) → Leads t opening h w → w.seq c ≡ submits_by c h
counts t h w c leads = let k = makes_seq t c h leads.0 opening w leads.1 in omega arith

-- the steps lead to one world
pub same_world : (t : Layout) (steps : List Step) (w w' : World) → Leads t opening steps w → Leads t opening steps w' → w ≡ w'
same_world t steps w w' here there = (histories_determine t opening w w' steps here.0 there.0 here.1 there.1).1
