-- A request that is submitted and handed out at once: the histories between are such as each is.
use Rattle.std.proofs.Common.{◌≡◌, ℕ, zero, suc, ◌+◌, ◌<◌, List, [], ◌∷◌, ◌++◌, length, Option, Some, None, refl, sym, ap, subst, arith}
use Rattle.std.proofs.Common.{append-nil, append_assoc, length-append, ◌∙◌}
use Rattle.std.proofs.Math.Seq.{append_snoc}
use Rattle.cluster.proofs.Histories.{history, AreLegal, kept_few, history_made, was_made, made_legal, history_taken, hands_out, take_legal}
use Rattle.cluster.proofs.Histories.{layer_sealed}
use Rattle.cluster.proofs.Taking.{lawful}
use Rattle.cluster.specs.Histories.{HistoryView, kept_for, IsHistory, IsMade}
use Rattle.cluster.specs.Passing.{Arrives, arrivals, HasPassed}
use Rattle.cluster.specs.Sealed.{TakenView, IsTaken}
use Rattle.cluster.specs.Traces.{ArePushed, IsPushed}
use Rattle.cluster.specs.declared.tape.Tape.{Tape}
use Rattle.cluster.specs.declared.ordered.TheConstants.{STEPS_PASSED}
use Rattle.front.specs.Fronts.{FrontView}
use Rattle.front.specs.Making.{Makes}
use Rattle.front.specs.Passing.{Passes, TakesAtOnce, packets_in}
use Rattle.front.specs.Passing as front
use Rattle.groups.specs.declared.request.ConnId.{ConnId}
use Rattle.groups.specs.declared.request.RequestId.{RequestId}
use Rattle.journal.specs.declared.step.Step.{Step}
use Rattle.journal.specs.declared.step.Step.TheVariants.{Submit, Deliver, Take}
use Rattle.layer_planner.specs.declared.job.Job.{Job}
use Rattle.placement.specs.Layout.{Layout}
use Rattle.world.specs.Steps.{Submitted, Made}

-- ---- the trace between

-- the trace with these steps behind the others, where one is kept
abbrev pub longer : Option Tape → List Step → Option Tape
longer None steps = None
longer (Some t) steps = Some (record t { rest = record t.rest { steps = t.rest.steps ++ steps } })

pub longer-none : (trace : Option Tape) → longer trace [] ≡ trace
longer-none None = refl
longer-none (Some t) = ap (λ l. Some (record t { rest = record t.rest { steps = l } })) (append-nil t.rest.steps)

pub longer-twice : (trace : Option Tape) (some more : List Step) → longer (longer trace some) more ≡ longer trace (some ++ more)
longer-twice None some more = refl
longer-twice (Some t) some more =
    ap (λ l. Some (record t { rest = record t.rest { steps = l } })) (append_assoc t.rest.steps some more)

pub one_longer : (trace : Option Tape) (step : Step) → IsPushed trace step (longer trace (step ∷ []))
one_longer None step = tt
one_longer (Some t) step = (refl, refl, refl)

-- what was pushed at once was pushed one behind another
pub last_pushed : (trace new : Option Tape) (some : List Step) (step : Step) → ArePushed trace (some ++ step ∷ []) new →
    IsPushed (longer trace some) step new
last_pushed None None some step pushed = tt
last_pushed (Some t) (Some n) some step pushed =
    (pushed.0, pushed.1 ∙ sym (append_assoc t.rest.steps some (step ∷ [])), pushed.2)
last_pushed None (Some n) some step pushed = absurd pushed
last_pushed (Some t) None some step pushed = absurd pushed

-- ---- the Submit's parts

abbrev passes_of : FrontView → Step → RequestId → Option (List Job) → FrontView → Type 0
passes_of f (Submit conn words) id o new = Passes f conn words id o new
passes_of f step id o new = ⊥

-- what a Submit is taken apart to passes as the Submit does
pub passed_so : (f new : FrontView) (conn conn' : ConnId) (words words' : List (List ℕ)) (id : RequestId) (o : Option (List Job)) →
    Submit conn words ≡ Submit conn' words' → Passes f conn' words' id o new → Passes f conn words id o new
passed_so f new conn conn' words words' id o same passes = subst (λ s. passes_of f s id o new) (sym same) passes

-- as many steps are left as a request wants that is handed out at once
abbrev pub IsLeft : HistoryView → Type 0
IsLeft h = length h.steps + STEPS_PASSED + 1 < h.max_steps

-- ---- packets that come one after another

pub one_more_arrival : (n : ℕ) → arrivals n ++ Deliver 0 ∷ [] ≡ arrivals (suc n)
one_more_arrival zero = refl
one_more_arrival (suc n) = ap (λ l. Deliver 0 ∷ l) (one_more_arrival n)

-- all that is written of them, and of the Take, is behind the steps before
pub told_all : (now first : List Step) (packets n : ℕ) → now ≡ first → packets ≡ n
    → now ++ (arrivals packets ++ Take ∷ []) ≡ (first ++ arrivals n) ++ Take ∷ []
told_all now first packets n is same = ap (λ l. l ++ (arrivals packets ++ Take ∷ [])) is
    ∙ ap (λ m. first ++ (arrivals m ++ Take ∷ [])) same ∙ sym (append_assoc first (arrivals n) (Take ∷ []))

length-arrivals : (n : ℕ) → length (arrivals n) ≡ n
length-arrivals zero = refl
length-arrivals (suc n) = ap suc (length-arrivals n)

abbrev after : HistoryView → ℕ → FrontView → HistoryView
after h n f = history f h.max_steps (h.steps ++ arrivals n) h.ran (longer h.trace (arrivals n))

-- each history between is such as each is
pub record HaveArrived (t : Layout) (h : HistoryView) (n : ℕ) (f : FrontView) : Type 0 where
  pub is : IsHistory t (after h n f)
  pub arrives : Arrives n h (after h n f)

arrive : (t : Layout) (n : ℕ) (h : HistoryView) (f : FrontView) → IsHistory t h → length h.steps + n + 2 < h.max_steps
    → front.Arrives n h.front f → HaveArrived t h n f
arrive t zero h f is few same =
    let still : after h 0 f ≡ h =
    λ k. history (same k) h.max_steps (append-nil h.steps k) h.ran (longer-none h.trace k) in record {
      is = subst (IsHistory t) (sym still) is;
      arrives = still;
    }
arrive t (suc n) h f is few (mid, makes, rest) =
    let left : length h.steps + kept_for h.front.out < h.max_steps = omega (arith, kept_few h.front.out, few) in
    let trace = longer h.trace (Deliver 0 ∷ []) in
    let pushed = one_longer h.trace (Deliver 0) in
    let one = history mid h.max_steps (h.steps ++ Deliver 0 ∷ []) h.ran trace in
    let is_one = history_made t h is (Deliver 0) tt Made mid makes h.max_steps trace left refl pushed in
    let made = was_made t h is (Deliver 0) tt Made mid makes h.max_steps trace left refl pushed in
    let others = arrive t n one f is_one (omega (arith, few, length-append h.steps (Deliver 0 ∷ []))) rest in
    let same : after one n f ≡ after h (suc n) f =
    λ k. history f h.max_steps (append_snoc h.steps (Deliver 0) (arrivals n) k) h.ran
    (longer-twice h.trace (Deliver 0 ∷ []) (arrivals n) k) in
    record {
      is = subst (IsHistory t) same others.is;
      arrives = (one, record { place = 0; made = made; picked = refl }, subst (Arrives n one) same others.arrives);
    }

module _ (t : Layout) (h : HistoryView) (is : IsHistory t h) (left : IsLeft h) (conn : ConnId) (words : List (List ℕ)) (id : RequestId)
    (trace : Option Tape) (pushed : IsPushed h.trace (Submit conn words) trace) where
  few : length h.steps + kept_for h.front.out < h.max_steps
  few = omega (arith, kept_few h.front.out, left)

  -- ---- a Submit alone

  module _ (f : FrontView) (makes : Makes h.front (Submit conn words) (Submitted id) f) where
    abbrev pub begun : HistoryView
    begun = history f h.max_steps (h.steps ++ Submit conn words ∷ []) h.ran trace

    pub begun_legal : AreLegal t begun.steps
    begun_legal = made_legal t h is (Submit conn words) tt (Submitted id) f makes

    pub is_begun : IsHistory t begun
    is_begun = history_made t h is (Submit conn words) tt (Submitted id) f makes h.max_steps trace few refl pushed

    pub submitted : IsMade h (Submit conn words) (Submitted id) begun
    submitted = was_made t h is (Submit conn words) tt (Submitted id) f makes h.max_steps trace few refl pushed

    pub has_begun : (seen : List Step) → seen ≡ begun.steps → HasPassed h conn words id seen None begun
    has_begun seen up_to = record { begun = begun; made = submitted; up_to = up_to; goes_on = refl }

  -- ---- all of it

  module _ (jobs : List Job) (new : FrontView) (passes : TakesAtOnce h.front conn words id jobs new) where
    abbrev pub first : HistoryView
    first = begun passes.begun passes.submits

    have_arrived : HaveArrived t first (packets_in jobs) passes.come
    have_arrived = arrive t (packets_in jobs) first passes.come (is_begun passes.begun passes.submits)
        (omega (arith, left, passes.few, length-append h.steps (Submit conn words ∷ []))) passes.arrives

    abbrev pub come : HistoryView
    come = after first (packets_in jobs) passes.come

    is_come : IsHistory t come
    is_come = have_arrived.is

    come_left : length come.steps + 2 < h.max_steps
    come_left = omega (
      arith,
      left,
      passes.few,
      length-arrivals (packets_in jobs),
      length-append first.steps (arrivals (packets_in jobs)),
      length-append h.steps (Submit conn words ∷ []),
    )

    abbrev pub taken : Option Tape → HistoryView
    taken last = history new h.max_steps (come.steps ++ Take ∷ []) h.ran last

    pub taken_legal : AreLegal t (come.steps ++ Take ∷ [])
    taken_legal = take_legal t come is_come jobs new passes.takes

    pub sealed : IsTaken t (record { layer = jobs; number = new.layers; told = come.steps ++ Take ∷ [] })
    sealed = layer_sealed t come is_come jobs new passes.takes

    module _ (last : Option Tape) (all : ArePushed trace (arrivals (packets_in jobs) ++ Take ∷ []) last) where
      take_pushed : IsPushed come.trace Take last
      take_pushed = last_pushed trace last (arrivals (packets_in jobs)) Take all

      pub is_taken : IsHistory t (taken last)
      is_taken = history_taken t come is_come jobs new passes.takes h.max_steps last come_left refl take_pushed

      pub has_passed : (seen : List Step) (v : TakenView) → seen ≡ first.steps → v.layer ≡ jobs → v.number ≡ new.layers →
          v.told ≡ (taken last).steps → HasPassed h conn words id seen (Some v) (taken last)
      has_passed seen v up_to layer number told = record {
        begun = first;
        made = submitted passes.begun passes.submits;
        up_to = up_to;
        goes_on = record {
          come = come;
          arrives = subst (λ (js : List Job). Arrives (packets_in js) first come) (sym layer) have_arrived.arrives;
          lawful = lawful come is_come.world is_come.true_in;
          free = passes.free;
          ready = passes.ready;
          hands_out = hands_out t come is_come jobs new passes.takes h.max_steps last come_left refl take_pushed v layer number told;
        };
      }

  -- ---- whichever it is

  pub submit_legal : (o : Option (List Job)) (new : FrontView) → Passes h.front conn words id o new →
      AreLegal t (h.steps ++ Submit conn words ∷ [])
  submit_legal None new makes = begun_legal new makes
  submit_legal (Some jobs) new passes = begun_legal passes.begun passes.submits
