-- A step that hands a layer out, and what a history is at its beginning.
use Rattle.std.proofs.Common.{◌≡◌, ℕ, List, [], ◌∷◌, ◌++◌, map, Option, refl, sym, ap, ◌∙◌, subst, append-nil, arith, length-append}
use Rattle.front.specs.Fronts.{FrontView, IsNew}
use Rattle.front.specs.Taking.{Takes}
use Rattle.journal.specs.declared.step.Step.{Step}
use Rattle.journal.specs.declared.step.Step.TheVariants.{Take}
use Rattle.layer_planner.specs.declared.job.Job.{Job}
use Rattle.cluster.specs.declared.tape.Tape.{Tape}
use Rattle.order_laws.proofs.TakeLaws.{out_is_of_last_take}
use Rattle.order_laws.proofs.Yielding.{one_more}
use Rattle.order_laws.specs.Layers.{Yields, run_by}
use Rattle.order_laws.specs.Takes.{HandsOut}
use Rattle.order_laws.specs.Truth.{AreRunsOf}
use Rattle.cluster.proofs.Numbers.{number_is}
use Rattle.cluster.specs.Histories.{HistoryView, IsTrueIn, IsLawful}
use Rattle.cluster.specs.Sealed.{IsTaken}
use Rattle.serial_store.specs.Serial.{layer_of}
use Rattle.placement.specs.Layout.{Layout}
use Rattle.groups.proofs.Options.{some_same}
use Rattle.shard_exec.specs.Layers.{AddressTheirGroups}
use Rattle.skeen_core.specs.declared.packet.Delivered.{Delivered}
use Rattle.front.proofs.WorldJobs.{all_jobs}
use Rattle.front.specs.Layers.{AreJobs}
use Rattle.tasks.specs.Tasks.{task_groups}
use Rattle.world.specs.Steps.{opening, Made, taken, Leads}
use Rattle.world.specs.World.{World, Request, Taken}
use Rattle.world_laws.proofs.ConditionLaws.{layer_is_submitted}
use Rattle.world_laws.proofs.Worlds.{good_world}

-- each request of a layer that waits addresses the groups that the table gives its batch
all_address : (t : Layout) (w : World) (steps : List Step) (layer : List Delivered) (js : List Job) → Leads t opening steps w
    → w.layer ≡ Taken layer → AreJobs w.asked layer js → AddressTheirGroups t js
all_address t w steps layer js leads is are =
    all_jobs (λ j. j.groups ≡ task_groups t j.asked.batch) w.asked layer js are (λ d j there job.
    let submitted = layer_is_submitted t w (good_world t steps w leads) layer is d there in
    let same : submitted.0 ≡ job.asked_so.0 =
    some_same submitted.0 job.asked_so.0 (sym submitted.1.submitted ∙ job.asked_so.1) in
    job.groups ∙ submitted.2 ∙ ap (λ (q : Request). task_groups t q.task) same ∙ ap (task_groups t) job.asked_so.2)

module _ (h : HistoryView) (w : World) (is : IsTrueIn h w) (jobs : List Job) (new : FrontView) (takes : Takes h.front jobs new) (most : ℕ)
    (trace : Option Tape) where
  abbrev pub later : HistoryView
  later = record { front = new; max_steps = most; steps = h.steps ++ Take ∷ []; ran = h.ran; trace = trace }

  pub take_leads : Leads h.front.table opening (h.steps ++ Take ∷ []) (taken w new.out)
  take_leads = let from = takes.from_each h.steps w is.at in
      subst (λ t. Leads t opening (h.steps ++ Take ∷ []) (taken w new.out)) takes.is_step.table from.2.leads

  pub taken_true : IsTrueIn later (taken w new.out)
  taken_true =
      let from = takes.from_each h.steps w is.at in
      record {
        at = from.2;
        not_run = tt;
        ran = subst (λ t. AreRunsOf t (h.steps ++ Take ∷ []) (taken w new.out) (map (layer_of t) h.ran)) (sym takes.is_step.table) (record {
          ended = is.ran.ended;
          runs = subst (λ l. Yields run_by h.front.table opening (h.steps ++ Take ∷ []) l (taken w new.out)) (append-nil is.ran.ended)
              (one_more run_by h.front.table opening w (taken w new.out) h.steps is.ran.ended Take Made is.ran.runs from.0);
          each = is.ran.each;
        });
        layers = takes.is_step.layers ∙ is.layers;
        counted = omega (arith, takes.is_step.steps, takes.is_step.layers, is.counted, length-append h.steps (Take ∷ []));
      }

  pub is_taken : IsTaken h.front.table (record { layer = jobs; number = new.layers; told = h.steps ++ Take ∷ [] })
  is_taken =
      let from = takes.from_each h.steps w is.at in
      record {
        world = taken w new.out;
        leads = take_leads;
        layer = new.out;
        hands_out = subst (λ n. HandsOut h.front.table (h.steps ++ Take ∷ []) n new.out)
            (sym (number_is later (taken w new.out) taken_true))
            (out_is_of_last_take h.front.table (h.steps ++ Take ∷ []) (taken w new.out) take_leads new.out refl);
        jobs = from.1;
        addressed = all_address h.front.table (taken w new.out) (h.steps ++ Take ∷ []) new.out jobs take_leads refl from.1;
      }

-- ---- a history

-- no step was made
pub none_true : (f : FrontView) (t : Layout) (most : ℕ) (trace : Option Tape) → IsNew t f →
    IsTrueIn (record { front = f; max_steps = most; steps = []; ran = []; trace = trace }) opening
none_true f t most trace is = record {
  at = is.at;
  not_run = tt;
  ran = record { ended = []; runs = (refl, refl); each = refl };
  layers = is.no_layers;
  counted = omega (arith, is.no_steps, is.no_layers);
}

pub lawful : (h : HistoryView) (w : World) → IsTrueIn h w → IsLawful h
lawful h w is = record {
  world = w;
  leads = is.at.leads;
  connections = is.at.shows.connections;
  multicast = is.at.shows.multicast;
  out = is.at.shows.out;
  ran = is.ran;
}
