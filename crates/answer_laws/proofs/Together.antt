-- What requests of several threads are told together.
use Rattle.std.proofs.Common.{ℕ, List, [], sym, subst}
use mathlib.Core.List.{IsPrefix}
use Rattle.answer_laws.proofs.Order.{begins_in, real_time}
use Rattle.answer_laws.proofs.Standing.{one_history, stands}
use Rattle.answer_laws.specs.Asking.{IsAnswered, IsTold, StandTogether}
use Rattle.answer_laws.specs.Standing.{EndsBefore}
use Rattle.journal.specs.declared.step.Step.{Step}
use Rattle.placement.specs.Layout.{Layout}
use Rattle.resp.specs.Content.{Content}
use Rattle.world.specs.Steps.{opening, Leads}
use Rattle.world.specs.World.{World}

module _ (t : Layout) (all : List Step) (w : World) (leads : Leads t opening all w) where
  saw_in : (before : List Step) (ws : List (List ℕ)) (a : Content) (seen : List Step) (asked : IsAnswered t before ws a seen)
      (more : List Step) → IsPrefix seen more → IsPrefix asked.new.seen more
  saw_in before ws a seen asked more begins = subst (λ l. IsPrefix l more) (sym asked.saw) begins

  abbrev told : (before : List Step) (ws : List (List ℕ)) (a : Content) (seen : List Step) → IsAnswered t before ws a seen →
      IsPrefix seen all → IsTold t all w (ws, a)
  told before ws a seen asked begins = record {
    outcome = asked.replied.outcome;
    answer = asked.replied.reply;
    stands = stands t asked.old asked.new ws a asked.replied all w leads (saw_in before ws a seen asked all begins);
  }

  behind : (before both : List Step) (ws ws' : List (List ℕ)) (a a' : Content) (seen seen' : List Step)
      (asked : IsAnswered t before ws a seen) (then : IsAnswered t both ws' a' seen') → IsPrefix seen both → IsPrefix seen' all →
      EndsBefore w asked.replied.outcome.id then.replied.outcome.id
  behind before both ws ws' a a' seen seen' asked then learnt begins =
      real_time t all w leads asked.old asked.new then.old then.new ws ws' a a' asked.replied then.replied
      (begins_in asked.new.seen both then.old.seen (saw_in before ws a seen asked both learnt) then.behind)
      (saw_in both ws' a' seen' then all begins)

  -- two that were answered, and one that was asked behind both
  pub together : (both seen seen' seen'' : List Step) (ws ws' ws'' : List (List ℕ)) (a a' a'' : Content) → IsAnswered t [] ws a seen →
      IsAnswered t [] ws' a' seen' → IsAnswered t both ws'' a'' seen'' → IsPrefix seen both → IsPrefix seen' both → IsPrefix both all →
      IsPrefix seen'' all → StandTogether t all (ws, a) (ws', a') (ws'', a'')
  together both seen seen' seen'' ws ws' ws'' a a' a'' one other then p p' q q' = record {
    world = w;
    leads = leads;
    one_thread = (one_history t all w leads).one_thread;
    of_first = told [] ws a seen one (begins_in seen both all p q);
    of_second = told [] ws' a' seen' other (begins_in seen' both all p' q);
    of_last = told both ws'' a'' seen'' then q';
    behind_first = behind [] both ws ws'' a a'' seen seen'' one then p q';
    behind_second = behind [] both ws' ws'' a' a'' seen' seen'' other then p' q';
  }
