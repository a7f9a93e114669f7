-- A layer that is run with the names of what starved is run again as it was.
use Rattle.std.proofs.Common.{◌≡◌, cond, List, [], ◌∷◌, ◌++◌, inl, inr, Some, None, sym, ap, ◌∙◌, subst}
use Rattle.groups.specs.Skips.{names_whole, parts_of}
use Rattle.groups.specs.declared.skip_id.SkipId.{SkipId}
use Rattle.keyspace.specs.Map.{Map}
use Rattle.placement.specs.Layout.{Layout}
use Rattle.skeen_core.specs.Group.{EachOnce}
use Rattle.skeen_core.specs.declared.packet.Delivered.{Delivered}
use Rattle.tasks.specs.Tasks.{Task, deed_effect}
use Rattle.world.specs.Steps.{Ran, starved_among, ended_as, map_after, RunInTurn, RunsLayer}
use Rattle.world.specs.World.{World, Ended}
use Rattle.world_laws.specs.Determined.{RunsAgain}
use Rattle.world_laws.specs.Good.{Asked, RepliesOn, RepliesInTurn, WorldGood}
use Rattle.world_laws.specs.Order.{ids_of}
use Rattle.world_laws.proofs.Layers.{run_replies}
use Rattle.world_laws.proofs.Names.{Tells, IsAnswer, ends_again, TellsEach, starved_tell}
use Rattle.world_laws.proofs.OrderLaws.{once_good}
use Rattle.world_laws.proofs.Worlds.{keeps_run, good_world}

is_answer : (m : Map) (e : Ended) → RepliesOn m e → IsAnswer m e.task e.reply
is_answer m e (inl starved) = subst (λ r. IsAnswer m e.task r) (sym starved) tt
is_answer m e (inr answer) = subst (λ r. IsAnswer m e.task r) (sym answer.1) answer.2

one_again : (starved names : List SkipId) (m : Map) (d : Delivered) (task : Task) (e : Ended) → e ≡ ended_as starved m d task →
    RepliesOn m e → Tells names e.id e.task e.reply → e ≡ ended_as names m d task
one_again starved names m d task e is answers tells = λ i. record {
  id = ap (λ (x : Ended). x.id) is i;
  stamp = ap (λ (x : Ended). x.stamp) is i;
  groups = ap (λ (x : Ended). x.groups) is i;
  task = ap (λ (x : Ended). x.task) is i;
  reply = reply i;
}
  where
    reply : e.reply ≡ cond (names_whole names d.id) None (Some (deed_effect (task, parts_of names d.id) m).1)
    reply = ends_again names e.id e.task e.reply m tells (is_answer m e answers)
        ∙ ap (λ (x : Ended). cond (names_whole names x.id) None (Some (deed_effect (x.task, parts_of names x.id) m).1)) is

run_again : (asked : Asked) (starved names : List SkipId) (m : Map) (ds : List Delivered) (es : List Ended) →
    RunInTurn asked starved m ds es → RepliesInTurn m es → TellsEach names es → RunInTurn asked names m ds es
run_again asked starved names m [] es run answers tells = run
run_again asked starved names m (d ∷ ds) [] run answers tells = absurd run
run_again asked starved names m (d ∷ ds) (e ∷ es) run answers tells = (
  (run.0.0, run.0.1, one_again starved names m d run.0.0.task e run.0.2 answers.0 tells.0),
  run_again asked starved names (map_after e.reply e.task m) ds es run.1 answers.1 tells.1,
)

-- the last ones of different ids differ
once_behind : (xs ys : List Ended) → EachOnce (ids_of (xs ++ ys)) → EachOnce (ids_of ys)
once_behind [] ys once = once
once_behind (x ∷ xs) ys once = once_behind xs ys once.1

-- the requests of a layer that was run have different ids
pub once_run : (t : Layout) (old new : World) (starved names : List SkipId) → WorldGood t old →
    (run : RunsLayer old starved (Ran names) new) → EachOnce (ids_of run.outcomes)
once_run t old new starved names good run = once_behind old.ended run.outcomes
    (subst (λ es. EachOnce (ids_of es)) (ap (λ (w : World). w.ended) run.after)
    (once_good t new (keeps_run t old new starved (Ran names) run good)))

same_ran : (names names' : List SkipId) → Ran names ≡ Ran names' → names ≡ names'
same_ran names names' e = cc

pub runs_again : RunsAgain
runs_again t steps old new starved names leads run = record {
  layer = run.layer;
  outcomes = run.outcomes;
  there = run.there;
  in_turn = run_again old.asked starved names old.contents run.layer run.outcomes run.in_turn
      (run_replies old.asked starved old.contents run.layer run.outcomes run.in_turn)
      (subst (λ l. TellsEach l run.outcomes) (sym (same_ran names (starved_among run.outcomes) run.answers))
      (starved_tell run.outcomes (once_run t old new starved names (good_world t steps old leads) run)));
  answers = run.answers;
  after = run.after;
}
