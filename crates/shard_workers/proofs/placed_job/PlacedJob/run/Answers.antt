use Rattle.std.proofs.Common.{refl, sym, ap, ◌∙◌, subst}
use Rattle.std.proofs.lemmas.Bool.{both_ways}
use Rattle.groups.specs.Skips.{parts_of}
use Rattle.tasks.specs.Tasks.{task_takes_memory, MembersStarveRightly}
use Rattle.shard_workers.proofs.Turns.{map_ran, starves, answers}
use Rattle.shard_workers.specs.PlacedJobs.{outcome, MapRan}
use Rattle.shard_workers.proofs.placed_job.PlacedJob.run.Goals as goal

pub returns : goal.returns
returns g c =
    let before = g.K.Keyspace.contents c.args.keyspace.now in let after = g.K.Keyspace.contents c.answer_batch-outcome.new.keyspace in
    let run = c.into_parts-words.result.1 in let asked = c.into_parts-words.ensures.batch in
    let is = ap outcome (sym c.ok.ensures.value) in
    record {
      ran = record {
        place = refl;
        id = refl;
        stamp = refl;
        groups = refl;
        words = c.into_parts-words.ensures.words;
        ran = subst (λ x. MapRan x before (outcome c.ok.result) after) asked
            (subst (λ o. MapRan run before o after) is
            (map_ran run before after c.answer_batch-outcome.result c.answer_batch-outcome.ensures.done));
        skipped = λ e. absurd (both_ways _ (sym c.names_whole.ensures ∙ c.if-names_whole.false) e);
        starved = λ _ none. subst (λ x. task_takes_memory x before) asked
            (starves c.answer_batch-outcome.result c.answer_batch-outcome.ensures.starves (is ∙ none));
        members = λ reply e. subst (λ x. MembersStarveRightly (parts_of c.args.skip.now c.args.self.job.id) x before reply) asked
            (answers (MembersStarveRightly (parts_of c.args.skip.now c.args.self.job.id) run before) c.answer_batch-outcome.result
            c.answer_batch-outcome.ensures.members reply (is ∙ e));
      };
    }
