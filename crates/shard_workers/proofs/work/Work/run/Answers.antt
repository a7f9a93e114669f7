use Rattle.std.proofs.Common.{rules, ◌≡◌, ◌++◌, ◌∷◌, [], sym, ap, ◌∙◌, subst, refl}
use Rattle.std.proofs.Math.Seq.{append_snoc}
use Rattle.std.proofs.lemmas.List.{append-nil, nil_from_length}
use Rattle.std.specs.List.{AllByRecursion}
use Rattle.shard_workers.proofs.Turns.{ready_still}
use Rattle.shard_workers.specs.Runs.{HaveRunOver}
use Rattle.shard_workers.specs.PlacedJobs.{IsReadyFor}
use Rattle.shard_workers.proofs.work.Work.run.Goals as goal

pub loop-placed-preserved : goal.loop-placed-preserved
loop-placed-preserved g c =
    let is = c.in-Some.ensures.steps.0 in let inv = c.loop-placed.invariant in let table = c.args.table.now in let skip = c.args.skip.now in
    let ran = c.run_over-ran.result.0 in let left = c.run_over-ran.result.1.items in let shards = c.loop-placed.shards.items in
    let ready = subst (AllByRecursion (λ t. IsReadyFor table t shards)) is inv.ready in
    record {
      so_far = λ rs after rest.
          subst (λ l. HaveRunOver table skip c.args.self.jobs.items c.args.self.shards.items l after)
          (sym (ap (λ l. l ++ rs) c.in-Ok.ensures.items ∙ append_snoc c.loop-placed.rans.items ran rs))
          (inv.so_far (ran ∷ rs) after
          (subst (λ ts. HaveRunOver table skip ts shards (ran ∷ rs) after) (sym is) (left, c.run_over-ran.ensures, rest)));
      room = search rules;
      ready = ready_still table skip c.in-Some.placed ran shards left c.next.new.self.rest.items c.run_over-ran.ensures ready.1;
    }

pub returns : goal.returns
returns g c =
    let table = c.args.table.now in let skip = c.args.skip.now in let shards = c.loop-placed.shards.items in
    let none : c.loop-placed.placed-iterator.rest.items ≡ [] = nil_from_length _ (search rules) in
    subst (λ l. HaveRunOver table skip c.args.self.jobs.items c.args.self.shards.items l shards) (append-nil _)
    (c.loop-placed.invariant.so_far [] shards (subst (λ ts. HaveRunOver table skip ts shards [] shards) (sym none) refl))
