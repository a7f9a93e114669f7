use Rattle.std.proofs.Common.{arith, ◌≡◌, [], length, drop, sym, ap, ◌∙◌, subst}
use Rattle.std.proofs.Math.Seq.{drop-cons, drop-length}
use Rattle.std.proofs.lemmas.List.{append-nil}
use Rattle.shard_exec.specs.Dealing.{CanTake}
use Rattle.shard_exec.specs.Layers.{TookJobs}
use Rattle.shard_exec.proofs.taking.take_jobs.Goals as goal

pub take_job-requires : goal.take_job-requires
take_job-requires c =
    (subst (CanTake c.loop-place.slots.items) (drop-cons c.args.places.now c.loop-place.place-index 0 (omega arith))
    c.loop-place.invariant.there).0

pub returns-clause-took : goal.returns-clause-took
returns-clause-took c =
    let none : drop c.loop-place.place-index c.args.places.now ≡ [] =
    (let end : c.loop-place.place-index ≡ length c.args.places.now = omega arith in ap (λ k. drop k c.args.places.now) end
    ∙ drop-length c.args.places.now) in
    subst (TookJobs c.args.slots.now.items c.args.places.now) (append-nil _)
    (c.loop-place.invariant.took [] (subst (λ is. TookJobs c.loop-place.slots.items is []) (sym none) tt))
