use Rattle.std.proofs.Common.{rules, ◌≡◌, ℕ, zero, suc, ◌<◌, List, [], ◌∷◌, length, get_or, arith, refl, sym, ap, ◌∙◌, subst}
use Rattle.groups.specs.GroupSet.{IsAscending, has}
use Rattle.placement.specs.Layout.{shard_of}
use Rattle.tasks.specs.Tasks.{task_keys}
use Rattle.tasks.proofs.Groups.{has-task_groups-key, IsAscending-task_groups}
use Rattle.shard_workers.proofs.Turns.{one_over}
use Rattle.shard_workers.proofs.placed_job.PlacedJob.run_over.Goals as goal

any_default : {X : Type 0} (xs : List X) (k : ℕ) (d e : X) → k < length xs → get_or xs k d ≡ get_or xs k e
any_default [] k d e below = absurd (omega (arith, below))
any_default (x ∷ xs) zero d e below = refl
any_default (x ∷ xs) (suc k) d e below = any_default xs k d e (omega (arith, below))

pub run_on_all-requires-clause-shards : goal.run_on_all-requires-clause-shards
run_on_all-requires-clause-shards g c = record {
  numbers = refl;
  ascending = subst IsAscending (sym (c.requires.numbers ∙ c.requires.groups))
      (IsAscending-task_groups c.args.table.now c.args.self.job.asked.batch);
  own = c.requires.own;
}

pub run_on_all-requires-clause-keys : goal.run_on_all-requires-clause-keys
run_on_all-requires-clause-keys g c k d below =
    let task = c.args.self.job.asked.batch in
    let key = get_or (task_keys task) k d in
    ap (λ gs. has gs (shard_of c.args.table.now key)) (c.requires.numbers ∙ c.requires.groups)
    ∙ has-task_groups-key c.args.table.now task key c.requires.is_table (k, below, any_default (task_keys task) k _ d below)

pub returns : goal.returns
returns g c = record {
  numbers = c.run_on_all.ensures.shards.numbers;
  own = c.run_on_all.ensures.shards.own;
  on = c.run_on_all.ensures.ran;
}

pub returns-then-len-eq1 : goal.returns-then-len-eq1
returns-then-len-eq1 g c =
    let one : length c.args.shards.items ≡ 1 = search rules in
    one_over c.args.table.now c.args.skip.now c.args.self c.run_on_one.result.0 c.args.shards.items c.run_on_one.result.1.items c.requires one
    c.run_on_one.ensures.number c.run_on_one.ensures.ran
