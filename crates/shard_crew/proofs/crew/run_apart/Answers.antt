use Rattle.std.proofs.Common.{rules, ◌≡◌, ◌++◌, ◌∷◌, [], length, subst, sym}
use Rattle.std.specs.List.{AllZip}
use Rattle.shard_workers.specs.Loads.{HasRunLoad}
use Rattle.shard_workers.proofs.Zips.{zip_push, zip_length, zip_then}
use Rattle.shard_crew.proofs.crew.run_apart.Goals as goal

pub join_all-all-requires-clause-room : goal.join_all-all-requires-clause-room
join_all-all-requires-clause-room g c =
    let n : length c.in-Some-start_all.children.items ≡ length c.pop.new.self.items = zip_length _ _ _ c.in-Some-start_all.ensures in
    search rules

pub unreachable-requires : goal.unreachable-requires
unreachable-requires g c =
    let n : length c.in-Some-start_all.children.items ≡ length c.pop.new.self.items = zip_length _ _ _ c.in-Some-start_all.ensures in
    let m : length c.join_all-all.result.items ≡ length c.in-Some-start_all.children.items = zip_length _ _ _ c.join_all-all.ensures.each in
    search rules

pub returns : goal.returns
returns g c =
    let each : AllZip (HasRunLoad c.args.table.now c.args.starting.skip.now) c.pop.new.self.items c.join_all-all.result.items =
    zip_then _ _ (HasRunLoad c.args.table.now c.args.starting.skip.now)
    (λ p h r of ran. subst (λ names. HasRunLoad c.args.table.now names p r) of.2
    (subst (λ t. HasRunLoad t h.promise.skip.value.now p r) of.1
    (subst (λ q. HasRunLoad h.promise.table.value h.promise.skip.value.now q r) of.0 ran)))
    _ _ _ c.in-Some-start_all.ensures c.join_all-all.ensures.each in
    let all = zip_push
    (HasRunLoad c.args.table.now c.args.starting.skip.now) _ _ c.in-Some.last c.run-mine.result each c.run-mine.ensures in
    let whole : c.args.loads.items ≡ c.pop.new.self.items ++ c.in-Some.last ∷ [] = search rules in
    subst (λ l. AllZip (HasRunLoad c.args.table.now c.args.starting.skip.now) l c.push.new.self.items) (sym whole)
    (subst (AllZip (HasRunLoad c.args.table.now c.args.starting.skip.now) _) (sym c.in-Ok.ensures.items) all)
