-- The law of what came of the layers, and of the contents, is kept.
use Rattle.std.proofs.Common.{◌≡◌, List, [], ◌∷◌, ◌++◌, length, map, append-nil, inl, inr, refl, sym, ap, ◌∙◌, subst}
use Rattle.std.proofs.lemmas.Bool.{both_ways}
use Rattle.std.proofs.lemmas.Grind.{flat_map-append}
use Rattle.std.proofs.lemmas.List.{map_push}
use Rattle.std.specs.FinMap.{empty}
use Rattle.back.proofs.Behind.{WereExecuted, IsBehind, run_behind}
use Rattle.back.proofs.Executed.{executed_in}
use Rattle.tasks.specs.Starved.{starved_in}
use Rattle.execution_order.specs.Entries.{Row, entries_of, AreAddressed}
use Rattle.execution_order.specs.Rows.{IsOneThread}
use Rattle.execution_order.specs.Serial.{RanLayer, all_rows, IsSerial}
use Rattle.groups.proofs.Lists.{In-append}
use Rattle.groups.specs.Order.{In}
use Rattle.groups.specs.declared.skip_id.SkipId.{SkipId}
use Rattle.layer_planner.specs.declared.job.Job.{Job}
use Rattle.layer_results.specs.declared.done.DoneRow.{DoneRow}
use Rattle.placement.specs.Layout.{Layout}
use Rattle.serial_store.proofs.Came.{rows_came, starved_told}
use Rattle.serial_store.specs.Runs.{RunsLayer, Fails, RefusesLayer}
use Rattle.serial_store.specs.Serial.{layer_of, rows_in, AreSerial}
use Rattle.serial_store.specs.Stores.{IsSerialStore}
use Rattle.shard_exec.specs.Layers.{AddressTheirGroups}
use Rattle.shard_exec.specs.StoreStates.{StoreState, IsStore}
use Rattle.shard_exec.specs.Stores.{empty_store}
use Rattle.shard_exec.specs.declared.done.ExecFault.{ExecFault}
use Rattle.shard_exec.specs.declared.done.ExecFault.TheVariants.{Stale, Memory, Failed, Foreign}
use Rattle.shards.proofs.Empty.{joined-empty}
use Rattle.shards.specs.Joined.{joined}

-- ---- nothing was run yet

abbrev pub none_serial : (table : Layout) → AreSerial table []
none_serial table = record {
  addressed = λ e there. absurd there;
  in_order = tt;
  told = λ row there. absurd there;
  left = empty;
  in_turn = refl;
}

new_lawful : (table : Layout) → IsSerialStore table (empty_store table) []
new_lawful table = record {
  lawful = record { table = refl; serial = none_serial table; contents = λ _. joined-empty table.shards };
  reached = λ _ e g there. absurd there;
}

pub new_kept : (table given : Layout) (store : StoreState) (runs : List (List DoneRow)) → given ≡ table → store ≡ empty_store given
    → runs ≡ [] → (0 ≡ length runs) × IsSerialStore table store runs
new_kept table given store runs same is none =
    let is_new = is ∙ ap empty_store same in (
      ap (λ (l : List (List DoneRow)). length l) (sym none),
      subst (λ (s : StoreState). IsSerialStore table s runs) (sym is_new)
          (subst (IsSerialStore table (empty_store table)) (sym none) (new_lawful table)),
    )

-- ---- a layer was run

module _ (table : Layout) (old new : StoreState) (runs : List (List DoneRow)) (skip : List SkipId) (layer : List Job)
    (done : List DoneRow) (is_store : IsStore old) (ran : RunsLayer old skip layer done new) (was : IsSerialStore table old runs) where
  abbrev before : List RanLayer
  before = map (layer_of table) runs

  abbrev after : List RanLayer
  after = map (layer_of table) (runs ++ done ∷ [])

  abbrev more : List Row
  more = executed_in layer ran.ended

  abbrev it : IsSerial table before
  it = was.lawful.serial

  its : AddressTheirGroups table layer
  its = subst (λ (t : Layout). AddressTheirGroups t layer) was.lawful.table ran.addressed

  rows_now : rows_in table done ≡ more
  rows_now = ap (rows_in table) ran.done ∙ rows_came table layer ran.ended its ran.ran.done.told

  all_behind : all_rows after ≡ all_rows before ++ more
  all_behind =
      ap all_rows (map_push (layer_of table) runs done)
      ∙ flat_map-append (λ (l : RanLayer). l.rows) before (layer_of table done ∷ [])
      ∙ ap (λ rows. all_rows before ++ rows) (append-nil (rows_in table done) ∙ rows_now)

  behind : IsBehind old new (all_rows before) more
  behind = run_behind old new skip layer ran.ended is_store ran.may_stand ran.addressed ran.ran (all_rows before)
      (record {
        addressed = subst (λ (t : Layout). AreAddressed t (entries_of (all_rows before))) (sym was.lawful.table) it.addressed;
        in_order = it.in_order;
        in_turn = subst (λ m. IsOneThread m (all_rows before)) (sym (was.lawful.contents ran.ran.lives)) it.in_turn;
        reached = was.reached ran.ran.lives;
      })

  executed : WereExecuted new (all_rows after)
  executed = subst (WereExecuted new) (sym all_behind) behind

  table_is : new.table ≡ table
  table_is = ran.ran.table ∙ was.lawful.table

  told : (row : Row) → In row (all_rows before ++ more) → row.entry.starved ≡ starved_in row.entry.task row.reply
  told row there = elim (In-append row (all_rows before) more there) [
    | inl first ↦ it.told row first
    | inr later ↦ starved_told layer ran.ended row later
  ]

  abbrev serial : IsSerial table after
  serial = record {
    addressed = subst (λ (t : Layout). AreAddressed t (entries_of (all_rows after))) table_is executed.addressed;
    in_order = executed.in_order;
    told = λ row there. told row (subst (In row) all_behind there);
    left = joined new.maps;
    in_turn = executed.in_turn;
  }

  pub run_serial : AreSerial table (runs ++ done ∷ [])
  run_serial = serial

  run_kept : IsSerialStore table new (runs ++ done ∷ [])
  run_kept = record {
    lawful = record { table = table_is; serial = serial; contents = λ _. refl };
    reached = λ _. executed.reached;
  }

  pub all_kept : (all : List (List DoneRow)) → all ≡ runs ++ done ∷ [] → IsSerialStore table new all
  all_kept all more = subst (IsSerialStore table new) (sym more) run_kept

-- ---- or not

failed_kept : (may_refuse : _) (table : Layout) (old new : StoreState) (runs : List (List DoneRow)) (layer : List Job)
    → Fails may_refuse old layer new → IsSerialStore table old runs → IsSerialStore table new runs
failed_kept may_refuse table old new runs layer fails was = record {
  lawful = record {
    table = fails.table ∙ was.lawful.table;
    serial = was.lawful.serial;
    contents = λ lives. absurd (both_ways new.failed lives fails.failed);
  };
  reached = λ lives. absurd (both_ways new.failed lives fails.failed);
}

same_kept : (table : Layout) (old new : StoreState) (runs : List (List DoneRow)) → new ≡ old → IsSerialStore table old runs
    → IsSerialStore table new runs
same_kept table old new runs same was = subst (λ (s : StoreState). IsSerialStore table s runs) (sym same) was

pub refused_kept : (may_refuse : _) (table : Layout) (old new : StoreState) (runs : List (List DoneRow)) (layer : List Job)
    (fault : ExecFault) → RefusesLayer may_refuse old layer fault new → IsSerialStore table old runs → IsSerialStore table new runs
refused_kept may_refuse table old new runs layer Failed (inl still) was = same_kept table old new runs still.1 was
refused_kept may_refuse table old new runs layer Failed (inr fails) was = failed_kept may_refuse table old new runs layer fails was
refused_kept may_refuse table old new runs layer (Foreign back) why was = absurd why
refused_kept may_refuse table old new runs layer (Stale back) why was = same_kept table old new runs why.3 was
refused_kept may_refuse table old new runs layer (Memory back) why was = same_kept table old new runs why.4 was
