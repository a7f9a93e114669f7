-- The law of the rows and the contents is kept.
use Rattle.std.proofs.Common.{◌≡◌, List, [], ◌∷◌, ◌++◌, Result, Ok, Err, inl, inr, refl, sym, subst}
use Rattle.std.proofs.lemmas.Bool.{both_ways}
use Rattle.std.specs.FinMap.{empty}
use Rattle.std.specs.List.{AllZip}
use Rattle.std.specs.Prelude.{IfErr, OnOk}
use Rattle.back.proofs.Behind.{IsBehind, run_behind}
use Rattle.back.proofs.Executed.{executed_in, rows_kept}
use Rattle.back.specs.Backs.{BackState, IsLawful, IsBack}
use Rattle.back.specs.Rows.{rows_of}
use Rattle.back.specs.Runs.{HasRun, Fails, IsRefused}
use Rattle.execution_order.proofs.Sorted.{replies_in_stamp_order}
use Rattle.execution_order.specs.Entries.{Row, entries_of, AreAddressed}
use Rattle.execution_order.specs.Rows.{IsRow, IsOneThread}
use Rattle.groups.specs.declared.skip_id.SkipId.{SkipId}
use Rattle.journal.specs.Views.{RowView}
use Rattle.layer_planner.specs.declared.job.Job.{Job}
use Rattle.placement.specs.Layout.{Layout, IsTable}
use Rattle.shard_exec.specs.StoreStates.{StoreState, IsStore}
use Rattle.shard_exec.specs.Stores.{empty_store}
use Rattle.shards.proofs.Empty.{joined-empty}
use Rattle.shard_exec.specs.declared.done.ExecFault.{ExecFault}
use Rattle.shard_exec.specs.declared.done.ExecFault.TheVariants.{Stale, Memory, Failed, Foreign}
use Rattle.shards.specs.Joined.{joined}

pub zip_append : {A B : Type 0} (R : A → B → Type 0) (as_ cs : List A) (bs ds : List B) → AllZip R as_ bs → AllZip R cs ds
    → AllZip R (as_ ++ cs) (bs ++ ds)
zip_append R [] cs [] ds z w = w
zip_append R (a ∷ as_) cs (b ∷ bs) ds z w = (z.0, zip_append R as_ cs bs ds z.1 w)
zip_append R as_ cs bs ds z w = absurd z

-- ---- nothing was run yet

pub new_kept : (table : Layout) (store : StoreState) (rows : List RowView) → store ≡ empty_store table → rows ≡ [] → IsBack store rows
new_kept table store rows is none =
    subst (λ (s : StoreState). IsBack s rows) (sym is) (subst (IsBack (empty_store table)) (sym none) opened)
  where
    opened : IsBack (empty_store table) []
    opened = record {
      lawful = record {
        executed = [];
        kept = tt;
        addressed = λ e there. absurd there;
        in_order = tt;
        left = empty;
        in_turn = refl;
        by_stamp = refl;
        contents = λ _. joined-empty table.shards;
      };
      reached = λ _ e g there. absurd there;
    }

-- ---- a layer was run

module _ (old new : BackState) (skip : List SkipId) (layer : List Job) (is_store : IsStore old.store)
    (ran : HasRun old skip layer new) (was : IsBack old.store old.rows) where
  abbrev before : List Row
  before = was.lawful.executed

  abbrev more : List Row
  more = executed_in layer ran.ended

  abbrev kept_behind : IsBehind old.store new.store before more
  kept_behind = run_behind old.store new.store skip layer ran.ended is_store ran.may_stand ran.addressed ran.store before
      (record {
        addressed = was.lawful.addressed;
        in_order = was.lawful.in_order;
        in_turn = subst (λ m. IsOneThread m before) (sym (was.lawful.contents ran.store.lives)) was.lawful.in_turn;
        reached = was.reached ran.store.lives;
      })

  abbrev lawful : IsLawful new.store new.rows
  lawful = record {
    executed = before ++ more;
    kept = subst (AllZip IsRow (before ++ more)) (sym ran.rows)
        (zip_append IsRow before more old.rows (rows_of ran.ended) was.lawful.kept (rows_kept layer ran.ended ran.store.done.told));
    addressed = kept_behind.addressed;
    in_order = kept_behind.in_order;
    left = joined new.store.maps;
    in_turn = kept_behind.in_turn;
    by_stamp = replies_in_stamp_order new.store.table empty (joined new.store.maps) (before ++ more)
        (subst (λ (t : Layout). IsTable t) (sym ran.store.table) is_store.is_table) kept_behind.addressed kept_behind.in_order
        kept_behind.in_turn;
    contents = λ _. refl;
  }

  pub run_kept : IsBack new.store new.rows
  run_kept = record { lawful = lawful; reached = λ _. kept_behind.reached }

-- ---- or not

failed_kept : (may_refuse : _) (old new : BackState) (layer : List Job) → Fails may_refuse old layer new → IsBack old.store old.rows
    → IsBack new.store new.rows
failed_kept may_refuse old new layer fails was = record {
  lawful = record {
    executed = was.lawful.executed;
    kept = subst (AllZip IsRow was.lawful.executed) (sym fails.rows) was.lawful.kept;
    addressed = subst (λ (t : Layout). AreAddressed t (entries_of was.lawful.executed)) (sym fails.table) was.lawful.addressed;
    in_order = was.lawful.in_order;
    left = was.lawful.left;
    in_turn = was.lawful.in_turn;
    by_stamp = was.lawful.by_stamp;
    contents = λ lives. absurd (both_ways new.store.failed lives fails.failed);
  };
  reached = λ lives. absurd (both_ways new.store.failed lives fails.failed);
}

same_kept : (old new : BackState) → new ≡ old → IsBack old.store old.rows → IsBack new.store new.rows
same_kept old new same was = subst (λ (s : BackState). IsBack s.store s.rows) (sym same) was

refused_kept : (may_refuse : _) (old new : BackState) (layer : List Job) (fault : ExecFault) → IsRefused may_refuse old layer fault new
    → IsBack old.store old.rows → IsBack new.store new.rows
refused_kept may_refuse old new layer Failed (inl still) was = same_kept old new still.1 was
refused_kept may_refuse old new layer Failed (inr fails) was = failed_kept may_refuse old new layer fails was
refused_kept may_refuse old new layer (Foreign back) why was = same_kept old new why.3 was
refused_kept may_refuse old new layer (Stale back) why was = same_kept old new why.4 was
refused_kept may_refuse old new layer (Memory back) why was = same_kept old new why.5 was

-- whatever came of it
pub kept : (may_refuse : _) (old new : BackState) (skip : List SkipId) (layer : List Job) (result : Result (Unit {0}) ExecFault)
    → IsStore old.store → OnOk result (HasRun old skip layer new) → IfErr result (λ fault. IsRefused may_refuse old layer fault new)
    → IsBack old.store old.rows → IsBack new.store new.rows
kept may_refuse old new skip layer (Ok u) is_store ran why was = run_kept old new skip layer is_store ran was
kept may_refuse old new skip layer (Err fault) is_store ran why was = refused_kept may_refuse old new layer fault why was
