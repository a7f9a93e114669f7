-- A layer that was run behind others: what held of their requests holds of all.
use Rattle.std.proofs.Common.{◌≡◌, ℕ, ◌<◌, true, false, List, ◌++◌, inl, inr, sym, ap, ◌∙◌, subst}
use Rattle.std.specs.FinMap.{empty}
use Rattle.std.specs.Prelude.{length}
use Rattle.back.proofs.Executed.{executed_in, holds_of, of_layer, are_addressed, are_in_order, is_in_turn}
use Rattle.back.specs.Backs.{HaveReached}
use Rattle.execution_order.proofs.Appended.{entries-append, solo-append, InOrder-append, AreAddressed-append}
use Rattle.execution_order.specs.Entries.{Entry, Row, entries_of, Touch, InOrder, AreAddressed}
use Rattle.execution_order.specs.Rows.{IsOneThread}
use Rattle.groups.proofs.Lists.{In-append}
use Rattle.groups.proofs.Stamps.{lt_asym, le_lt}
use Rattle.groups.specs.GroupSet.{has}
use Rattle.groups.specs.Order.{In}
use Rattle.groups.specs.Stamp.{stamp_lt}
use Rattle.groups.specs.declared.skip_id.SkipId.{SkipId}
use Rattle.layer_planner.specs.Layers.{MayStand}
use Rattle.layer_planner.specs.declared.job.Job.{Job}
use Rattle.placement.specs.Layout.{Layout}
use Rattle.shard_exec.proofs.LastStamps.{raised_reaches, raised_rises}
use Rattle.shard_exec.specs.Layers.{AddressTheirGroups}
use Rattle.shard_exec.specs.Reached.{HasReached}
use Rattle.shard_exec.specs.Stamps.{last_of, is_above, IsFresh, raised}
use Rattle.shard_exec.specs.StoreStates.{StoreState, IsStore}
use Rattle.shard_exec.specs.Stores.{HasRunLayer}
use Rattle.shard_exec.specs.declared.done.Ended.{Ended}
use Rattle.shards.specs.Joined.{joined}
use Rattle.tasks.proofs.Groups.{task_groups-below}
use Rattle.tasks.specs.Tasks.{task_groups}

-- these requests were executed here, one behind another, as one thread does, and left what the shards hold
pub record WereExecuted (store : StoreState) (rows : List Row) : Type 0 where
  pub addressed : AreAddressed store.table (entries_of rows)
  pub in_order : InOrder (entries_of rows)
  pub in_turn : IsOneThread (joined store.maps) rows
  pub reached : HaveReached store (entries_of rows)

abbrev pub IsBehind : StoreState → StoreState → List Row → List Row → Type 0
IsBehind old new before more = WereExecuted new (before ++ more)

module _ (old new : StoreState) (skip : List SkipId) (layer : List Job) (ended : List Ended) (is_store : IsStore old)
    (may_stand : MayStand layer) (its : AddressTheirGroups old.table layer) (ran : HasRunLayer old skip layer ended new)
    (before : List Row) (was : WereExecuted old before) where
  abbrev more : List Row
  more = executed_in layer ended

  abbrev es : List Entry
  es = entries_of before

  abbrev fs : List Entry
  fs = entries_of more

  -- a request of the layer that touches one executed before has a later stamp
  across : (e f : Entry) → In e es → In f fs → Touch e f → stamp_lt f.stamp e.stamp ≡ false
  across e f i there touch =
      let it = of_layer layer ended f there in
      let last = was.reached e touch.0 i touch.1 in
      subst (λ (x : Entry). has x.groups touch.0 ≡ true → stamp_lt x.stamp e.stamp ≡ false) (sym it.2.1)
      (λ member. lt_asym e.stamp it.0.stamp (le_lt e.stamp last.0 it.0.stamp last.2
      (ap (λ l. is_above l it.0.stamp) (sym last.1) ∙ holds_of (IsFresh old.lasts) layer it.0 ran.fresh it.1 touch.0 member)))
      touch.2

  in_order : InOrder (entries_of (before ++ more))
  in_order = subst InOrder (sym (entries-append before more))
      (InOrder-append es fs was.in_order (are_in_order layer ended may_stand.together) across)

  addressed : AreAddressed new.table (entries_of (before ++ more))
  addressed = subst (λ (t : Layout). AreAddressed t (entries_of (before ++ more))) (sym ran.table)
      (subst (AreAddressed old.table) (sym (entries-append before more))
      (AreAddressed-append old.table es fs was.addressed (are_addressed old.table layer ended its may_stand.stamps)))

  in_turn : IsOneThread (joined new.maps) (before ++ more)
  in_turn = solo-append empty (joined old.maps) (joined new.maps) before more was.in_turn
      (is_in_turn (joined old.maps) (joined new.maps) layer ended ran.done.in_turn)

  reached_raised : (e : Entry) (g : ℕ) → In e (es ++ fs) → has e.groups g ≡ true
      → HasReached (last_of (raised old.lasts layer) g) e.stamp
  reached_raised e g there member = elim (In-append e es fs there) [
    | inl i ↦ raised_rises old.lasts layer g e.stamp ran.fresh (was.reached e g i member)
    | inr i ↦
        let it = of_layer layer ended e i in
        subst (λ (x : Entry). has x.groups g ≡ true → HasReached (last_of (raised old.lasts layer) g) x.stamp) (sym it.2.1)
        (λ here. raised_reaches old.lasts layer g (inside it.0 it.1 here) may_stand.together it.0 it.1 here)
        member
  ]
    where
      inside : (j : Job) → In j layer → has j.groups g ≡ true → g < length old.lasts
      inside j there here =
          let its_own = holds_of (λ (k : Job). k.groups ≡ task_groups old.table k.asked.batch) layer j its there in
          subst (λ n. g < n) (sym is_store.stamps)
          (task_groups-below old.table j.asked.batch g (ap (λ gs. has gs g) (sym its_own) ∙ here))

  pub run_behind : IsBehind old new before more
  run_behind = record {
    addressed = addressed;
    in_order = in_order;
    in_turn = in_turn;
    reached = λ e g there member.
        subst (λ lasts. HasReached (last_of lasts g) e.stamp) (sym ran.lasts)
        (reached_raised e g (subst (In e) (entries-append before more) there) member);
  }
