-- A cluster that is closed beside its store: what its requests were told is what one thread answers.
use Rattle.std.proofs.Common.{◌≡◌, List, [], length, map, sym, ap, ◌∙◌, subst, append-nil}
use mathlib.Core.List.{IsPrefix}
use Rattle.cluster.proofs.Numbers.{same_begin}
use Rattle.cluster.specs.Endings.{IsRight}
use Rattle.cluster.specs.Histories.{HistoryView, IsLawful}
use Rattle.execution_order.specs.Entries.{rows_by_stamp}
use Rattle.execution_order.specs.Rows.{IsOneThread}
use Rattle.execution_order.specs.Serial.{all_rows}
use Rattle.layer_results.specs.declared.done.DoneRow.{DoneRow}
use Rattle.order_laws.proofs.SerialLaws.{rows_are_of_runs}
use Rattle.placement.specs.Layout.{Layout, IsTable}
use Rattle.serial_store.specs.Serial.{layer_of}
use Rattle.serial_store.specs.Stores as stored
use Rattle.serial_store.specs.Stores.{SerialState}
use Rattle.world.specs.World.{World}
use Rattle.world_laws.proofs.HeadlineLaws.{headline_holds, holds_in_order_of_execution}
use Rattle.world_laws.specs.Headline.{rows_of}

-- as many layers, which begin those of the store, are all of them
pub all_of_store : (ran runs : List (List DoneRow)) → IsPrefix ran runs → length ran ≡ length runs → ran ≡ runs
all_of_store ran runs begins many = same_begin ran runs runs begins ([], append-nil runs) many

module _ (t : Layout) (h : HistoryView) (store : SerialState) (is_table : IsTable h.front.table) (table : h.front.table ≡ t)
    (lawful : IsLawful h) (kept : stored.IsLawful t store.store store.runs) (same : h.ran ≡ store.runs) where
  abbrev w : World
  w = lawful.world

  rows : rows_of w.ended ≡ all_rows (map (layer_of t) store.runs)
  rows = (rows_are_of_runs h.front.table h.steps w (map (layer_of h.front.table) h.ran) lawful.ran).0
      ∙ ap (λ s. all_rows (map (layer_of s) h.ran)) table ∙ ap (λ l. all_rows (map (layer_of t) l)) same

  in_turn : IsOneThread kept.serial.left (rows_of w.ended)
  in_turn = subst (IsOneThread kept.serial.left) (sym rows) kept.serial.in_turn

  contents : w.contents ≡ kept.serial.left
  contents = ap (λ p. p.0) (holds_in_order_of_execution h.front.table h.steps w lawful.leads ∙ sym in_turn)

  pub right : IsRight h store
  right = record {
    world = w;
    leads = lawful.leads;
    ran = same;
    one_thread = λ lives. subst (λ m. IsOneThread m (rows_by_stamp (rows_of w.ended))) (contents ∙ sym (kept.contents lives))
        (headline_holds h.front.table h.steps w is_table lawful.leads);
  }
