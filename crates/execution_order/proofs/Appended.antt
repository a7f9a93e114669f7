-- More requests executed behind others: their rows stand behind the others' rows, and the whole is in order where the
-- new ones touch none of the others with a greater stamp.
use Rattle.std.proofs.Common.{◌≡◌, List, [], ◌∷◌, ◌++◌, false, ◌⊎◌, inl, inr, refl, sym, ap, ◌∙◌}
use Rattle.tasks.proofs.Turns.{in_turn-append}
use Rattle.keyspace.specs.Map.{Map}
use Rattle.placement.specs.Layout.{Layout}
use Rattle.groups.proofs.Lists.{In-append}
use Rattle.groups.specs.Order.{In}
use Rattle.groups.specs.Stamp.{stamp_lt}
use Rattle.tasks.specs.Tasks.{deed_effect, deeds_in_turn}
use Rattle.execution_order.specs.Entries.{Entry, Row, deed, deeds_of, entries_of, replies_of, rows_from, Touch, InOrder, AreAddressed}

-- the rows of more requests stand behind
pub rows_from-append : (m : Map) (es fs : List Entry)
    → rows_from m (es ++ fs) ≡ rows_from m es ++ rows_from (deeds_in_turn m (deeds_of es)).0 fs
rows_from-append m [] fs = refl
rows_from-append m (e ∷ es) fs =
    ap (λ l. record { entry = e; reply = (deed_effect (deed e) m).1 } ∷ l) (rows_from-append (deed_effect (deed e) m).0 es fs)

pub deeds-append : (rows more : List Row)
    → deeds_of (entries_of (rows ++ more)) ≡ deeds_of (entries_of rows) ++ deeds_of (entries_of more)
deeds-append [] more = refl
deeds-append (r ∷ rows) more = ap (λ l. deed r.entry ∷ l) (deeds-append rows more)

pub replies-append : (rows more : List Row) → replies_of (rows ++ more) ≡ replies_of rows ++ replies_of more
replies-append [] more = refl
replies-append (r ∷ rows) more = ap (λ l. r.reply ∷ l) (replies-append rows more)

pub entries-append : (rows more : List Row) → entries_of (rows ++ more) ≡ entries_of rows ++ entries_of more
entries-append [] more = refl
entries-append (r ∷ rows) more = ap (λ l. r.entry ∷ l) (entries-append rows more)

-- rows with the replies of one thread, and behind them rows with its replies as it goes on
pub solo-append : (old mid new : Map) (rows more : List Row)
    → (mid, replies_of rows) ≡ deeds_in_turn old (deeds_of (entries_of rows))
    → (new, replies_of more) ≡ deeds_in_turn mid (deeds_of (entries_of more))
    → (new, replies_of (rows ++ more)) ≡ deeds_in_turn old (deeds_of (entries_of (rows ++ more)))
solo-append old mid new rows more before behind =
    ap (λ l. (new, l)) (replies-append rows more)
    ∙ in_turn-append deed_effect old mid new (deeds_of (entries_of rows)) (deeds_of (entries_of more)) (replies_of rows)
    (replies_of more) before behind
    ∙ ap (deeds_in_turn old) (sym (deeds-append rows more))

-- and one row more
pub solo-push : (old mid new : Map) (rows : List Row) (r : Row)
    → (mid, replies_of rows) ≡ deeds_in_turn old (deeds_of (entries_of rows)) → (new, r.reply) ≡ deed_effect (deed r.entry) mid
    → (new, replies_of (rows ++ r ∷ [])) ≡ deeds_in_turn old (deeds_of (entries_of (rows ++ r ∷ [])))
solo-push old mid new rows r before here = solo-append old mid new rows (r ∷ []) before (ap (λ v. (v.0, v.1 ∷ [])) here)

-- ---- the order of execution

pub InOrder-append : (es fs : List Entry) → InOrder es → InOrder fs
    → ((e f : Entry) → In e es → In f fs → Touch e f → stamp_lt f.stamp e.stamp ≡ false) → InOrder (es ++ fs)
InOrder-append [] fs before behind across = behind
InOrder-append (e ∷ es) fs before behind across = (
  (λ f i. either (In-append f es fs i) (before.0 f) (across e f (inl refl))),
  InOrder-append es fs before.1 behind (λ d f i. across d f (inr i)),
)
  where
    either : {A B C : Type 0} → A ⊎ B → (A → C) → (B → C) → C
    either (inl a) f g = f a
    either (inr b) f g = g b

-- requests of which no two touch, as those of a layer, are in order whatever their stamps
abbrev pub NoneTouch : List Entry → Type 0
NoneTouch [] = Unit {0}
NoneTouch (e ∷ es) = ((f : Entry) → In f es → Touch e f → ⊥) × NoneTouch es

pub InOrder-apart : (es : List Entry) → NoneTouch es → InOrder es
InOrder-apart [] apart = tt
InOrder-apart (e ∷ es) apart = ((λ f i t. absurd (apart.0 f i t)), InOrder-apart es apart.1)

pub AreAddressed-append : (table : Layout) (es fs : List Entry) → AreAddressed table es → AreAddressed table fs
    → AreAddressed table (es ++ fs)
AreAddressed-append table es fs before behind e i = elim (In-append e es fs i) [
  | inl j ↦ before e j
  | inr j ↦ behind e j
]
