-- The places of rows, put one by one to their places in the order of stamps.
use Rattle.std.proofs.Common.{◌≡◌, ℕ, suc, ◌<◌, ◌≤◌, ◌==◌, ◌||◌, ◌&&◌, true, false, cond, List, [], ◌∷◌, length, drop, slice_get}
use Rattle.std.proofs.Common.{Bool, nat_lt, Some, ◌⊎◌, inl, inr, arith, refl, sym, ap, ◌∙◌, subst}
use Rattle.std.proofs.lemmas.Bool.{cases_order}
use Rattle.std.proofs.lemmas.Bool.Decides.{nat_tests}
use Rattle.std.specs.BTreeSet.{insert_key}
use Rattle.std.specs.Cmp.{nat_cmp_is}
use Rattle.std.specs.List.{AllZip, AllByRecursion}
use Rattle.std.specs.Ordering.{nat_cmp, ordering_then, match_ordering}
use Rattle.std.specs.declared.cmp.Ordering.{Ordering}
use Rattle.std.specs.declared.cmp.Ordering.TheVariants.{Less, Equal, Greater}
use Rattle.execution_order.specs.Entries.{Row, insert_by, rows_by_stamp}
use Rattle.journal.specs.Views.{RowView}
use Rattle.groups.specs.Stamp.{stamp_lt}
use Rattle.front.specs.Layers.{IsRow}
use Rattle.replay.proofs.Places.{drop_at, zip_at, zip_length}
use Rattle.replay.specs.Order.{Key, IsPlaced, ArePlaced}

-- the order of keys
abbrev pub key_cmp : Key → Key → Ordering
key_cmp x y = ordering_then (ordering_then (nat_cmp x.0 y.0) (nat_cmp x.1 y.1)) (nat_cmp x.2 y.2)

abbrev below : Row → Row → Bool
below r s = stamp_lt r.entry.stamp s.entry.stamp

-- the pair of b and h is below that of a and g
abbrev pair_lt : ℕ → ℕ → ℕ → ℕ → Bool
pair_lt b h a g = nat_lt b a || (b == a && nat_lt h g)

-- A key of a smaller place is before another one, or its stamp is the greater.
orders : (a g p b h q : ℕ) → p < q →
    ((key_cmp (a, g, p) (b, h, q) ≡ Greater) × (pair_lt b h a g ≡ true))
    ⊎ ((key_cmp (a, g, p) (b, h, q) ≡ Less) × (pair_lt b h a g ≡ false))
orders a g p b h q less = elim (cases_order a b) [
  | inl same ↦ elim (cases_order g h) [
    | inl tie ↦ inr (
      ap (λ o. ordering_then (ordering_then o (nat_cmp g h)) (nat_cmp p q)) (sym (nat_cmp_is a b Equal same))
          ∙ ap (λ o. ordering_then o (nat_cmp p q)) (sym (nat_cmp_is g h Equal tie)) ∙ sym (nat_cmp_is p q Less less),
      grind (arith, nat_tests),
    )
    | inr (inl lower) ↦ inr (
      ap (λ o. ordering_then (ordering_then o (nat_cmp g h)) (nat_cmp p q)) (sym (nat_cmp_is a b Equal same))
          ∙ ap (λ o. ordering_then o (nat_cmp p q)) (sym (nat_cmp_is g h Less lower)),
      grind (arith, nat_tests),
    )
    | inr (inr higher) ↦ inl (
      ap (λ o. ordering_then (ordering_then o (nat_cmp g h)) (nat_cmp p q)) (sym (nat_cmp_is a b Equal same))
          ∙ ap (λ o. ordering_then o (nat_cmp p q)) (sym (nat_cmp_is g h Greater higher)),
      grind (arith, nat_tests),
    )
  ]
  | inr (inl lower) ↦ inr (
    ap (λ o. ordering_then (ordering_then o (nat_cmp g h)) (nat_cmp p q)) (sym (nat_cmp_is a b Less lower)),
    grind (arith, nat_tests),
  )
  | inr (inr higher) ↦ inl (
    ap (λ o. ordering_then (ordering_then o (nat_cmp g h)) (nat_cmp p q)) (sym (nat_cmp_is a b Greater higher)),
    grind (arith, nat_tests),
  )
]

same_test : (E : List Row) (x y : Key) (e f : Row) → IsPlaced E x e → IsPlaced E y f → below f e ≡ pair_lt y.0 y.1 x.0 x.1
same_test E x y e f at-x at-y =
    ap (λ n. pair_lt n f.entry.stamp.group e.entry.stamp.clock e.entry.stamp.group) (sym at-y.clock)
    ∙ ap (λ n. pair_lt y.0 n e.entry.stamp.clock e.entry.stamp.group) (sym at-y.group)
    ∙ ap (λ n. pair_lt y.0 y.1 n e.entry.stamp.group) (sym at-x.clock)
    ∙ ap (λ n. pair_lt y.0 y.1 x.0 n) (sym at-x.group)

-- a key of a smaller place goes where its row goes in the order of stamps
insert_placed : (E : List Row) (x : Key) (e : Row) (ks : List Key) (rs : List Row) → IsPlaced E x e →
    AllByRecursion (λ (k : Key). x.2 < k.2) ks → ArePlaced E ks rs → ArePlaced E (insert_key key_cmp ks x) (insert_by below e rs)
insert_placed E x e [] [] placed before are = (placed, tt)
insert_placed E x e [] (r ∷ rs) placed before are = absurd are
insert_placed E x e (k ∷ ks) [] placed before are = absurd are
insert_placed E x e (k ∷ ks) (r ∷ rs) placed before are =
    let test = same_test E x k e r placed are.0 in
    elim (orders x.0 x.1 x.2 k.0 k.1 k.2 before.0) [
      | inl later ↦
          subst (λ o. ArePlaced E (match_ordering o (x ∷ k ∷ ks) (k ∷ ks) (k ∷ insert_key key_cmp ks x)) (insert_by below e (r ∷ rs)))
          (sym later.0)
          (subst (λ b. ArePlaced E (k ∷ insert_key key_cmp ks x) (cond b (r ∷ insert_by below e rs) (e ∷ r ∷ rs))) (sym (test ∙ later.1))
          (are.0, insert_placed E x e ks rs placed before.1 are.1))
      | inr first ↦
          subst (λ o. ArePlaced E (match_ordering o (x ∷ k ∷ ks) (k ∷ ks) (k ∷ insert_key key_cmp ks x)) (insert_by below e (r ∷ rs)))
          (sym first.0)
          (subst (λ b. ArePlaced E (x ∷ k ∷ ks) (cond b (r ∷ insert_by below e rs) (e ∷ r ∷ rs))) (sym (test ∙ first.1))
          (placed, are))
    ]

pub none_placed : (E : List Row) (R : List RowView) (ks : List Key) (n : ℕ) → ks ≡ [] → n ≡ length R → AllZip IsRow E R →
    ArePlaced E ks (rows_by_stamp (drop n E))
none_placed E R ks n none count are =
    let all : n ≡ length E = count ∙ sym (zip_length IsRow E R are) in
    subst (λ l. ArePlaced E l (rows_by_stamp (drop n E))) (sym none)
    (subst (λ l. ArePlaced E [] (rows_by_stamp l)) (sym (ap (λ m. drop m E) all ∙ drop-all E)) tt)
  where
    drop-all : (xs : List Row) → drop (length xs) xs ≡ []
    drop-all [] = refl
    drop-all (y ∷ ys) = drop-all ys

pub none_before : (P : Key → Type 0) (ks : List Key) → ks ≡ [] → AllByRecursion P ks
none_before P ks none = subst (AllByRecursion P) (sym none) tt

weaker : (P Q : Key → Type 0) (ks : List Key) → ((k : Key) → P k → Q k) → AllByRecursion P ks → AllByRecursion Q ks
weaker P Q [] by are = tt
weaker P Q (k ∷ ks) by are = (by k are.0, weaker P Q ks by are.1)

all_inserted : (P : Key → Type 0) (x : Key) (ks : List Key) → P x → AllByRecursion P ks → AllByRecursion P (insert_key key_cmp ks x)
all_inserted P x [] holds are = (holds, tt)
all_inserted P x (k ∷ ks) holds are =
    elim (key_cmp x k) as (λ o. AllByRecursion P (match_ordering o (x ∷ k ∷ ks) (k ∷ ks) (k ∷ insert_key key_cmp ks x))) [
      | Less ↦ (holds, are)
      | Equal ↦ are
      | Greater ↦ (are.0, all_inserted P x ks holds are.1)
    ]

-- the row before those that are in order is put to its place among them
pub one_more_placed : (E : List Row) (R : List RowView) (row : RowView) (x : Key) (ks ls : List Key) (next now : ℕ) → now ≡ suc next →
    x ≡ (row.stamp.clock, row.stamp.group, next) → slice_get R next ≡ Some row → ls ≡ insert_key key_cmp ks x →
    AllByRecursion (λ (k : Key). now ≤ k.2) ks → AllZip IsRow E R →
    ArePlaced E ks (rows_by_stamp (drop now E)) → ArePlaced E ls (rows_by_stamp (drop next E))
one_more_placed E R row x ks ls next now count key there inserted behind are placed =
    let found = zip_at IsRow E R next row are there in
    let here : IsPlaced E x found.0 = record {
      there = ap (λ (k : Key). slice_get E k.2) key ∙ found.1;
      clock = ap (λ (k : Key). k.0) key ∙ ap (λ s. s.clock) found.2.stamp;
      group = ap (λ (k : Key). k.1) key ∙ ap (λ s. s.group) found.2.stamp;
    } in
    let place : x.2 ≡ next = ap (λ (k : Key). k.2) key in
    subst (λ l. ArePlaced E l (rows_by_stamp (drop next E))) (sym inserted)
    (subst (λ l. ArePlaced E (insert_key key_cmp ks x) (rows_by_stamp l))
    (sym (drop_at E next found.0 found.1 ∙ ap (λ n. found.0 ∷ drop n E) (sym count)))
    (insert_placed E x found.0 ks (rows_by_stamp (drop now E)) here
    (weaker (λ (k : Key). now ≤ k.2) (λ (k : Key). x.2 < k.2) ks (λ k low. omega (arith, low, count, place)) behind) placed))

pub one_more_before : (x : Key) (ks ls : List Key) (next now : ℕ) → now ≡ suc next → x.2 ≡ next → ls ≡ insert_key key_cmp ks x →
    AllByRecursion (λ (k : Key). now ≤ k.2) ks → AllByRecursion (λ (k : Key). next ≤ k.2) ls
one_more_before x ks ls next now count place inserted behind =
    subst (AllByRecursion (λ (k : Key). next ≤ k.2)) (sym inserted)
    (all_inserted (λ (k : Key). next ≤ k.2) x ks (omega (arith, place))
    (weaker (λ (k : Key). now ≤ k.2) (λ (k : Key). next ≤ k.2) ks (λ k low. omega (arith, low, count)) behind))
