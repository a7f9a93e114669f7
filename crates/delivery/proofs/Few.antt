-- Requests that head different queues are no more than there are queues.
use Rattle.std.proofs.Common.{◌≡◌, ◌≢◌, ℕ, suc, ◌<◌, true, false, eqb, List, [], ◌∷◌, length, refl, sym, ap, subst, arith, inl, inr}
use Rattle.std.proofs.Common.{eqb-true, ne_eqb}
use Rattle.std.specs.List.{IsDistinct, list_any, AllByRecursion}
use Rattle.std.proofs.lemmas.Bool.{or_cases, both_ways}
use Rattle.std.proofs.lemmas.Map.Steps.{length-le_from_distinct_below}
use Rattle.groups.specs.Order.{In}

-- no element stands in the list twice
abbrev pub NoneTwice : {X : Type 0} → List X → Type 0
NoneTwice [] = Unit {0}
NoneTwice (x ∷ xs) = (In x xs → ⊥) × NoneTwice xs

any_in : (q : ℕ) (ns : List ℕ) → list_any (eqb q) ns ≡ true → In q ns
any_in q [] h = absurd (both_ways _ refl h)
any_in q (n ∷ ns) h = elim (or_cases (eqb q n) (list_any (eqb q) ns) h) [
  | inl at ↦ inl (eqb-true q n at)
  | inr there ↦ inr (any_in q ns there)
]

differ_all : (n : ℕ) (ns : List ℕ) → (In n ns → ⊥) → AllByRecursion (λ y. eqb n y ≡ false) ns
differ_all n [] out = tt
differ_all n (m ∷ ns) out = (ne_eqb n m (λ e. out (inl e)), differ_all n ns (λ k. out (inr k)))

distinct : (ns : List ℕ) → NoneTwice ns → IsDistinct eqb ns
unfolding IsDistinct
distinct [] once = tt
distinct (n ∷ ns) once = (differ_all n ns once.0, distinct ns once.1)

module _ {X : Type 0} (At : ℕ → X → Type 0) (one : (m : ℕ) (x y : X) → At m x → At m y → x ≡ y) where
  -- a place for each element, no place for two
  record Places (xs : List X) : Type 0 where
    ns : List ℕ
    long : length ns ≡ length xs
    once : NoneTwice ns
    of : (m : ℕ) → In m ns → (x : X) × In x xs × At m x

  places : (xs : List X) → NoneTwice xs → ((x : X) → In x xs → (m : ℕ) × At m x) → Places xs
  places [] once at = record { ns = []; long = refl; once = tt; of = λ m k. absurd k }
  places (x ∷ xs) once at =
      let rest = places xs once.1 (λ y k. at y (inr k)) in
      let here = at x (inl refl) in
      record {
        ns = here.0 ∷ rest.ns;
        long = ap suc rest.long;
        once = (
          λ k. let w = rest.of here.0 k in once.0 (subst (λ (y : X). In y xs) (sym (one here.0 x w.0 here.1 w.2)) w.1),
          rest.once,
        );
        of = λ m. elim [
          | inl same ↦ (x, inl refl, subst (λ (k : ℕ). At k x) (sym same) here.1)
          | inr k ↦ let w = rest.of m k in (w.0, inr w.1, w.2)
        ];
      }

  -- where one place below n is nobody's they are fewer than n
  pub fewer : (xs : List X) (n g : ℕ) → NoneTwice xs → g < n
      → ((x : X) → In x xs → (m : ℕ) × At m x) → ((m : ℕ) (x : X) → At m x → (m < n) × (m ≢ g)) → length xs < n
  fewer xs n g once low at where_is =
      let p = places xs once at in
      let few = length-le_from_distinct_below (g ∷ p.ns) n
      (distinct (g ∷ p.ns) ((λ k. let w = p.of g k in (where_is g w.0 w.2).1 refl), p.once))
      (λ q h. below q (any_in q (g ∷ p.ns) h)) in
      let long = p.long in
      omega arith
    where
      below : (q : ℕ) → In q (g ∷ (places xs once at).ns) → q < n
      below q (inl same) = subst (λ (k : ℕ). k < n) (sym same) low
      below q (inr k) = let w = (places xs once at).of q k in (where_is q w.0 w.2).0
