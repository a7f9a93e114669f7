-- The entries of a map: what stands in them is what is found.
use Rattle.std.proofs.Common.{◌≡◌, Bool, true, false, cond, List, [], ◌∷◌, Some, refl, sym, ap, ◌∙◌, subst, inl, inr}
use Rattle.std.proofs.lemmas.Bool.{both_ways}
use Rattle.std.proofs.lemmas.Cmp.{tied_itself}
use Rattle.std.proofs.lemmas.Map.Keys.{IsDistinct-head, IsDistinct-tail}
use Rattle.std.proofs.lemmas.Map.Lookups.{CmpEqualImpliesEq}
use Rattle.std.specs.BTreeMap.{is_at}
use Rattle.std.specs.Cmp.{IsTotalOrder, IsEquivalence}
use Rattle.std.specs.List.{AllByRecursion, IsDistinct}
use Rattle.std.specs.Map.{keys_of, lookup}
use Rattle.std.specs.Ordering.{is_eq}
use Rattle.std.specs.declared.cmp.Ordering.{Ordering}
use Rattle.std.specs.declared.cmp.Ordering.TheVariants.{Less, Equal, Greater}
use Rattle.groups.specs.Order.{In}
use Rattle.groups.proofs.Options.{some_same}

equal_is : (r : Ordering) → is_eq r ≡ true → r ≡ Equal
equal_is Less e = absurd (both_ways _ refl e)
equal_is Equal e = refl
equal_is Greater e = absurd (both_ways _ refl e)

pub all_keys : {K X : Type 0} (P : K → Type 0) (es : List (K × X)) (e : K × X) → AllByRecursion P (keys_of es) → In e es → P e.0
all_keys P [] e all there = absurd there
all_keys P (x ∷ xs) e all (inl same) = subst (λ y. P y.0) (sym same) all.0
all_keys P (x ∷ xs) e all (inr there) = all_keys P xs e all.1 there

module _ {K : Type 0} {R : K → K → Ordering} (o : IsTotalOrder R) (exact : CmpEqualImpliesEq R) where
  pub same_key : (k q : K) → is_at (R k) q ≡ true → k ≡ q
  same_key k q e = exact k q (equal_is (R k q) e)

  pub key_same : (k q : K) → k ≡ q → is_at (R k) q ≡ true
  key_same k q e = ap (λ x. is_eq (R k x)) (sym e) ∙ ap is_eq (tied_itself o k)

-- ---- what stands and what is found, by a test that tells keys apart

module _ {K X : Type 0} {eq : K → K → Bool} (laws : IsEquivalence eq) where
  pub not_first : (e f : K × X) (es : List (K × X)) → IsDistinct eq (keys_of (e ∷ es)) → In f es → eq f.0 e.0 ≡ false
  not_first e f es once there = laws.symm f.0 e.0 ∙ all_keys (λ y. eq e.0 y ≡ false) es f (IsDistinct-head eq e.0 (keys_of es) once) there

  pub found : (es : List (K × X)) (e : K × X) → IsDistinct eq (keys_of es) → In e es → lookup (eq e.0) es ≡ Some e.1
  found [] e once there = absurd there
  found (x ∷ xs) e once (inl same) =
      ap (λ b. cond b (Some x.1) (lookup (eq e.0) xs)) (ap (λ y. eq e.0 y.0) (sym same) ∙ laws.refl e.0)
      ∙ ap (λ y. Some y.1) (sym same)
  found (x ∷ xs) e once (inr there) =
      ap (λ b. cond b (Some x.1) (lookup (eq e.0) xs)) (not_first x e xs once there)
      ∙ found xs e (IsDistinct-tail eq x.0 (keys_of xs) once) there

module _ {K X : Type 0} {eq : K → K → Bool} (exact : (k q : K) → eq k q ≡ true → k ≡ q) where
  pub stands : (es : List (K × X)) (k : K) (v : X) → lookup (eq k) es ≡ Some v → In (k, v) es
  stands [] k v e = absurd (cc)
  stands (x ∷ xs) k v e = elim (eq k x.0) as (λ b. eq k x.0 ≡ b → cond b (Some x.1) (lookup (eq k) xs) ≡ Some v
      → In (k, v) (x ∷ xs)) [
        | true ↦ λ p d. inl (λ i. (exact k x.0 p i, some_same v x.1 (sym d) i))
        | false ↦ λ p d. inr (stands xs k v d)
      ] refl e
