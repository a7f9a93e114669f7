-- The numbers by connection: the map that the hashed table's entries are.
use Rattle.std.proofs.Common.{◌≡◌, ℕ, ◌==◌, cond, List, [], ◌∷◌, Some, inl, inr, refl, sym, ap, ◌∙◌, eqb-true, eq-eqb}
use Rattle.std.proofs.lemmas.Bool.{both_ways, cases_Bool}
use Rattle.std.specs.Cmp.{nat_cmp_total, unsigned_tied}
use Rattle.std.specs.FinMap.{FinMap, get, insert, find, from_entries, get-insert, get-from_entries, same_map, nat_cmp-IsAntisymmetric}
use Rattle.std.specs.Map.{lookup}
use Rattle.std.specs.Ordering.{nat_cmp}

abbrev pub Numbers : Type 0
Numbers = List (ℕ × ℕ)

abbrev pub shown : Numbers → FinMap nat_cmp ℕ
shown es = from_entries es

found : (es : Numbers) (c : ℕ) → find nat_cmp c es ≡ lookup (λ k. c == k) es
found [] c = refl
found (e ∷ es) c = ap (λ b. cond b (Some e.1) (find nat_cmp c es)) (unsigned_tied c e.0) ∙ ap (cond (c == e.0) (Some e.1)) (found es c)

pub get_shown : (es : Numbers) (c : ℕ) → get (shown es) c ≡ lookup (λ k. c == k) es
get_shown es c = get-from_entries nat_cmp_total es c ∙ found es c

-- entries of which the same is found are the same map
pub same_shown : (es es' : Numbers) → ((c : ℕ) → lookup (λ k. c == k) es' ≡ lookup (λ k. c == k) es) → shown es' ≡ shown es
same_shown es es' same = same_map nat_cmp_total nat_cmp-IsAntisymmetric (shown es') (shown es)
    (λ c. get_shown es' c ∙ same c ∙ sym (get_shown es c))

turned : (c q : ℕ) → (c == q) ≡ (q == c)
turned c q = elim (cases_Bool (q == c)) [
  | inl e ↦ eq-eqb c q (sym (eqb-true q c e)) ∙ sym e
  | inr e ↦ elim (cases_Bool (c == q)) [
    | inl d ↦ absurd (both_ways _ e (eq-eqb q c (sym (eqb-true c q d))))
    | inr d ↦ d ∙ sym e
  ]
]

-- one number is put
pub put_shown : (es es' : Numbers) (c n : ℕ) → ((q : ℕ) → lookup (λ k. q == k) es' ≡ cond (c == q) (Some n) (lookup (λ k. q == k) es)) →
    shown es' ≡ insert (shown es) c n
put_shown es es' c n puts = same_map nat_cmp_total nat_cmp-IsAntisymmetric (shown es') (insert (shown es) c n) (λ q.
    get_shown es' q ∙ puts q ∙ ap (λ b. cond b (Some n) (lookup (λ k. q == k) es)) (turned c q ∙ sym (unsigned_tied q c))
    ∙ ap (cond _ (Some n)) (sym (get_shown es q)) ∙ sym (get-insert nat_cmp_total (shown es) c n q))
