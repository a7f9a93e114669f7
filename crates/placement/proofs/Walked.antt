-- Eight bytes more of a key: what the hash makes of them, and what opens behind them.
use Rattle.std.proofs.Common.{◌≡◌, ℕ, suc, ◌+◌, ◌-◌, ◌≤◌, ◌||◌, false, not, cond, List, [], ◌∷◌, length, get_or, fold}
use Rattle.std.proofs.Common.{take, drop, sym, ap, ◌∙◌, arith}
use Rattle.std.specs.List.{position_or_len}
use Rattle.std.proofs.lemmas.List.{take_all}
use Rattle.std.proofs.lemmas.Bool.{or_parts}
use Rattle.placement.specs.Slot.{fnv1a_step, opens, opened}

-- a byte that opens nothing hides nothing
past : (a : ℕ) (rest : List ℕ) → opens a ≡ false → opened (a ∷ rest) ≡ opened rest
past a rest shut =
    let more : cond (not (opens a)) (1 + position_or_len opens rest) 0 + 1 ≡ suc (position_or_len opens rest + 1) =
    ap (λ b. cond (not b) (1 + position_or_len opens rest) 0 + 1) shut ∙ omega arith in
    ap (λ n. drop n (a ∷ rest)) more

pub hashed_8 : (rest : List ℕ) (hash : ℕ) → 8 ≤ length rest
    → fold fnv1a_step (fnv1a_step (fnv1a_step (fnv1a_step (fnv1a_step (fnv1a_step (fnv1a_step (fnv1a_step (fnv1a_step hash
    (get_or rest 0 0))
    (get_or rest 1 0)) (get_or rest 2 0)) (get_or rest 3 0)) (get_or rest 4 0)) (get_or rest 5 0)) (get_or rest 6 0)) (get_or rest 7 0))
    (take (length rest - 8) (drop 8 rest)) ≡ fold fnv1a_step hash rest
hashed_8 (a ∷ b ∷ c ∷ d ∷ e ∷ f ∷ g ∷ h ∷ more) hash n =
    ap (fold fnv1a_step (fnv1a_step (fnv1a_step (fnv1a_step (fnv1a_step (fnv1a_step (fnv1a_step (fnv1a_step
    (fnv1a_step hash a) b) c) d) e) f) g) h))
    (take_all _ more (omega arith))
hashed_8 [] hash n = absurd (omega (arith, n))
hashed_8 (a ∷ []) hash n = absurd (omega (arith, n))
hashed_8 (a ∷ b ∷ []) hash n = absurd (omega (arith, n))
hashed_8 (a ∷ b ∷ c ∷ []) hash n = absurd (omega (arith, n))
hashed_8 (a ∷ b ∷ c ∷ d ∷ []) hash n = absurd (omega (arith, n))
hashed_8 (a ∷ b ∷ c ∷ d ∷ e ∷ []) hash n = absurd (omega (arith, n))
hashed_8 (a ∷ b ∷ c ∷ d ∷ e ∷ f ∷ []) hash n = absurd (omega (arith, n))
hashed_8 (a ∷ b ∷ c ∷ d ∷ e ∷ f ∷ g ∷ []) hash n = absurd (omega (arith, n))

pub opened_8 : (rest : List ℕ) → 8 ≤ length rest
    → (opens (get_or rest 0 0) || opens (get_or rest 1 0) || opens (get_or rest 2 0) || opens (get_or rest 3 0) || opens (get_or rest 4 0)
    || opens (get_or rest 5 0) || opens (get_or rest 6 0) || opens (get_or rest 7 0)) ≡ false
    → opened rest ≡ opened (take (length rest - 8) (drop 8 rest))
opened_8 (a ∷ b ∷ c ∷ d ∷ e ∷ f ∷ g ∷ h ∷ more) n shut =
    let s7 = or_parts _ _ shut in
    let s6 = or_parts _ _ s7.0 in
    let s5 = or_parts _ _ s6.0 in
    let s4 = or_parts _ _ s5.0 in
    let s3 = or_parts _ _ s4.0 in
    let s2 = or_parts _ _ s3.0 in
    let s1 = or_parts _ _ s2.0 in
    past a (b ∷ c ∷ d ∷ e ∷ f ∷ g ∷ h ∷ more) s1.0 ∙ past b (c ∷ d ∷ e ∷ f ∷ g ∷ h ∷ more) s1.1 ∙ past c (d ∷ e ∷ f ∷ g ∷ h ∷ more) s2.1
    ∙ past d (e ∷ f ∷ g ∷ h ∷ more) s3.1 ∙ past e (f ∷ g ∷ h ∷ more) s4.1 ∙ past f (g ∷ h ∷ more) s5.1 ∙ past g (h ∷ more) s6.1
    ∙ past h more s7.1
    ∙ ap opened (sym (take_all _ more (omega arith)))
opened_8 [] n shut = absurd (omega (arith, n))
opened_8 (a ∷ []) n shut = absurd (omega (arith, n))
opened_8 (a ∷ b ∷ []) n shut = absurd (omega (arith, n))
opened_8 (a ∷ b ∷ c ∷ []) n shut = absurd (omega (arith, n))
opened_8 (a ∷ b ∷ c ∷ d ∷ []) n shut = absurd (omega (arith, n))
opened_8 (a ∷ b ∷ c ∷ d ∷ e ∷ []) n shut = absurd (omega (arith, n))
opened_8 (a ∷ b ∷ c ∷ d ∷ e ∷ f ∷ []) n shut = absurd (omega (arith, n))
opened_8 (a ∷ b ∷ c ∷ d ∷ e ∷ f ∷ g ∷ []) n shut = absurd (omega (arith, n))
