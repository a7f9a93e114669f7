-- A loop over a command's keys, of which contracts see the bytes: the key of one turn, and what is left after it.
use Rattle.std.proofs.Common.{◌≡◌, ℕ, suc, ◌+◌, ◌<◌, List, [], ◌∷◌, length, drop, get_or, All, Bool, IsTrue, add-one, arith, sym, ap, subst}
use Rattle.std.proofs.Common.{◌∙◌}
use Rattle.std.proofs.Math.ListN.{get_or-map}
use Rattle.std.proofs.Math.Seq.{drop-cons}
use Rattle.std.proofs.lemmas.List.{length-map}
use Rattle.std.specs.Global.{Vec}
use Rattle.texts.specs.Texts.{Bytes, texts_of}

-- the key of a turn is covered where all keys are
pub covered_item : (covered : Bytes → Bool) (keys : List Bytes) (xs : List (Vec ℕ)) (i : ℕ) (x : Vec ℕ)
    → texts_of xs ≡ keys → i < length xs → x ≡ get_or xs i x → All (λ key. IsTrue (covered key)) keys → IsTrue (covered x.items)
covered_item covered keys xs i x seen within is all =
    let at : get_or keys i x.items ≡ x.items = ap (λ ks. get_or ks i x.items) (sym seen) ∙ get_or-map (λ t. t.items) xs i x
    ∙ ap (λ t. t.items) (sym is) in
    let within_keys : i < length keys = omega (arith, length-map xs (λ (t : Vec ℕ). t.items), ap length seen) in
    subst (λ key. IsTrue (covered key)) at (all i x.items within_keys)

-- the keys that are left begin with this turn's
pub rest_item : (xs : List (Vec ℕ)) (i : ℕ) (x : Vec ℕ) → i < length xs → x ≡ get_or xs i x
    → texts_of (drop i xs) ≡ x.items ∷ texts_of (drop (i + 1) xs)
rest_item xs i x within is =
    ap texts_of (drop-cons xs i x within)
    ∙ ap (λ y. y.items ∷ texts_of (drop (suc i) xs)) (sym is)
    ∙ ap (λ n. x.items ∷ texts_of (drop n xs)) (sym (add-one i))

-- where all keys of a command are covered, so are those after the first
pub covered_after_first : (covered : Bytes → Bool) (keys others : List Bytes) (i : ℕ) (d : Bytes) → All (λ key. IsTrue (covered key)) keys
    → drop 1 keys ≡ others → i < length others → IsTrue (covered (get_or others i d))
covered_after_first covered [] others i d all rest within = absurd (omega (arith, ap length rest, within))
covered_after_first covered (key ∷ keys) others i d all rest within =
    subst (λ ks. IsTrue (covered (get_or ks i d))) rest (all (suc i) d (omega (arith, ap length rest, within)))
