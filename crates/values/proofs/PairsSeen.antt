-- What a table of fields does, seen as a list of pairs.
use Rattle.std.proofs.Common.{◌≡◌, ℕ, Bool, true, false, cond, List, [], ◌∷◌, length, map, ◌≤◌, arith, Option, Some, refl, sym, ap, ◌∙◌}
use Rattle.std.proofs.lemmas.Bool.{true≢false}
use Rattle.std.specs.Global.{Vec}
use Rattle.std.specs.List.{IsDistinct, AllByRecursion}
use Rattle.std.specs.Map.{lookup, remove_entry, set_value, keys_of}
use Rattle.std.specs.Option.{IsSome, option_map}
use Rattle.std.specs.Str.{bytes_eq}
use Rattle.indexmap.specs.IndexMap.{insert_entry}
use Rattle.texts.specs.Texts.{Bytes, pairs_of, by_turns}
use Rattle.values.specs.HashValue.{pairs_seen, field_value, with_field, without_field}

option_map-cond : {A B : Type 0} (f : A → B) (b : Bool) (x y : Option A)
    → option_map f (cond b x y) ≡ cond b (option_map f x) (option_map f y)
option_map-cond f true x y = refl
option_map-cond f false x y = refl

pub lookup-seen : (q : Bytes) (es : List (Bytes × Vec ℕ)) → option_map (λ v. v.items) (lookup (bytes_eq q) es)
    ≡ field_value (pairs_seen es) q
lookup-seen q [] = refl
lookup-seen q (e ∷ es) =
    option_map-cond (λ v. v.items) (bytes_eq q e.0) (Some e.1) (lookup (bytes_eq q) es)
    ∙ ap (cond (bytes_eq q e.0) (Some e.1.items)) (lookup-seen q es)

seen-cond : (b : Bool) (xs ys : List (Bytes × Vec ℕ)) → pairs_seen (cond b xs ys) ≡ cond b (pairs_seen xs) (pairs_seen ys)
seen-cond true xs ys = refl
seen-cond false xs ys = refl

pub insert-seen : (k : Bytes) (v : Vec ℕ) (es : List (Bytes × Vec ℕ))
    → pairs_seen (insert_entry bytes_eq es k v) ≡ with_field (pairs_seen es) k v.items
insert-seen k v [] = refl
insert-seen k v (e ∷ es) =
    seen-cond (bytes_eq k e.0) ((e.0, v) ∷ es) (e ∷ insert_entry bytes_eq es k v)
    ∙ ap (λ rest. cond (bytes_eq k e.0) ((e.0, v.items) ∷ pairs_seen es) ((e.0, e.1.items) ∷ rest))
    (insert-seen k v es)

-- a value that is written at a field that is there
pub set-seen : (q : Bytes) (w : Vec ℕ) (es : List (Bytes × Vec ℕ)) → IsSome (lookup (bytes_eq q) es)
    → pairs_seen (set_value (bytes_eq q) es w) ≡ with_field (pairs_seen es) q w.items
set-seen q w [] there = absurd (true≢false (sym there))
set-seen q w (e ∷ es) there = by (bytes_eq q e.0) (λ h. set-seen q w es h) there
  where
    by : (b : Bool) → (IsSome (lookup (bytes_eq q) es) → pairs_seen (set_value (bytes_eq q) es w) ≡ with_field (pairs_seen es) q w.items)
        → IsSome (cond b (Some e.1) (lookup (bytes_eq q) es))
        → pairs_seen (cond b ((e.0, w) ∷ es) (e ∷ set_value (bytes_eq q) es w))
        ≡ cond b ((e.0, w.items) ∷ pairs_seen es) ((e.0, e.1.items) ∷ with_field (pairs_seen es) q w.items)
    by true rest here = refl
    by false rest there = ap (λ pairs. (e.0, e.1.items) ∷ pairs) (rest there)

pub remove-seen : (q : Bytes) (es : List (Bytes × Vec ℕ)) → pairs_seen (remove_entry (bytes_eq q) es) ≡ without_field (pairs_seen es) q
remove-seen q [] = refl
remove-seen q (e ∷ es) =
    seen-cond (bytes_eq q e.0) es (e ∷ remove_entry (bytes_eq q) es)
    ∙ ap (λ rest. cond (bytes_eq q e.0) (pairs_seen es) ((e.0, e.1.items) ∷ rest)) (remove-seen q es)

pub distinct-seen : (es : List (Bytes × Vec ℕ)) → IsDistinct bytes_eq (keys_of es)
    → IsDistinct bytes_eq (map (λ p. p.0) (pairs_seen es))
unfolding IsDistinct
distinct-seen [] h = h
distinct-seen (e ∷ es) h = (apart es h.0, distinct-seen es h.1)
  where
    apart : (fs : List (Bytes × Vec ℕ)) → AllByRecursion (λ y. bytes_eq e.0 y ≡ false) (keys_of fs)
        → AllByRecursion (λ y. bytes_eq e.0 y ≡ false) (map (λ p. p.0) (pairs_seen fs))
    apart [] h = h
    apart (f ∷ fs) h = (h.0, apart fs h.1)

pub pairs_of-by_turns : (pairs : List (Bytes × Bytes)) → pairs_of (by_turns pairs) ≡ pairs
pairs_of-by_turns [] = refl
pairs_of-by_turns (pair ∷ pairs) = ap (λ rest. (pair.0, pair.1) ∷ rest) (pairs_of-by_turns pairs)

pub pairs_of-few : (turns : List Bytes) → length turns ≤ 1 → pairs_of turns ≡ []
pairs_of-few [] few = refl
pairs_of-few (a ∷ []) few = refl
pairs_of-few (a ∷ b ∷ rest) few = absurd (omega arith)

pub ruleset seen = (distinct-seen, pairs_of-by_turns)
