-- Lists, and lists of byte strings seen through their bytes.
use Rattle.std.proofs.Common.{◌≡◌, ℕ, Bool, ◌+◌, ◌<◌, ◌||◌, List, [], ◌∷◌, ◌++◌, length, take, Some}
use Rattle.std.proofs.Common.{slice_get, slice_index_or, refl, sym, ap, ◌∙◌}
use Rattle.std.proofs.Common.{arith}
use Rattle.std.proofs.lemmas.List.{take_more}
use Rattle.std.proofs.lemmas.Option.{slice_get_within, get_or_from_slice_get}
use Rattle.std.specs.Global.{Vec}
use Rattle.std.specs.List.{list_any, remove}
use Rattle.texts.specs.Texts.{texts_of}

-- one item more
pub take_next : {A : Type 0} (xs : List A) (i : ℕ) (x : A) → slice_get xs i ≡ Some x → take (i + 1) xs ≡ take i xs ++ x ∷ []
take_next xs i x at =
    take_more xs i x (slice_get_within xs i x at) ∙ ap (λ y. take i xs ++ y ∷ []) (get_or_from_slice_get xs i x x at)

pub any_text : (p : List ℕ → Bool) (ts : List (Vec ℕ)) → list_any p (texts_of ts) ≡ list_any (λ t. p t.items) ts
any_text p [] = refl
any_text p (t ∷ ts) = ap (λ b. p t.items || b) (any_text p ts)

-- the first string, and the others
pub first_text : (ts : List (Vec ℕ)) (t : Vec ℕ) → 0 < length ts → t ≡ slice_index_or ts 0 t →
    texts_of ts ≡ t.items ∷ texts_of (remove ts 0)
first_text [] t h e = absurd (omega arith)
first_text (u ∷ ts) t h e = ap (λ (v : Vec ℕ). v.items ∷ texts_of ts) (sym e)
