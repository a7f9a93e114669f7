-- What the tokens own goes from one list to the next. Assumes `Logic`.
use Rattle.std.proofs.Common.{ℕ, ◌⊎◌, List, [], ◌∷◌, ◌++◌, map, inl, inr, refl}
use mathlib.Core.List.{IsPrefix}
use seplogic.Ra.Ura.{Ura}
use base.Fraction.{full_share}
use base.Growing.{latest, at_least, Least}
use base.Logic.{SProp, ent, sep, ex, guard, upd, emp, via}
use base.Fml.{Fml}
use base.Shift.{Keyless}
use base.Stored.{Gv, Coded}
use types.Growing.{latest_new, latest_grows, latest_shows, latest_bounds, at_least_dup, at_least_join}
use types.Kit.{‵, ◌⊛◌, some, given, later, ◌$◌, ◌∵◌, !, qed, by, move, keep, drop, split, pick, learn, show, check, done, use0, use1, use2}
use types.Kit.{updating, await, now}
use types.Logic.{Logic, sem}
use types.Owned.{basic}
use Rattle.history.specs.Kept.{lists, latest_owns, reached_owns}
use Rattle.history.specs.Orders.{IsLonger}
use Rattle.history.proofs.Lists.{prefix_refl, prefix_in, prefix_out, one_begins}

-- no thread's own token is in it
module _ {E : Type 0} (code : E → Gv) (name : ℕ) (list : List E) where
  pub latest_keyless : Keyless (latest_owns code name list)
  unfolding latest_owns latest
  latest_keyless = tt

  pub reached_keyless : Keyless (reached_owns code name list)
  unfolding reached_owns at_least
  reached_keyless = tt

module _ {M : Type 1} {𝓤 : Ura M} (𝓛 : Logic 𝓤) {E : Type 0} (cv : Coded E) where
  open 𝓛 use {H}

  abbrev Pr : Type 2
  Pr = SProp 𝓤

  abbrev ◌⊢◌ : Pr → Pr → Type 1
  P ⊢ Q = ent 𝓤 P Q

  abbrev ◌∗◌ : Pr → Pr → Pr
  P ∗ Q = sep 𝓤 P Q

  abbrev ⟦◌⟧ : Fml → Pr
  ⟦ P ⟧ = sem 𝓛 P

  infix 26 ◌⊢◌
  infixr 35 ◌∗◌
  module _ (name : ℕ) where
    abbrev All : List E → Fml
    All = latest_owns cv.code name

    abbrev Some : List E → Fml
    Some = reached_owns cv.code name

    pub twice : (xs : List E) → ⟦ Some xs ⟧ ⊢ ⟦ Some xs ⟧ ∗ ⟦ Some xs ⟧
    unfolding reached_owns
    twice xs = at_least_dup lists 𝓛 name (map cv.code xs)

    -- ---- One more write

    under : (xs seen : List E) → ⟦ All xs ⟧ ∗ ⟦ Some seen ⟧ ⊢ guard 𝓤 (IsPrefix seen xs) (⟦ All xs ⟧ ∗ ⟦ Some seen ⟧)
    unfolding latest_owns reached_owns
    under xs seen = qed 𝓛 (‵ (All xs) ∷ ‵ (Some seen) ∷ []) ∵
        use2 𝓛 (given (IsPrefix (map cv.code seen) (map cv.code xs)) (‵ (All xs) ⊛ ‵ (Some seen)))
        (latest_bounds lists 𝓛 full_share name (map cv.code xs) (map cv.code seen)) $
        learn ! (λ p. check ! (prefix_out cv seen xs p) $ done !)

    shown : (xs : List E) → ⟦ All xs ⟧ ⊢ ⟦ All xs ⟧ ∗ ⟦ Some xs ⟧
    unfolding latest_owns reached_owns
    shown xs = latest_shows lists 𝓛 full_share name (map cv.code xs) (map cv.code xs) (prefix_refl (map cv.code xs))

    grown : (xs more : List E) → ⟦ All xs ⟧ ⊢ H.⇛ ⟦ All (xs ++ more) ⟧
    unfolding latest_owns
    grown xs more = via 𝓤 _ (latest_grows lists 𝓛 name (map cv.code xs) (map cv.code (xs ++ more)) (prefix_in cv xs more)) (basic 𝓛 _)

    pub adds : (xs seen more : List E) → ⟦ All xs ⟧ ∗ ⟦ Some seen ⟧
        ⊢ H.⇛ (guard 𝓤 (IsPrefix seen xs) (⟦ All (xs ++ more) ⟧ ∗ ⟦ Some (xs ++ more) ⟧))
    adds xs seen more = qed 𝓛 (‵ (All xs) ∷ ‵ (Some seen) ∷ []) ∵ updating ! $
        use2 𝓛 (given (IsPrefix seen xs) (‵ (All xs) ⊛ ‵ (Some seen))) (under xs seen) $ learn ! (λ p. split ! $
        use1 𝓛 (later (‵ (All (xs ++ more)))) (grown xs more) $ await ! tt $
        use1 𝓛 (‵ (All (xs ++ more)) ⊛ ‵ (Some (xs ++ more))) (shown (xs ++ more)) $ split ! $ now ! $
        check ! p $ keep ! (0 ∷ 1 ∷ []) $ done !)

    -- ---- Two that were seen

    abbrev Longer : List E → List E → List E → Pr
    Longer xs ys zs = guard 𝓤 (IsLonger xs ys zs) ⟦ Some zs ⟧

    joined : (xs ys : List E) → ⟦ Some xs ⟧ ∗ ⟦ Some ys ⟧
        ⊢ ex 𝓤 (λ (gs : List Gv). guard 𝓤 (Least lists.le (map cv.code xs) (map cv.code ys) gs) ⟦ at_least lists name gs ⟧)
    unfolding reached_owns
    joined xs ys = at_least_join lists 𝓛 name (map cv.code xs) (map cv.code ys)

    the_longer : (xs ys : List E) → IsPrefix xs ys ⊎ IsPrefix ys xs → ⟦ Some xs ⟧ ∗ ⟦ Some ys ⟧ ⊢ ex 𝓤 (Longer xs ys)
    the_longer xs ys (inl p) = qed 𝓛 (‵ (Some xs) ∷ ‵ (Some ys) ∷ []) ∵
        show ! (Longer xs ys) ys $ check ! (p, prefix_refl ys, inr refl) $ drop ! $ done !
    the_longer xs ys (inr p) = qed 𝓛 (‵ (Some xs) ∷ ‵ (Some ys) ∷ []) ∵
        show ! (Longer xs ys) xs $ check ! (prefix_refl xs, p, inl refl) $ keep ! (0 ∷ []) $ done !

    pub learns : (xs ys : List E) → ⟦ Some xs ⟧ ∗ ⟦ Some ys ⟧ ⊢ ex 𝓤 (Longer xs ys)
    learns xs ys = qed 𝓛 (‵ (Some xs) ∷ ‵ (Some ys) ∷ []) ∵ use1 𝓛 (‵ (Some xs) ⊛ ‵ (Some xs)) (twice xs) $ split ! $ move ! (2 ∷ []) $
        use1 𝓛 (‵ (Some ys) ⊛ ‵ (Some ys)) (twice ys) $ split ! $ move ! (2 ∷ 0 ∷ []) $
        use2 𝓛 (some (λ (gs : List Gv). given (Least lists.le (map cv.code xs) (map cv.code ys) gs) (‵ (at_least lists name gs))))
        (joined xs ys) $ pick ! (λ gs. learn ! (λ least.
        drop ! $ move ! (1 ∷ 0 ∷ []) $ by ! (the_longer xs ys (one_begins cv xs ys gs least.0 least.1))))

  -- ---- A list of its own

  abbrev Begun : ℕ → Pr
  Begun name = ⟦ latest_owns cv.code name [] ⟧ ∗ ⟦ reached_owns cv.code name [] ⟧

  fresh : emp 𝓤 ⊢ upd 𝓤 (ex 𝓤 (λ (name : ℕ). ⟦ latest_owns cv.code name [] ⟧))
  unfolding latest_owns
  fresh = latest_new lists 𝓛 []

  pub begins : emp 𝓤 ⊢ H.⇛ (ex 𝓤 Begun)
  begins = qed 𝓛 [] ∵ updating ! $
      use0 𝓛 (later (some (λ (name : ℕ). ‵ (latest_owns cv.code name [])))) (via 𝓤 _ fresh (basic 𝓛 _)) $ await ! tt $ pick ! (λ name.
      use1 𝓛 (‵ (latest_owns cv.code name []) ⊛ ‵ (reached_owns cv.code name [])) (shown name []) $ split ! $
      now ! $ show ! Begun name $ done !)
