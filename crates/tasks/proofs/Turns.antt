-- One thing more done in turn, behind the others.
use Rattle.std.proofs.Common.{◌≡◌, List, [], ◌∷◌, ◌++◌, refl, ap, sym, ◌∙◌}
use Rattle.tasks.specs.InTurn.{in_turn}
use Rattle.command_cases.specs.Case.{Case}
use Rattle.keyspace.specs.Map.{Map}
use Rattle.resp.specs.Content.{Content}

pub pair : {A B : Type 0} (a b : A) (x y : B) → a ≡ b → x ≡ y → ◌≡◌ {A = A × B} (a, x) (b, y)
pair {A} {B} a b x y p q = let there : ◌≡◌ {A = A × B} (a, x) (b, x) = ap (λ v. (v, x)) p in there ∙ ap (λ v. (b, v)) q

module _ {A : Type 0} (case : A → Case) where
  pub left-push : (m : Map) (done : List A) (a : A) → (in_turn case m (done ++ a ∷ [])).0 ≡ (case a (in_turn case m done).0).0
  left-push m [] a = refl
  left-push m (b ∷ done) a = left-push (case b m).0 done a

  pub replies-push : (m : Map) (done : List A) (a : A)
      → (in_turn case m (done ++ a ∷ [])).1 ≡ (in_turn case m done).1 ++ (case a (in_turn case m done).0).1 ∷ []
  replies-push m [] a = refl
  replies-push m (b ∷ done) a = ap (λ l. (case b m).1 ∷ l) (replies-push (case b m).0 done a)

  -- one more at the end
  pub in_turn-push : (m n : Map) (done : List A) (a : A) (replies : List Content) (left : Map) (reply : Content)
      → (n, replies) ≡ in_turn case m done → (left, reply) ≡ case a n → (left, replies ++ reply ∷ []) ≡ in_turn case m (done ++ a ∷ [])
  in_turn-push m n done a replies left reply before here =
      pair _ _ _ _
      (ap (λ v. v.0) here ∙ ap (λ v. (case a v).0) (ap (λ v. v.0) before) ∙ sym (left-push m done a))
      (ap (λ l. l ++ reply ∷ []) (ap (λ v. v.1) before)
      ∙ ap (λ c. (in_turn case m done).1 ++ c ∷ []) (ap (λ v. v.1) here ∙ ap (λ v. (case a v).1) (ap (λ v. v.0) before))
      ∙ sym (replies-push m done a))

  -- some more at the end
  pub in_turn-append : (m mid new : Map) (done more : List A) (replies others : List Content)
      → (mid, replies) ≡ in_turn case m done → (new, others) ≡ in_turn case mid more
      → (new, replies ++ others) ≡ in_turn case m (done ++ more)
  in_turn-append m mid new [] more replies others before behind =
      pair _ _ _ _
      (ap (λ v. v.0) behind ∙ ap (λ n. (in_turn case n more).0) (ap (λ v. v.0) before))
      (ap (λ l. l ++ others) (ap (λ v. v.1) before) ∙ ap (λ v. v.1) behind ∙ ap (λ n. (in_turn case n more).1) (ap (λ v. v.0) before))
  in_turn-append m mid new (a ∷ done) more replies others before behind =
      let rest = in_turn-append (case a m).0 mid new done more (in_turn case (case a m).0 done).1 others
      (pair _ _ _ _ (ap (λ v. v.0) before) refl) behind in
      pair _ _ _ _ (ap (λ v. v.0) rest)
      (ap (λ l. l ++ others) (ap (λ v. v.1) before) ∙ ap (λ l. (case a m).1 ∷ l) (ap (λ v. v.1) rest))
