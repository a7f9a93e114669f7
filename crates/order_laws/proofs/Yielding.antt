-- What steps yield: it is there and determined, and of more steps it is more.
use Rattle.std.proofs.Common.{◌≡◌, List, [], ◌∷◌, ◌++◌, refl, sym, ap, ◌∙◌, subst, append_assoc}
use Rattle.journal.specs.declared.step.Step.{Step}
use Rattle.order_laws.specs.Layers.{Yields}
use Rattle.placement.specs.Layout.{Layout}
use Rattle.world.specs.Steps.{Effect, Steps, Makes, Leads}
use Rattle.world.specs.World.{World}
use Rattle.world_laws.proofs.DeterminedLaws.{steps_determine}

module _ {X : Type 0} (what : World → Step → World → List X) (t : Layout) where
  made_yields : (old new : World) (ss : List Step) (effects : List Effect) → Makes t old ss effects new →
      (xs : List X) × Yields what t old ss xs new
  made_yields old new [] effects made = ([], (refl, made.1))
  made_yields old new (s ∷ ss) [] made = absurd made
  made_yields old new (s ∷ ss) (e ∷ es) made =
      let rest = made_yields made.0 new ss es made.2 in
      (what old s made.0 ++ rest.0, (e, made.0, rest.0, made.1, rest.1, refl))

  pub yields_of : (old new : World) (ss : List Step) → Leads t old ss new → (xs : List X) × Yields what t old ss xs new
  yields_of old new ss leads = made_yields old new ss leads.0 leads.1

  pub leads_of : (old new : World) (ss : List Step) (xs : List X) → Yields what t old ss xs new → Leads t old ss new
  leads_of old new [] xs yields = ([], (refl, yields.1))
  leads_of old new (s ∷ ss) xs yields =
      let rest = leads_of yields.1 new ss yields.2 yields.4 in
      (yields.0 ∷ rest.0, (yields.1, yields.3, rest.1))

  pub same_yield : (old new new' : World) (ss : List Step) (xs ys : List X) → Yields what t old ss xs new →
      Yields what t old ss ys new' → (xs ≡ ys) × (new ≡ new')
  same_yield old new new' [] xs ys a b = (a.0 ∙ sym b.0, a.1 ∙ sym b.1)
  same_yield old new new' (s ∷ ss) xs ys a b =
      let first = steps_determine t old a.1 b.1 s a.0 b.0 a.3 b.3 in
      let rest = same_yield a.1 new new' ss a.2 b.2 a.4 (subst (λ w. Yields what t w ss b.2 new') (sym first.1) b.4) in
      (a.5 ∙ ap (λ w. what old s w ++ a.2) first.1 ∙ ap (λ l. what old s b.1 ++ l) rest.0 ∙ sym b.5, rest.1)

  -- what comes first, and what comes then
  pub record Parts (old new : World) (ss ts : List Step) (zs : List X) : Type 0 where
    pub mid : World
    pub first : List X
    pub then : List X
    pub before : Yields what t old ss first mid
    pub behind : Yields what t mid ts then new
    pub split : zs ≡ first ++ then

  pub parts_of : (old new : World) (ss ts : List Step) (zs : List X) → Yields what t old (ss ++ ts) zs new → Parts old new ss ts zs
  parts_of old new [] ts zs yields =
      record { mid = old; first = []; then = zs; before = (refl, refl); behind = yields; split = refl }
  parts_of old new (s ∷ ss) ts zs yields =
      let rest = parts_of yields.1 new ss ts yields.2 yields.4 in
      record {
        mid = rest.mid;
        first = what old s yields.1 ++ rest.first;
        then = rest.then;
        before = (yields.0, yields.1, rest.first, yields.3, rest.before, refl);
        behind = rest.behind;
        split = yields.5 ∙ ap (λ l. what old s yields.1 ++ l) rest.split ∙ sym (append_assoc (what old s yields.1) rest.first rest.then);
      }

  pub join_yields : (old mid new : World) (ss ts : List Step) (xs ys : List X) → Yields what t old ss xs mid →
      Yields what t mid ts ys new → Yields what t old (ss ++ ts) (xs ++ ys) new
  join_yields old mid new [] ts xs ys a b =
      subst (λ l. Yields what t old ts (l ++ ys) new) (sym a.0) (subst (λ w. Yields what t w ts ys new) a.1 b)
  join_yields old mid new (s ∷ ss) ts xs ys a b = (
    a.0,
    a.1,
    a.2 ++ ys,
    a.3,
    join_yields a.1 mid new ss ts a.2 ys a.4 b,
    ap (λ l. l ++ ys) a.5 ∙ append_assoc (what old s a.1) a.2 ys,
  )

  -- one step more
  pub one_more : (old mid new : World) (ss : List Step) (xs : List X) (s : Step) (effect : Effect) → Yields what t old ss xs mid →
      Steps t mid s effect new → Yields what t old (ss ++ s ∷ []) (xs ++ what mid s new) new
  one_more old mid new ss xs s effect a step =
      subst (λ l. Yields what t old (ss ++ s ∷ []) (xs ++ l) new) (append_nil_of (what mid s new))
      (join_yields old mid new ss (s ∷ []) xs (what mid s new ++ []) a (effect, new, [], step, (refl, refl), refl))
    where
      append_nil_of : (l : List X) → l ++ [] ≡ l
      append_nil_of l = Rattle.std.proofs.Common.append-nil l

  -- what more steps yield begins with what these did
  pub begins : (old mid new : World) (ss ts : List Step) (xs zs : List X) → Yields what t old ss xs mid →
      Yields what t old (ss ++ ts) zs new → (ys : List X) × (xs ++ ys ≡ zs) × Yields what t mid ts ys new
  begins old mid new ss ts xs zs a b =
      let parts = parts_of old new ss ts zs b in
      let same = same_yield old mid parts.mid ss xs parts.first a parts.before in (
        parts.then,
        ap (λ l. l ++ parts.then) same.0 ∙ sym parts.split,
        subst (λ w. Yields what t w ts parts.then new) (sym same.1) parts.behind,
      )
