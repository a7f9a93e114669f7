-- Lists whose ids all differ, and one of that id taken out.
use Rattle.std.proofs.Common.{◌≡◌, ◌≢◌, suc, ◌<◌, ◌≤◌, true, false, cond, List, [], ◌∷◌, ◌++◌, length, slice_index_or}
use Rattle.std.proofs.Common.{refl, sym, ap, ◌∙◌, subst, arith, inl, inr}
use Rattle.std.specs.List.{remove}
use Rattle.groups.specs.Order.{In}
use Rattle.groups.specs.Request.{same_id}
use Rattle.groups.specs.declared.request.RequestId.{RequestId}
use Rattle.groups.proofs.Ids.{same_id-true, same_id-refl, ne-same_id}
use Rattle.groups.proofs.Lists.{In-end}
use Rattle.delivery.specs.Heads.{AreApart, place_of, without, counted}
use Rattle.delivery.specs.declared.heads.Heading.{Heading}

-- ---- the first of that id is taken out

pub removed : {X : Type 0} (id : X → RequestId) (i : RequestId) (xs : List X) → remove xs (place_of id i xs) ≡ without id i xs
removed id i [] = refl
removed {X} id i (x ∷ xs) = elim (same_id (id x) i) as (λ b. remove (x ∷ xs) (cond b 0 (suc (place_of id i xs))) ≡ cond b xs
    (x ∷ without id i xs)) [
      | true ↦ refl
      | false ↦ ap (λ l. x ∷ l) (removed id i xs)
    ]

-- where there is none, all are left
pub none_taken : {X : Type 0} (id : X → RequestId) (i : RequestId) (xs : List X) → length xs ≤ place_of id i xs → xs ≡ without id i xs
none_taken id i [] h = refl
none_taken {X} id i (x ∷ xs) h = elim (same_id (id x) i)
    as (λ b. length (x ∷ xs) ≤ cond b 0 (suc (place_of id i xs)) → x ∷ xs ≡ cond b xs (x ∷ without id i xs)) [
      | true ↦ λ l. absurd (omega arith)
      | false ↦ λ l. ap (λ t. x ∷ t) (none_taken id i xs (omega arith))
    ] h

pub no_longer : {X : Type 0} (id : X → RequestId) (i : RequestId) (xs : List X) → length (without id i xs) ≤ length xs
no_longer id i [] = omega arith
no_longer {X} id i (x ∷ xs) = let ih = no_longer id i xs in
    elim (same_id (id x) i) as (λ b. length (cond b xs (x ∷ without id i xs)) ≤ length
    (x ∷ xs)) [ true ↦ omega arith | false ↦ omega arith ]

pub record Left {X : Type 0} (id : X → RequestId) (i : RequestId) (xs : List X) (y : X) : Type 0 where
  pub there : In y xs
  pub other : id y ≢ i

-- of those whose ids differ, the ones left are those of other ids
pub in_without : {X : Type 0} (id : X → RequestId) (i : RequestId) (xs : List X) (y : X) → AreApart id xs → In y (without id i xs)
    → Left id i xs y
in_without id i [] y apart there = absurd there
in_without {X} id i (x ∷ xs) y apart there = elim (same_id (id x) i)
    as (λ b. same_id (id x) i ≡ b → In y (cond b xs (x ∷ without id i xs)) → Left id i (x ∷ xs) y) [
      | true ↦ λ e k. record { there = inr k; other = λ same. apart.0 y k (same ∙ sym (same_id-true (id x) i e)) }
      | false ↦ λ e. elim [
        | inl same ↦ record { there = inl same; other = λ s. differ e (sym (ap id same) ∙ s) }
        | inr k ↦ let l = in_without id i xs y apart.1 k in record { there = inr l.there; other = l.other }
      ]
    ] refl there
  where
    differ : same_id (id x) i ≡ false → id x ≢ i
    differ e s = absurd (true_is (sym (subst (λ (j : RequestId). same_id (id x) j ≡ true) s (same_id-refl (id x))) ∙ e))
      where
        true_is : true ≡ false → ⊥
        true_is h = cc

pub without_in : {X : Type 0} (id : X → RequestId) (i : RequestId) (xs : List X) (y : X) → In y xs → id y ≢ i → In y (without id i xs)
without_in id i [] y there other = absurd there
without_in {X} id i (x ∷ xs) y there other = elim (same_id (id x) i)
    as (λ b. same_id (id x) i ≡ b → In y (cond b xs (x ∷ without id i xs))) [
      | true ↦ λ e. elim there [
        | inl same ↦ absurd (other (ap id same ∙ same_id-true (id x) i e))
        | inr k ↦ k
      ]
      | false ↦ λ e. elim there [ inl same ↦ inl same | inr k ↦ inr (without_in id i xs y k other) ]
    ] refl

-- without any premise, those left were there
pub within : {X : Type 0} (id : X → RequestId) (i : RequestId) (xs : List X) (y : X) → In y (without id i xs) → In y xs
within id i [] y there = absurd there
within {X} id i (x ∷ xs) y there = elim (same_id (id x) i) as (λ b. In y (cond b xs (x ∷ without id i xs)) → In y (x ∷ xs)) [
  | true ↦ λ k. inr k
  | false ↦ elim [ inl same ↦ inl same | inr k ↦ inr (within id i xs y k) ]
] there

pub apart_without : {X : Type 0} (id : X → RequestId) (i : RequestId) (xs : List X) → AreApart id xs → AreApart id (without id i xs)
apart_without id i [] apart = tt
apart_without {X} id i (x ∷ xs) apart = elim (same_id (id x) i) as (λ b. AreApart id (cond b xs (x ∷ without id i xs))) [
  | true ↦ apart.1
  | false ↦ ((λ y k. apart.0 y (within id i xs y k)), apart_without id i xs apart.1)
]

pub apart_end : {X : Type 0} (id : X → RequestId) (xs : List X) (z : X) → AreApart id xs → ((y : X) → In y xs → id y ≢ id z)
    → AreApart id (xs ++ z ∷ [])
apart_end id [] z apart other = ((λ y k. absurd k), tt)
apart_end id (x ∷ xs) z apart other = (
  (λ y k. elim (In-end y z xs k) [
    | inl there ↦ apart.0 y there
    | inr same ↦ λ e. other x (inl refl) (sym e ∙ ap id same)
  ]),
  apart_end id xs z apart.1 (λ y k. other y (inr k)),
)

-- ---- counts

pub counted_past : (hs : List Heading) (i : RequestId) → length hs ≤ place_of (λ (h : Heading). h.id) i hs → counted hs i ≡ 0
counted_past [] i h = refl
counted_past (x ∷ xs) i h = elim (same_id x.id i)
    as (λ b. length (x ∷ xs) ≤ cond b 0 (suc (place_of (λ (k : Heading). k.id) i xs)) → cond b x.count (counted xs i) ≡ 0) [
      | true ↦ λ l. absurd (omega arith)
      | false ↦ λ l. counted_past xs i (omega arith)
    ] h

pub counted_at : (hs : List Heading) (i : RequestId) (d : Heading) → place_of (λ (h : Heading). h.id) i hs < length hs
    → (slice_index_or hs (place_of (λ (h : Heading). h.id) i hs) d).count ≡ counted hs i
counted_at [] i d h = absurd (omega arith)
counted_at (x ∷ xs) i d h = elim (same_id x.id i)
    as (λ b. cond b 0 (suc (place_of (λ (k : Heading). k.id) i xs)) < length (x ∷ xs)
    → (slice_index_or (x ∷ xs) (cond b 0 (suc (place_of (λ (k : Heading). k.id) i xs))) d).count ≡ cond b x.count (counted xs i)) [
      | true ↦ λ l. refl
      | false ↦ λ l. counted_at xs i d (omega arith)
    ] h

pub counted_none : (hs : List Heading) (i : RequestId) → ((h : Heading) → In h hs → h.id ≢ i) → counted hs i ≡ 0
counted_none [] i other = refl
counted_none (h ∷ hs) i other = ap (λ b. cond b h.count (counted hs i)) (ne-same_id h.id i (other h (inl refl)))
    ∙ counted_none hs i (λ k there. other k (inr there))

pub counted_there : (hs : List Heading) (h : Heading) → AreApart (λ (k : Heading). k.id) hs → In h hs → counted hs h.id ≡ h.count
counted_there [] h apart there = absurd there
counted_there (x ∷ xs) h apart (inl same) = ap (λ b. cond b x.count (counted xs h.id)) (same_as x h same) ∙ ap (λ
    (k : Heading). k.count) (sym same)
  where
    same_as : (a b : Heading) → b ≡ a → same_id a.id b.id ≡ true
    same_as a b e = subst (λ (k : Heading). same_id a.id k.id ≡ true) (sym e) (same_id-refl a.id)
counted_there (x ∷ xs) h apart (inr k) = ap (λ b. cond b x.count (counted xs h.id)) (ne-same_id x.id h.id (λ e. apart.0 h k (sym e)))
    ∙ counted_there xs h apart.1 k
