-- How many of its queues a request heads.
use Rattle.std.proofs.Common.{◌≡◌, ◌≢◌, ℕ, suc, ◌<◌, ◌≤◌, ◌==◌, ◌||◌, Bool, true, false, cond, List, [], ◌∷◌, length}
use Rattle.std.proofs.Common.{refl, sym, ap, ◌∙◌, subst, arith, inl, inr, eqb-true, eq-eqb, lt_irrefl}
use Rattle.std.proofs.lemmas.Bool.{or_cases, both_ways, cases_Bool}
use Rattle.groups.specs.GroupSet.{has, IsAscending}
use Rattle.groups.specs.Order.{In}
use Rattle.groups.specs.declared.request.RequestId.{RequestId}
use Rattle.skeen_core.specs.declared.packet.Delivered.{Delivered}
use Rattle.groups.proofs.Ids.{same_id-true, same_id-refl}
use Rattle.delivery.specs.Ready.{QueueOf, IsReady}
use Rattle.delivery.specs.Queues.{IsSound}
use Rattle.delivery.specs.Heads.{head_of, is_named, headed_among, headed}

-- ---- sets of groups

pub has_first : (g : ℕ) (gs : List ℕ) → has (g ∷ gs) g ≡ true
has_first g gs = ap (λ b. b || has gs g) (eq-eqb g g refl)

pub has_rest : (g h : ℕ) (gs : List ℕ) → has gs h ≡ true → has (g ∷ gs) h ≡ true
has_rest g h gs k = ap (λ b. g == h || b) k ∙ or_true (g == h)
  where
    or_true : (b : Bool) → (b || true) ≡ true
    or_true true = refl
    or_true false = refl

pub has_once : (g : ℕ) (gs : List ℕ) → IsAscending (g ∷ gs) → has gs g ≡ false
has_once g gs up = elim (cases_Bool (has gs g)) [ inl h ↦ absurd (lt_irrefl g (up.0 g h)) | inr h ↦ h ]

-- ---- the head of a queue

pub record StartsWith (q : List Delivered) (i : RequestId) : Type 0 where
  pub one : Delivered
  pub rest : List Delivered
  pub is : q ≡ one ∷ rest
  pub id : one.id ≡ i

pub starts_with : (q : List Delivered) (i : RequestId) → is_named (head_of q) i ≡ true → StartsWith q i
starts_with [] i h = absurd (both_ways _ refl h)
starts_with (x ∷ xs) i h = record { one = x; rest = xs; is = refl; id = same_id-true x.id i h }

pub named_head : (q rest : List Delivered) (d : Delivered) → q ≡ d ∷ rest → is_named (head_of q) d.id ≡ true
named_head q rest d e = ap (λ l. is_named (head_of l) d.id) e ∙ same_id-refl d.id

pub head_in : (q rest : List Delivered) (d : Delivered) → q ≡ d ∷ rest → In d q
head_in q rest d e = subst (λ l. In d l) (sym e) (inl refl)

pub unnamed : (q : List Delivered) (i : RequestId) → q ≡ [] → is_named (head_of q) i ≡ false
unnamed q i e = ap (λ l. is_named (head_of l) i) e

-- ---- how many

module _ (queue : QueueOf) (i : RequestId) where
  pub headed_le : (gs : List ℕ) → headed_among queue i gs ≤ length gs
  headed_le [] = omega arith
  headed_le (g ∷ gs) = let ih = headed_le gs in
      elim (is_named (head_of (queue g)) i) as (λ b. cond b (suc (headed_among queue i gs)) (headed_among queue i gs) ≤ length (g ∷ gs)) [
        | true ↦ omega arith
        | false ↦ omega arith
      ]

  pub headed_lt : (gs : List ℕ) (g : ℕ) → has gs g ≡ true → is_named (head_of (queue g)) i ≡ false
      → headed_among queue i gs < length gs
  headed_lt [] g h e = absurd (both_ways _ refl h)
  headed_lt (x ∷ xs) g h e = elim (or_cases (x == g) (has xs g) h) [
    | inl at ↦
        let most = headed_le xs in
        let none : is_named (head_of (queue x)) i ≡ false = subst (λ (k : ℕ). is_named (head_of (queue k)) i ≡ false) (sym
        (eqb-true x g at)) e in
        let is = ap (λ b. cond b (suc (headed_among queue i xs)) (headed_among queue i xs)) none in
        omega arith
    | inr there ↦
        let ih = headed_lt xs g there e in
        elim (is_named (head_of (queue x)) i) as (λ b. cond b (suc (headed_among queue i xs)) (headed_among queue i xs) < length (x ∷ xs)) [
          | true ↦ omega arith
          | false ↦ omega arith
        ]
  ]

  pub headed_all : (gs : List ℕ) → ((g : ℕ) → has gs g ≡ true → is_named (head_of (queue g)) i ≡ true) → headed_among queue i gs ≡ length gs
  headed_all [] all = refl
  headed_all (x ∷ xs) all = ap (λ b. cond b (suc (headed_among queue i xs)) (headed_among queue i xs)) (all x (has_first x xs))
      ∙ ap suc (headed_all xs (λ g h. all g (has_rest x g xs h)))

  pub headed_each : (gs : List ℕ) → headed_among queue i gs ≡ length gs → (g : ℕ) → has gs g ≡ true → is_named (head_of (queue g)) i ≡ true
  headed_each gs all g h = elim (cases_Bool (is_named (head_of (queue g)) i)) [
    | inl e ↦ e
    | inr e ↦ let less = headed_lt gs g h e in absurd (omega arith)
  ]

  pub headed_pos : (gs : List ℕ) (g : ℕ) → has gs g ≡ true → is_named (head_of (queue g)) i ≡ true → 0 < headed_among queue i gs
  headed_pos [] g h e = absurd (both_ways _ refl h)
  headed_pos (x ∷ xs) g h e = elim (or_cases (x == g) (has xs g) h) [
    | inl at ↦
        let one : is_named (head_of (queue x)) i ≡ true = subst (λ (k : ℕ). is_named (head_of (queue k)) i ≡ true) (sym
        (eqb-true x g at)) e in
        let is = ap (λ b. cond b (suc (headed_among queue i xs)) (headed_among queue i xs)) one in
        omega arith
    | inr there ↦
        let ih = headed_pos xs g there e in
        elim (is_named (head_of (queue x)) i) as (λ b. 0 < cond b (suc (headed_among queue i xs)) (headed_among queue i xs)) [
          | true ↦ omega arith
          | false ↦ omega arith
        ]
  ]

  pub record HeadsOne (gs : List ℕ) : Type 0 where
    pub group : ℕ
    pub inside : has gs group ≡ true
    pub head : is_named (head_of (queue group)) i ≡ true

  pub heads_one : (gs : List ℕ) → 0 < headed_among queue i gs → HeadsOne gs
  heads_one [] h = absurd (omega arith)
  heads_one (x ∷ xs) h = elim (is_named (head_of (queue x)) i)
      as (λ b. is_named (head_of (queue x)) i ≡ b → 0 < cond b (suc (headed_among queue i xs)) (headed_among queue i xs) → HeadsOne
      (x ∷ xs)) [
        | true ↦ λ e l. record { group = x; inside = has_first x xs; head = e }
        | false ↦ λ e l. let r = heads_one xs l in record { group = r.group; inside = has_rest x r.group xs r.inside; head = r.head }
      ] refl h

-- ---- in two states

module _ (queue queue' : QueueOf) (i : RequestId) where
  -- where the same queues have it
  pub headed_same : (gs : List ℕ)
      → ((g : ℕ) → has gs g ≡ true → is_named (head_of (queue' g)) i ≡ is_named (head_of (queue g)) i)
      → headed_among queue' i gs ≡ headed_among queue i gs
  headed_same [] same = refl
  headed_same (x ∷ xs) same =
      ap (λ b. cond b (suc (headed_among queue' i xs)) (headed_among queue' i xs)) (same x (has_first x xs))
      ∙ ap (λ n. cond (is_named (head_of (queue x)) i) (suc n) n) (headed_same xs (λ g h. same g (has_rest x g xs h)))

  -- and where one more does
  pub headed_more : (gs : List ℕ) (g : ℕ) → IsAscending gs → has gs g ≡ true → is_named (head_of (queue g)) i ≡ false
      → is_named (head_of (queue' g)) i ≡ true
      → ((h : ℕ) → h ≢ g → is_named (head_of (queue' h)) i ≡ is_named (head_of (queue h)) i)
      → headed_among queue' i gs ≡ suc (headed_among queue i gs)
  headed_more [] g up h before now other = absurd (both_ways _ refl h)
  headed_more (x ∷ xs) g up h before now other = elim (or_cases (x == g) (has xs g) h) [
    | inl at ↦
        let same : x ≡ g = eqb-true x g at in
        let rest = headed_same xs (λ k inside. other k (λ e.
        both_ways _ (has_once x xs up) (subst (λ (y : ℕ). has xs y ≡ true) (e ∙ sym same) inside))) in
        ap (λ b. cond b (suc (headed_among queue' i xs)) (headed_among queue' i xs))
        (subst (λ (y : ℕ). is_named (head_of (queue' y)) i ≡ true) (sym same) now)
        ∙ ap suc rest
        ∙ sym (ap (λ b. suc (cond b (suc (headed_among queue i xs)) (headed_among queue i xs)))
        (subst (λ (y : ℕ). is_named (head_of (queue y)) i ≡ false) (sym same) before))
    | inr there ↦
        let ne : x ≢ g = λ e. both_ways _ (has_once x xs up) (subst (λ (y : ℕ). has xs y ≡ true) (sym e) there) in
        ap (λ b. cond b (suc (headed_among queue' i xs)) (headed_among queue' i xs)) (other x ne)
        ∙ ap (λ n. cond (is_named (head_of (queue x)) i) (suc n) n) (headed_more xs g up.1 there before now other)
        ∙ up_by (is_named (head_of (queue x)) i) (headed_among queue i xs)
  ]
    where
      up_by : (b : Bool) (n : ℕ) → cond b (suc (suc n)) (suc n) ≡ suc (cond b (suc n) n)
      up_by true n = refl
      up_by false n = refl

-- ---- a request that heads all its queues is ready

pub ready_heads_all : (queue : QueueOf) (d : Delivered) → IsReady queue d → headed queue d ≡ length d.groups
ready_heads_all queue d r = headed_all queue d.id d.groups (λ g h. let a = r.heads g h in named_head (queue g) a.0 d a.1)

pub heads_all_ready : (queue : QueueOf) (g : ℕ) (d : Delivered) → IsSound queue → In d (queue g) → headed queue d ≡ length d.groups
    → IsReady queue d
heads_all_ready queue g d sound there all = record {
  somewhere = (g, sound.member g d there);
  heads = λ h inside.
      let s = starts_with (queue h) d.id (headed_each queue d.id d.groups all h inside) in
      let same : s.one ≡ d = sound.one_id h g s.one d (head_in (queue h) s.rest s.one s.is) there s.id in
      (s.rest, s.is ∙ ap (λ y. y ∷ s.rest) same);
}
