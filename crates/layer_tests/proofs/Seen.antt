-- What has been delivered tells what may be delivered next.
use Rattle.std.proofs.Common.{◌≡◌, ℕ, zero, suc, ◌<◌, Bool, true, false, cond, take, drop, List, [], ◌∷◌, ◌++◌, length, slice_set}
use Rattle.std.proofs.Common.{refl, sym, ap, ◌∙◌, subst, arith, inl, inr}
use Rattle.std.proofs.lemmas.Bool.{cases_eq, both_ways}
use Rattle.std.proofs.lemmas.List.{get_or-set_same, get_or-set_other, length-set}
use Rattle.groups.specs.GroupSet.{has}
use Rattle.groups.specs.Order.{In}
use Rattle.groups.specs.Request.{same_id}
use Rattle.groups.specs.Stamp.{stamp_lt}
use Rattle.groups.specs.declared.stamp.Stamp.{Stamp}
use Rattle.skeen_core.specs.declared.packet.Delivered.{Delivered}
use Rattle.groups.proofs.Ids.{eq-same_id}
use Rattle.groups.proofs.Stamps.{lt_irrefl}
use Rattle.groups.proofs.Lists.{In-left, In-right, In-end}
use Rattle.delivery.specs.Ready.{QueueOf}
use Rattle.delivery.specs.Queues.{queue_of, is_above_last, MayAppend}
use Rattle.delivery.specs.Taking.{popped, popped_all, Poppable}
use Rattle.layer_tests.specs.Seen.{AreSeen, GoesWith, GoesWithAll}

last_below : (q : List Delivered) (s : Stamp) → ((e : Delivered) → In e q → stamp_lt e.stamp s ≡ true) → is_above_last q s ≡ true
last_below [] s below = refl
last_below (d ∷ []) s below = below d (inl refl)
last_below (d ∷ e ∷ es) s below = last_below (e ∷ es) s (λ x i. below x (inr i))

pub may_append : (seen : List (ℕ × Delivered)) (queues : List (List Delivered)) (g : ℕ) (d : Delivered) → AreSeen seen queues
    → GoesWithAll seen g d → has d.groups g ≡ true → MayAppend (queue_of queues) g d
may_append seen queues g d are goes member = record {
  member = member;
  above = last_below (queue_of queues g) d.stamp (λ e i. (goes (g, e) (are g e i)).above refl);
  same = λ h e i s. (goes (h, e) (are h e i)).same s;
  single = λ h e i s. (goes (h, e) (are h e i)).single s;
}

-- ---- what stands in the queues

pub seen_none : (queues : List (List Delivered)) → ((g : ℕ) → queue_of queues g ≡ []) → AreSeen [] queues
seen_none queues none g d i = subst (λ l. In d l) (none g) i

pub seen_more : (seen : List (ℕ × Delivered)) (x : ℕ × Delivered) (queues : List (List Delivered)) → AreSeen seen queues
    → AreSeen (seen ++ x ∷ []) queues
seen_more seen x queues are g d i = In-left (g, d) seen (x ∷ []) (are g d i)

pub seen_appended : (seen : List (ℕ × Delivered)) (queues queues' : List (List Delivered)) (g : ℕ) (d : Delivered) → g < length queues
    → queues' ≡ slice_set queues g (queue_of queues g ++ d ∷ []) → AreSeen seen queues → AreSeen (seen ++ (g, d) ∷ []) queues'
seen_appended seen queues queues' g d low is are h e i = elim (cases_eq h g) [
  | inl at ↦
      let here : queue_of queues' g ≡ queue_of queues g ++ d ∷ [] =
      ap (λ l. queue_of l g) is ∙ get_or-set_same queues g (queue_of queues g ++ d ∷ []) [] low in
      elim (In-end e d (queue_of queues g) (subst (λ l. In e l) here (subst (λ (k : ℕ). In e (queue_of queues' k)) at i))) [
        | inl before ↦ In-left (h, e) seen ((g, d) ∷ []) (are h e (subst (λ (k : ℕ). In e (queue_of queues k)) (sym at) before))
        | inr same ↦ In-right (h, e) seen ((g, d) ∷ []) (inl (λ k. (at k, same k)))
      ]
  | inr ne ↦ In-left (h, e) seen ((g, d) ∷ []) (are h e (subst (λ l. In e l)
      (ap (λ l. queue_of l h) is ∙ get_or-set_other queues g h (queue_of queues g ++ d ∷ []) [] ne) i))
]

in_rest : (q : List Delivered) (e : Delivered) → In e (drop 1 q) → In e q
in_rest [] e i = absurd i
in_rest (x ∷ xs) e i = inr i

in_popped : (d : Delivered) (queue : QueueOf) (h : ℕ) (e : Delivered) → In e (popped d queue h) → In e (queue h)
in_popped d queue h e i = by_case (has d.groups h) i
  where
    by_case : (b : Bool) → In e (cond b (drop 1 (queue h)) (queue h)) → In e (queue h)
    by_case true j = in_rest (queue h) e j
    by_case false j = j

in_popped_all : (ds : List Delivered) (queue : QueueOf) (h : ℕ) (e : Delivered) → In e (popped_all ds queue h) → In e (queue h)
in_popped_all [] queue h e i = i
in_popped_all (d ∷ ds) queue h e i = in_popped d queue h e (in_popped_all ds (popped d queue) h e i)

pub seen_popped : (seen : List (ℕ × Delivered)) (queues queues' : List (List Delivered)) (d : Delivered)
    → queue_of queues' ≡ popped d (queue_of queues) → AreSeen seen queues → AreSeen seen queues'
seen_popped seen queues queues' d is are h e i = are h e (in_popped d (queue_of queues) h e (subst (λ (u : QueueOf). In e (u h)) is i))

pub seen_popped_all : (seen : List (ℕ × Delivered)) (queues queues' : List (List Delivered)) (ds : List Delivered)
    → queue_of queues' ≡ popped_all ds (queue_of queues) → AreSeen seen queues → AreSeen seen queues'
seen_popped_all seen queues queues' ds is are h e i =
    are h e (in_popped_all ds (queue_of queues) h e (subst (λ (u : QueueOf). In e (u h)) is i))

-- the first of those that can be popped can be
pub poppable_take : (n : ℕ) (ds : List Delivered) (queue : QueueOf) → Poppable queue ds → Poppable queue (take n ds)
poppable_take zero ds queue can = tt
poppable_take (suc n) [] queue can = tt
poppable_take (suc n) (d ∷ ds) queue can = (can.0, poppable_take n ds (popped d queue) can.1)

-- ---- two requests

module _ (d e : Delivered) (order : stamp_lt d.stamp e.stamp ≡ true) (differ : same_id d.id e.id ≡ false) where
  other_id : d.id ≡ e.id → ⊥
  other_id s = both_ways (same_id d.id e.id) differ (eq-same_id d.id e.id s)

  other_stamp : d.stamp ≡ e.stamp → ⊥
  other_stamp s = both_ways (stamp_lt e.stamp e.stamp) (lt_irrefl e.stamp) (subst (λ (t : Stamp). stamp_lt t e.stamp ≡ true) s order)

  behind : (g : ℕ) → GoesWith (0, d) g e
  behind g = record { above = λ at. order; same = λ s. absurd (other_id s); single = λ s. absurd (other_stamp s) }

  elsewhere : GoesWith (0, e) 1 e
  elsewhere = record { above = λ at. absurd (omega arith); same = λ s. (refl, refl); single = λ s. refl }

  goes_as : (g : ℕ) (at is : ℕ × Delivered) → at ≡ is → GoesWith is g e → GoesWith at g e
  goes_as g at is same goes = subst (λ (x : ℕ × Delivered). GoesWith x g e) (sym same) goes

  module _ (queues one : List (List Delivered)) (none : (g : ℕ) → queue_of queues g ≡ []) (two : length queues ≡ 2)
      (first : one ≡ slice_set queues 0 (queue_of queues 0 ++ d ∷ [])) where
    first_seen : AreSeen ((0, d) ∷ []) one
    first_seen = seen_appended [] queues one 0 d (omega arith) first (seen_none queues none)

    pub behind_one : has e.groups 0 ≡ true → MayAppend (queue_of one) 0 e
    behind_one member = may_append ((0, d) ∷ []) one 0 e first_seen
        (λ at i. elim i [ inl same ↦ goes_as 0 at (0, d) same (behind 0) | inr k ↦ absurd k ]) member

    pub behind_two : (both : List (List Delivered)) → both ≡ slice_set one 0 (queue_of one 0 ++ e ∷ []) → has e.groups 1 ≡ true
        → MayAppend (queue_of both) 1 e
    behind_two both second member =
        let long : length one ≡ 2 = ap (λ (l : List (List Delivered)). length l) first
        ∙ length-set queues 0 (queue_of queues 0 ++ d ∷ []) ∙ two in
        may_append ((0, d) ∷ (0, e) ∷ []) both 1 e (seen_appended ((0, d) ∷ []) one both 0 e (omega arith) second first_seen)
        (λ at i. elim i [
          | inl same ↦ goes_as 1 at (0, d) same (behind 1)
          | inr (inl same) ↦ goes_as 1 at (0, e) same elsewhere
          | inr (inr k) ↦ absurd k
        ]) member
