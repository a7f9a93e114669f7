-- The heads of some groups' queues are taken out, group by group.
use Rattle.std.proofs.Common.{◌≡◌, ◌≢◌, ℕ, ◌<◌, ◌≤◌, ◌==◌, ◌||◌, Bool, true, false, cond, drop, List, [], ◌∷◌, length, slice_index_or}
use Rattle.std.proofs.Common.{slice_set, refl, sym, ap, ◌∙◌, subst, arith, inl, inr, eq-eqb, ne_eqb, lt_irrefl}
use Rattle.std.proofs.lemmas.Bool.{cases_Bool, cases_eq}
use Rattle.std.proofs.lemmas.List.{length-set}
use Rattle.groups.specs.GroupSet.{has, IsAscending}
use Rattle.skeen_core.specs.declared.packet.Delivered.{Delivered}
use Rattle.delivery.specs.Queues.{QueueView, requests_of, rooms_of, queue_of, room_of}
use Rattle.delivery.proofs.Rows.{queue_at, queue_set, queue_set_other, rooms_kept}

-- what is left of a queue
abbrev pub without_head : Bool → List Delivered → List Delivered
without_head b q = cond b (drop 1 q) q

-- the groups that are left have their heads still
pub record HeadsGone (old cur : List QueueView) (groups rest : List ℕ) : Type 0 where
  pub ascending : IsAscending rest
  pub among : (g : ℕ) → has rest g ≡ true → has groups g ≡ true
  pub queue : (g : ℕ) → queue_of (requests_of cur) g
      ≡ cond (has rest g) (queue_of (requests_of old) g) (without_head (has groups g) (queue_of (requests_of old) g))
  pub room : (g : ℕ) → room_of (rooms_of old) g ≤ room_of (rooms_of cur) g
  pub count : length cur ≡ length old

none_gone : (b : Bool) (q : List Delivered) → q ≡ cond b q (without_head b q)
none_gone true q = refl
none_gone false q = refl

pub gone_none : (qs : List QueueView) (groups : List ℕ) → IsAscending groups → HeadsGone qs qs groups groups
gone_none qs groups up = record {
  ascending = up;
  among = λ g h. h;
  queue = λ g. none_gone (has groups g) (queue_of (requests_of qs) g);
  room = λ g. omega arith;
  count = refl;
}

pub record Popped (cur : List QueueView) (n : ℕ) (q q' : QueueView) : Type 0 where
  pub low : n < length cur
  pub was : q ≡ slice_index_or cur n q
  pub now : q'.requests ≡ drop 1 q.requests
  pub room : q.room ≤ q'.room

pub gone_more : (old cur : List QueueView) (groups it rest : List ℕ) (n : ℕ) (q q' : QueueView) → HeadsGone old cur groups it
    → it ≡ n ∷ rest → Popped cur n q q' → HeadsGone old (slice_set cur n q') groups rest
gone_more old cur groups it rest n q q' s is p = record {
  ascending = up.1;
  among = λ g h. s.among g (had g h);
  queue = λ g. elim (cases_eq g n) [
    | inl at ↦ subst (λ (k : ℕ). queue_of (requests_of (slice_set cur n q')) k
        ≡ cond (has rest k) (queue_of (requests_of old) k) (without_head (has groups k) (queue_of (requests_of old) k))) (sym at) here
    | inr ne ↦ queue_set_other cur n q' g ne ∙ s.queue g
        ∙ ap (λ b. cond b (queue_of (requests_of old) g) (without_head (has groups g) (queue_of (requests_of old) g))) (elsewhere g ne)
  ];
  room = λ g. let a = s.room g in let b = rooms_kept cur n q q' p.low p.was p.room g in omega arith;
  count = length-set cur n q' ∙ s.count;
}
  where
    up : IsAscending (n ∷ rest)
    up = subst (λ l. IsAscending l) is s.ascending

    had : (g : ℕ) → has rest g ≡ true → has it g ≡ true
    had g h = ap (λ l. has l g) is ∙ ap (λ b. n == g || b) h ∙ or_true (n == g)
      where
        or_true : (b : Bool) → (b || true) ≡ true
        or_true true = refl
        or_true false = refl

    first : has it n ≡ true
    first = ap (λ l. has l n) is ∙ ap (λ b. b || has rest n) (eq-eqb n n refl)

    once : has rest n ≡ false
    once = elim (cases_Bool (has rest n)) [ inl h ↦ absurd (lt_irrefl n (up.0 n h)) | inr h ↦ h ]

    elsewhere : (g : ℕ) → g ≢ n → has it g ≡ has rest g
    elsewhere g ne = ap (λ l. has l g) is ∙ ap (λ b. b || has rest g) (ne_eqb n g (λ e. ne (sym e)))

    before : queue_of (requests_of cur) n ≡ queue_of (requests_of old) n
    before = s.queue n ∙ ap (λ b. cond b (queue_of (requests_of old) n) (without_head (has groups n) (queue_of (requests_of old) n))) first

    here : queue_of (requests_of (slice_set cur n q')) n
        ≡ cond (has rest n) (queue_of (requests_of old) n) (without_head (has groups n) (queue_of (requests_of old) n))
    here = queue_set cur n q' p.low ∙ p.now ∙ ap (λ l. drop 1 l) (sym (queue_at cur n q p.low p.was) ∙ before)
        ∙ ap (λ b. without_head b (queue_of (requests_of old) n)) (sym (s.among n first))
        ∙ ap (λ b. cond b (queue_of (requests_of old) n) (without_head (has groups n) (queue_of (requests_of old) n))) (sym once)

pub gone_place : (old cur : List QueueView) (groups it rest : List ℕ) (n : ℕ) → HeadsGone old cur groups it → it ≡ n ∷ rest
    → ((g : ℕ) → has groups g ≡ true → g < length old) → n < length cur
gone_place old cur groups it rest n s is low =
    let first : has it n ≡ true = ap (λ l. has l n) is ∙ ap (λ b. b || has rest n) (eq-eqb n n refl) in
    let less = low n (s.among n first) in
    let count = s.count in
    omega arith

pub gone_all : (old cur : List QueueView) (groups it : List ℕ) → HeadsGone old cur groups it → it ≡ [] → (g : ℕ)
    → queue_of (requests_of cur) g ≡ without_head (has groups g) (queue_of (requests_of old) g)
gone_all old cur groups it s is g = s.queue g
    ∙ ap (λ l. cond (has l g) (queue_of (requests_of old) g) (without_head (has groups g) (queue_of (requests_of old) g))) is
