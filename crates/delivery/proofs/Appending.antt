-- A request behind the last of one queue: what the queues are then, and which heads are still to be counted.
use Rattle.std.proofs.Common.{◌≡◌, ◌≢◌, ℕ, ◌+◌, ◌<◌, ◌≤◌, ◌||◌, true, false, cond, List, [], ◌∷◌, ◌++◌, Option, Some, None}
use Rattle.std.proofs.Common.{length, slice_index_or, slice_set, refl, sym, ap, ◌∙◌, subst, arith, inl, inr, eq-eqb, ne_eqb, is_some}
use Rattle.std.proofs.Common.{option_copied}
use Rattle.std.specs.Borrow.{Bor}
use Rattle.std.proofs.lemmas.Bool.{cases_eq, false≢true}
use Rattle.std.proofs.lemmas.List.{length-set}
use Rattle.groups.specs.Order.{In}
use Rattle.skeen_core.specs.declared.packet.Delivered.{Delivered}
use Rattle.delivery.specs.Ready.{QueueOf, IsReady}
use Rattle.delivery.specs.Queues.{QueueView, QueuesView, requests_of, rooms_of, queue_of, room_of, IsSound, MayAppend}
use Rattle.delivery.specs.Heads.{head_of, is_named, headed, IsPartly, AreCounted, but}
use Rattle.delivery.specs.declared.heads.Heading.{Heading}
use Rattle.delivery.proofs.Headed.{headed_same}
use Rattle.delivery.proofs.Rows.{has_place, view_of, same_queues, same_rooms, appended, sound_append, queue_at, room_at, requests_set}
use Rattle.delivery.proofs.Rows.{room_set, room_set_other, queue_set, queue_set_other}
use Rattle.delivery.proofs.Taken.{headed_by, headless}

-- ---- where the heads stay, so do the lists

module _ (queue queue' : QueueOf) (same : (g : ℕ) → head_of (queue' g) ≡ head_of (queue g)) where
  heads_too : (g : ℕ) (d : Delivered) (rest : List Delivered) → queue g ≡ d ∷ rest → (more : List Delivered) × (queue' g ≡ d ∷ more)
  heads_too g d rest is = headed_by (queue' g) d (same g ∙ ap head_of is)

  ready_too : (d : Delivered) → IsReady queue d → IsReady queue' d
  ready_too d r = record { somewhere = r.somewhere; heads = λ g h. let w = r.heads g h in heads_too g d w.0 w.1 }

  as_many : (d : Delivered) → headed queue' d ≡ headed queue d
  as_many d = headed_same queue queue' d.id d.groups (λ g h. ap (λ o. is_named o d.id) (same g))

  partly_too : (d : Delivered) → IsPartly queue d → IsPartly queue' d
  partly_too d p =
      let s = p.somewhere in
      let w = heads_too s.0 d s.1 s.2 in
      record { somewhere = (s.0, w.0, w.1); not_all = subst (λ k. k < length d.groups) (sym (as_many d)) p.not_all }

pub same_heads : (queue queue' : QueueOf) (ds : List Delivered) (hs : List Heading) → ((g : ℕ) → head_of (queue' g) ≡ head_of (queue g))
    → AreCounted queue ds hs → AreCounted queue' ds hs
same_heads queue queue' ds hs same a =
    let back : (g : ℕ) → head_of (queue g) ≡ head_of (queue' g) = λ g. sym (same g) in
    record {
      ready = record {
        ascending = a.ready.ascending;
        only = λ d i. ready_too queue queue' same d (a.ready.only d i);
        all = λ d r. a.ready.all d (ready_too queue' queue back d r);
      };
      partly = record {
        once = a.partly.once;
        only = λ h i.
            let w = a.partly.only h i in (
              w.0,
              partly_too queue queue' same w.0 w.1,
              w.2 ∙ ap (λ k. record { id = w.0.id; count = k }) (sym
                  (as_many queue queue' same w.0)),
            );
        all = λ d p.
            subst (λ k. In (record { id = d.id; count = k }) hs) (sym (as_many queue queue' same d))
            (a.partly.all d (partly_too queue' queue back d p));
      };
    }

-- ---- one queue gets one request more

module _ (qs : List QueueView) (v : QueuesView) (g n : ℕ) (d : Delivered) (q q' : QueueView) (is : view_of qs ≡ v) (at : n ≡ g)
    (inside : g < length v.queues) (was : q ≡ slice_index_or qs n q) where
  low : n < length qs
  low = has_place qs v g n is at inside

  here : queue_of (requests_of qs) n ≡ q.requests
  here = queue_at qs n q low was

  pub set_room : q.room ≤ q'.room + 1 → room_of v.rooms g ≤ room_of (rooms_of (slice_set qs n q')) g + 1
  set_room more =
      let before = ap (λ rs. room_of rs g) (sym (same_rooms qs v is)) ∙ ap (λ k. room_of (rooms_of qs) k)
      (sym at) ∙ room_at qs n q low was in
      let now = ap (λ k. room_of (rooms_of (slice_set qs n q')) k) (sym at) ∙ room_set qs n q' low in
      omega arith

  pub set_rooms : (h : ℕ) → h ≢ g → room_of v.rooms h ≤ room_of (rooms_of (slice_set qs n q')) h
  set_rooms h ne =
      let before = ap (λ rs. room_of rs h) (same_rooms qs v is) in
      let now = room_set_other qs n q' h (λ e. ne (e ∙ at)) in
      omega arith

  pub set_long : length (requests_of (slice_set qs n q')) ≡ length (requests_of qs)
  set_long = ap (λ (l : List (List Delivered)). length l) (requests_set qs n q') ∙ length-set (requests_of qs) n q'.requests

  module _ (now : q'.requests ≡ q.requests ++ d ∷ []) where
    pub set_appended : requests_of (slice_set qs n q') ≡ slice_set v.queues g (queue_of v.queues g ++ d ∷ [])
    set_appended = appended qs n q q' d (record { low = low; was = was; now = now })
        ∙ ap (λ l. slice_set l n (queue_of l n ++ d ∷ [])) (same_queues qs v is)
        ∙ ap (λ k. slice_set v.queues k (queue_of v.queues k ++ d ∷ [])) at

    pub set_sound : IsSound (queue_of (requests_of qs)) → MayAppend (queue_of v.queues) g d
        → IsSound (queue_of (requests_of (slice_set qs n q')))
    set_sound sound may =
        let here : MayAppend (queue_of (requests_of qs)) n d = subst (λ (k : ℕ). MayAppend (queue_of (requests_of qs)) k d) (sym at)
        (subst (λ l. MayAppend (queue_of l) g d) (sym (same_queues qs v is)) may) in
        sound_append qs n q q' d (record { low = low; was = was; now = now }) sound here

    now_here : queue_of (requests_of (slice_set qs n q')) n ≡ q.requests ++ d ∷ []
    now_here = queue_set qs n q' low ∙ now

    -- behind others it is no head
    pub no_new_head : q.requests ≢ [] → (h : ℕ) → head_of (queue_of (requests_of (slice_set qs n q')) h) ≡ head_of (queue_of
        (requests_of qs) h)
    no_new_head some h = elim (cases_eq h n) [
      | inl same ↦ subst (λ (k : ℕ). head_of (queue_of (requests_of (slice_set qs n q')) k) ≡ head_of (queue_of (requests_of qs) k))
          (sym same)
          (ap head_of now_here ∙ first_stays q.requests some ∙ sym (ap head_of here))
      | inr ne ↦ ap head_of (queue_set_other qs n q' h ne)
    ]
      where
        first_stays : (l : List Delivered) → l ≢ [] → head_of (l ++ d ∷ []) ≡ head_of l
        first_stays [] some = absurd (some refl)
        first_stays (x ∷ xs) some = refl

    -- the first of its queue is the only one to count
    pub one_new_head : q.requests ≡ [] → but (g ∷ []) (queue_of (requests_of (slice_set qs n q'))) ≡ queue_of (requests_of qs)
    one_new_head none = λ k h. each h k
      where
        each : (h : ℕ) → but (g ∷ []) (queue_of (requests_of (slice_set qs n q'))) h ≡ queue_of (requests_of qs) h
        each h = elim (cases_eq h g) [
          | inl same ↦ ap (λ b. cond (b || false) [] (queue_of (requests_of (slice_set qs n q')) h)) (eq-eqb g h (sym same))
              ∙ sym (ap (λ k. queue_of (requests_of qs) k) (same ∙ sym at) ∙ here ∙ none)
          | inr ne ↦ ap (λ b. cond (b || false) [] (queue_of (requests_of (slice_set qs n q')) h)) (ne_eqb g h (λ e. ne (sym e)))
              ∙ queue_set_other qs n q' h (λ e. ne (e ∙ at))
        ]

-- ---- whether a queue was empty

pub was_none : (o : Option (Bor Delivered)) (q : List Delivered) → is_some o ≡ false → option_copied o ≡ head_of q → q ≡ []
was_none None q none e = headless q (sym e)
was_none (Some x) q none e = absurd (false≢true (sym none))

pub was_some : (o : Option (Bor Delivered)) (q : List Delivered) → is_some o ≡ true → option_copied o ≡ head_of q → q ≢ []
was_some None q some e = absurd (false≢true some)
was_some (Some x) q some e = λ none. let is : Some x.now ≡ None = e ∙ ap head_of none in absurd (cc)
