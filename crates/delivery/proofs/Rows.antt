-- The queues in a list, one written back.
use Rattle.std.proofs.Common.{◌≡◌, ◌≢◌, ℕ, zero, suc, ◌<◌, ◌≤◌, List, [], ◌∷◌, ◌++◌, Result, Ok, Err, OnOk, OnErr, take, drop, length, map}
use Rattle.std.proofs.Common.{slice_index_or, slice_set, refl, sym, ap, ◌∙◌, arith, inl, inr}
use Rattle.std.proofs.lemmas.Bool.{cases_eq}
use Rattle.std.proofs.Math.Seq.{take-append_seam}
use Rattle.std.proofs.lemmas.List.{map-set, get_or-map, get_or-set_same, get_or-set_other, length-map}
use Rattle.delivery.specs.Queues.{QueueView, QueuesView, requests_of, rooms_of, queue_of, room_of, IsSound, MayAppend}
use Rattle.skeen_core.specs.declared.packet.Delivered.{Delivered}
use Rattle.delivery.proofs.Sound.{sound_appended}

pub queue_at : (qs : List QueueView) (g : ℕ) (q : QueueView) → g < length qs → q ≡ slice_index_or qs g q
    → queue_of (requests_of qs) g ≡ q.requests
queue_at qs g q h e = get_or-map (λ w. w.requests) qs g q [] h ∙ ap (λ w. w.requests) (sym e)

pub room_at : (qs : List QueueView) (g : ℕ) (q : QueueView) → g < length qs → q ≡ slice_index_or qs g q → room_of (rooms_of qs) g ≡ q.room
room_at qs g q h e = get_or-map (λ w. w.room) qs g q 0 h ∙ ap (λ w. w.room) (sym e)

pub requests_set : (qs : List QueueView) (g : ℕ) (q : QueueView) → requests_of (slice_set qs g q) ≡ slice_set (requests_of qs) g q.requests
requests_set qs g q = map-set (λ w. w.requests) qs g q

rooms_set : (qs : List QueueView) (g : ℕ) (q : QueueView) → rooms_of (slice_set qs g q) ≡ slice_set (rooms_of qs) g q.room
rooms_set qs g q = map-set (λ w. w.room) qs g q

in_map : {X Y : Type 0} (f : X → Y) (xs : List X) (g : ℕ) → g < length xs → g < length (map f xs)
in_map f [] g h = absurd (omega arith)
in_map f (x ∷ xs) zero h = omega arith
in_map f (x ∷ xs) (suc g) h = let ih = in_map f xs g (omega arith) in omega arith

pub queue_set : (qs : List QueueView) (g : ℕ) (q : QueueView) → g < length qs → queue_of (requests_of (slice_set qs g q)) g ≡ q.requests
queue_set qs g q h = ap (λ l. queue_of l g) (requests_set qs g q)
    ∙ get_or-set_same (requests_of qs) g q.requests [] (in_map (λ w. w.requests) qs g h)

pub queue_set_other : (qs : List QueueView) (g : ℕ) (q : QueueView) (h : ℕ) → h ≢ g
    → queue_of (requests_of (slice_set qs g q)) h ≡ queue_of (requests_of qs) h
queue_set_other qs g q h ne = ap (λ l. queue_of l h) (requests_set qs g q) ∙ get_or-set_other (requests_of qs) g h q.requests [] ne

pub room_set : (qs : List QueueView) (g : ℕ) (q : QueueView) → g < length qs → room_of (rooms_of (slice_set qs g q)) g ≡ q.room
room_set qs g q h = ap (λ l. room_of l g) (rooms_set qs g q) ∙ get_or-set_same (rooms_of qs) g q.room 0 (in_map (λ w. w.room) qs g h)

pub room_set_other : (qs : List QueueView) (g : ℕ) (q : QueueView) (h : ℕ) → h ≢ g
    → room_of (rooms_of (slice_set qs g q)) h ≡ room_of (rooms_of qs) h
room_set_other qs g q h ne = ap (λ l. room_of l h) (rooms_set qs g q) ∙ get_or-set_other (rooms_of qs) g h q.room 0 ne

-- ---- a queue is written back with the same requests

pub requests_kept : (qs : List QueueView) (g : ℕ) (q q' : QueueView) → g < length qs → q ≡ slice_index_or qs g q → q'.requests ≡ q.requests
    → requests_of (slice_set qs g q') ≡ requests_of qs
requests_kept [] g q q' h e same = absurd (omega arith)
requests_kept (x ∷ xs) zero q q' h e same = ap (λ r. r ∷ requests_of xs) (same ∙ ap (λ w. w.requests) e)
requests_kept (x ∷ xs) (suc g) q q' h e same = ap (λ l. x.requests ∷ l) (requests_kept xs g q q' (omega arith) e same)

-- ---- no room is lost

pub rooms_kept : (qs : List QueueView) (g : ℕ) (q q' : QueueView) → g < length qs → q ≡ slice_index_or qs g q → q.room ≤ q'.room → (h : ℕ)
    → room_of (rooms_of qs) h ≤ room_of (rooms_of (slice_set qs g q')) h
rooms_kept qs g q q' low e more h = elim (cases_eq h g) [
  | inl at ↦
      let before : room_of (rooms_of qs) h ≡ q.room = ap (λ k. room_of (rooms_of qs) k) at ∙ room_at qs g q low e in
      let after : room_of (rooms_of (slice_set qs g q')) h ≡ q'.room = ap (λ k. room_of (rooms_of (slice_set qs g q')) k) at
      ∙ room_set qs g q' low in
      omega arith
  | inr ne ↦ let same = room_set_other qs g q' h ne in omega arith
]

-- ---- by the value that contracts see

abbrev pub view_of : List QueueView → QueuesView
view_of qs = record { queues = requests_of qs; rooms = rooms_of qs }

-- a group with a queue, at its place
pub has_place : (qs : List QueueView) (v : QueuesView) (g n : ℕ) → view_of qs ≡ v → n ≡ g → g < length v.queues → n < length qs
has_place qs v g n e at low =
    let same = ap (λ (w : QueuesView). length w.queues) e in
    let long = length-map qs (λ w. w.requests) in
    omega arith

pub same_queues : (qs : List QueueView) (v : QueuesView) → view_of qs ≡ v → requests_of qs ≡ v.queues
same_queues qs v e = ap (λ (w : QueuesView). w.queues) e

pub same_rooms : (qs : List QueueView) (v : QueuesView) → view_of qs ≡ v → rooms_of qs ≡ v.rooms
same_rooms qs v e = ap (λ (w : QueuesView). w.rooms) e

-- ---- an answer's two cases

pub by_result : {T E A B G : Type 0} (r : Result T E) → OnOk r A → OnErr r B → (A → G) → (B → G) → G
by_result (Ok x) a b f g = f a
by_result (Err e) a b f g = g b

pub on_ok : {T E A B : Type 0} (r : Result T E) → (A → B) → OnOk r A → OnOk r B
on_ok (Ok x) f a = f a
on_ok (Err e) f a = tt

-- ---- a queue without requests more

pub empty_more : (qs : List QueueView) (q : QueueView) → ((g : ℕ) → queue_of (requests_of qs) g ≡ []) → q.requests ≡ [] → (g : ℕ)
    → queue_of (requests_of (qs ++ q ∷ [])) g ≡ []
empty_more [] q none e zero = e
empty_more [] q none e (suc g) = refl
empty_more (x ∷ xs) q none e zero = none 0
empty_more (x ∷ xs) q none e (suc g) = empty_more xs q (λ h. none (suc h)) e g

-- ---- a request appended to one queue

pub record Appended (qs : List QueueView) (n : ℕ) (q q' : QueueView) (d : Delivered) : Type 0 where
  pub low : n < length qs
  pub was : q ≡ slice_index_or qs n q
  pub now : q'.requests ≡ q.requests ++ d ∷ []

pub appended : (qs : List QueueView) (n : ℕ) (q q' : QueueView) (d : Delivered) → Appended qs n q q' d
    → requests_of (slice_set qs n q') ≡ slice_set (requests_of qs) n (queue_of (requests_of qs) n ++ d ∷ [])
appended qs n q q' d a = requests_set qs n q'
    ∙ ap (λ l. slice_set (requests_of qs) n l) (a.now ∙ ap (λ l. l ++ d ∷ []) (sym (queue_at qs n q a.low a.was)))

pub sound_append : (qs : List QueueView) (n : ℕ) (q q' : QueueView) (d : Delivered) → Appended qs n q q' d
    → IsSound (queue_of (requests_of qs)) → MayAppend (queue_of (requests_of qs)) n d → IsSound (queue_of (requests_of (slice_set qs n q')))
sound_append qs n q q' d a s may =
    sound_appended (queue_of (requests_of qs)) (queue_of (requests_of (slice_set qs n q'))) n d s may
    (queue_set qs n q' a.low ∙ a.now ∙ ap (λ l. l ++ d ∷ []) (sym (queue_at qs n q a.low a.was)))
    (λ h ne. queue_set_other qs n q' h ne)

-- ---- a slice of the queues written back

pub back : (new old : List QueueView) (len : ℕ) → length new ≡ length old → len ≡ length old → take len (new ++ drop (length new) old) ≡ new
back new old len e f = ap (λ n. take n (new ++ drop (length new) old)) (f ∙ sym e) ∙ take-append_seam new (drop (length new) old)
