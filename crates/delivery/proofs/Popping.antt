-- A ready request leaves its queues: what holds before its heads are counted anew, and then.
use Rattle.std.proofs.Common.{◌≡◌, ℕ, List, length, arith, subst}
use Rattle.std.proofs.lemmas.List.{length-map}
use Rattle.skeen_core.specs.declared.packet.Delivered.{Delivered}
use Rattle.delivery.specs.Ready.{QueueOf, IsReady}
use Rattle.delivery.specs.Queues.{QueueView, requests_of, queue_of, IsSound}
use Rattle.delivery.specs.Taking.{popped}
use Rattle.delivery.specs.Heads.{AreCounted, AreKept, but, without}
use Rattle.delivery.specs.declared.heads.Heading.{Heading}
use Rattle.delivery.proofs.Sound.{sound_popped}
use Rattle.delivery.proofs.Taken.{taken_out, but_popped}

module _ (qs qs' : List QueueView) (d : Delivered) (ds : List Delivered) (hs : List Heading) (capacity capacity' : ℕ)
    (kept : AreKept (requests_of qs) ds hs capacity capacity') (long : length qs' ≡ length qs)
    (is : (g : ℕ) → queue_of (requests_of qs') g ≡ popped d (queue_of (requests_of qs)) g) where
  pub gone_sound : IsSound (queue_of (requests_of qs'))
  gone_sound = sound_popped (queue_of (requests_of qs)) (queue_of (requests_of qs')) d kept.sound is

  pub gone_uncounted : IsReady (queue_of (requests_of qs)) d
      → AreCounted (but d.groups (queue_of (requests_of qs'))) (without (λ (e : Delivered). e.id) d.id ds) hs
  gone_uncounted ready =
      subst (λ (u : QueueOf). AreCounted u (without (λ (e : Delivered). e.id) d.id ds) hs)
      (but_popped (queue_of (requests_of qs)) (queue_of (requests_of qs')) d is)
      (taken_out (queue_of (requests_of qs)) d kept.sound ready ds hs kept.counted)

  pub gone_kept : (ds' : List Delivered) (hs' : List Heading) (now now' : ℕ) → AreCounted (queue_of (requests_of qs')) ds' hs'
      → now ≡ capacity → now' ≡ capacity' → AreKept (requests_of qs') ds' hs' now now'
  gone_kept ds' hs' now now' counted same same' =
      let few = kept.few in
      let room = kept.ready_room in
      let room' = kept.partly_room in
      let a = length-map qs (λ (q : QueueView). q.requests) in
      let b = length-map qs' (λ (q : QueueView). q.requests) in
      record { few = omega arith; sound = gone_sound; counted = counted; ready_room = omega arith; partly_room = omega arith }
