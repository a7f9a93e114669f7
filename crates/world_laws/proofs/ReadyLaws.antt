-- What heads each of its queues is what each of its groups has delivered with nothing untaken before it; and what is lined
-- up is what its one group has delivered with only such untaken before it as address that group alone.
use Rattle.std.proofs.Common.{◌≡◌, true, List, [], ◌∷◌, ◌++◌, inl, inr, refl, sym, ap, ◌∙◌, subst, ℕ, append_assoc}
use Rattle.std.proofs.lemmas.Bool.{both_ways}
use Rattle.delivery.proofs.Layers.{Cut, cut}
use Rattle.delivery.specs.Ready.{IsReady, IsLinedUp}
use Rattle.groups.proofs.Lists.{In-right, In-append}
use Rattle.groups.proofs.Stamps.{lt_irrefl, lt_asym}
use Rattle.groups.specs.Order.{In}
use Rattle.groups.specs.Stamp.{stamp_lt}
use Rattle.placement.specs.Layout.{Layout}
use Rattle.skeen_core.specs.Group.{Ascending}
use Rattle.skeen_core.specs.declared.packet.Delivered.{Delivered}
use Rattle.world.specs.World.{World}
use Rattle.world_laws.specs.Good.{log_of, WorldGood}
use Rattle.world_laws.specs.Order.{IsTaken, IsFirstAtEach, ReadyInWords, ReadyIsFirst, IsBehindAlone, LinedUpInWords}
use Rattle.world_laws.specs.Order.{LinedUpIsBehindAlone}
use Rattle.world_laws.proofs.Layers.{ascending_cross, ascending_right}
use Rattle.world_laws.proofs.Owed.{Owes, owes_world}
use Rattle.world_laws.proofs.Worlds.{good_world}

-- what stands in a queue no layer has taken, from whatever group
pub queued_is_not_taken : (t : Layout) (w : World) → WorldGood t w → Owes w → (g : ℕ) (d : Delivered) → In d (w.queue g) → ¬ IsTaken w d
queued_is_not_taken t w good owes g d here taken =
    let group = good.skeen.groups g in
    let gone = good.taken.passed d (owes.taken taken.0 d taken.1) g (group.member d (In-right d (w.gone g) (w.queue g) here)) in
    both_ways _ (lt_irrefl d.stamp) (ascending_cross (w.gone g) (w.queue g) group.going.ascending d d gone here)

ready_first : (t : Layout) (w : World) → WorldGood t w → Owes w → (d : Delivered) → IsReady w.queue d → IsFirstAtEach w d
ready_first t w good owes d ready = record {
  somewhere = ready.somewhere;
  not_taken =
      let head = ready.heads ready.somewhere.0 ready.somewhere.1 in
      queued_is_not_taken t w good owes ready.somewhere.0 d (subst (λ l. In d l) (sym head.1) (inl refl));
  delivered = λ g member. let head = ready.heads g member in (
    w.gone g,
    head.0,
    ap (λ l. w.gone g ++ l) head.1,
    λ e there. (g, there),
  );
}

-- what has a smaller stamp than one of an ascending list stands before it
stands_before : (before after : List Delivered) (d e : Delivered) → Ascending (before ++ d ∷ after) → In e (before ++ d ∷ after) →
    stamp_lt e.stamp d.stamp ≡ true → In e before
stands_before before after d e up there less = elim (In-append e before (d ∷ after) there) [
  | inl it ↦ it
  | inr (inl same) ↦
      absurd (both_ways _ (lt_irrefl d.stamp) (ap (λ (x : Delivered). stamp_lt x.stamp d.stamp) (sym same) ∙ less))
  | inr (inr later) ↦
      absurd (both_ways _ (lt_asym d.stamp e.stamp ((ascending_right before (d ∷ after) up).0 e later)) less)
]

-- and what has no smaller one before it stands at the head
stands_first : (queue : List Delivered) (d : Delivered) → Ascending queue → In d queue →
    ((e : Delivered) → In e queue → stamp_lt e.stamp d.stamp ≡ true → ⊥) → (rest : List Delivered) × (queue ≡ d ∷ rest)
stands_first [] d up there none = absurd there
stands_first (e ∷ es) d up (inl same) none = (es, ap (λ x. x ∷ es) (sym same))
stands_first (e ∷ es) d up (inr later) none = absurd (none e (inl refl) (up.0 d later))

first_ready : (t : Layout) (w : World) → WorldGood t w → Owes w → (d : Delivered) → IsFirstAtEach w d → IsReady w.queue d
first_ready t w good owes d first = record {
  somewhere = first.somewhere;
  heads = λ g member.
      let it = first.delivered g member in
      let up = (good.skeen.groups g).going.ascending in
      let stands : In d (log_of w g) = subst (λ l. In d l) (sym it.2) (In-right d it.0 (d ∷ it.1) (inl refl)) in
      elim (In-append d (w.gone g) (w.queue g) stands) [
        | inl gone ↦ absurd (first.not_taken (g, gone))
        | inr here ↦ stands_first (w.queue g) d (ascending_right (w.gone g) (w.queue g) up) here (λ e queued less.
            queued_is_not_taken t w good owes g e queued
            (it.3 e (stands_before it.0 it.1 d e (subst (λ l. Ascending l) it.2 up)
            (subst (λ l. In e l) it.2 (In-right e (w.gone g) (w.queue g) queued)) less)))
      ];
}

pub ready_in_words : (t : Layout) (w : World) → WorldGood t w → Owes w → ReadyInWords t w
ready_in_words t w good owes d = (ready_first t w good owes d, first_ready t w good owes d)

pub ready_is_first : ReadyIsFirst
ready_is_first t steps w leads = ready_in_words t w (good_world t steps w leads) (owes_world t steps w leads)

-- ---- lined up

module _ (t : Layout) (w : World) (good : WorldGood t w) (owes : Owes w) where
  lined_behind : (d : Delivered) → IsLinedUp w.queue d → IsBehindAlone w d
  lined_behind d l = record {
    group = l.group;
    alone = l.alone;
    not_taken = queued_is_not_taken t w good owes l.group d
        (subst (λ q. In d q) (sym l.stands) (In-right d l.front (d ∷ l.rest) (inl refl)));
    front = w.gone l.group ++ l.front;
    rest = l.rest;
    delivered = ap (λ q. w.gone l.group ++ q) l.stands ∙ sym (append_assoc (w.gone l.group) l.front (d ∷ l.rest));
    before = λ e there untaken. elim (In-append e (w.gone l.group) l.front there) [
      | inl gone ↦ absurd (untaken (l.group, gone))
      | inr here ↦ l.before e here
    ];
  }

  -- it stands in the queue of its group
  still_queued : (d : Delivered) (b : IsBehindAlone w d) → In d (w.queue b.group)
  still_queued d b =
      let stands : In d (log_of w b.group) = subst (λ l. In d l) (sym b.delivered) (In-right d b.front (d ∷ b.rest) (inl refl)) in
      elim (In-append d (w.gone b.group) (w.queue b.group) stands) [
        | inl gone ↦ absurd (b.not_taken (b.group, gone))
        | inr here ↦ here
      ]

  behind_lined : (d : Delivered) → IsBehindAlone w d → IsLinedUp w.queue d
  behind_lined d b =
      let g = b.group in
      let at : Cut (w.queue g) d = cut (w.queue g) d (still_queued d b) in
      let up : Ascending (w.gone g ++ w.queue g) = (good.skeen.groups g).going.ascending in
      let queue : Ascending (at.front ++ d ∷ at.rest) = subst (λ l. Ascending l) at.is (ascending_right (w.gone g) (w.queue g) up) in
      record {
        group = g;
        alone = b.alone;
        front = at.front;
        rest = at.rest;
        stands = at.is;
        before = λ e there.
            let queued = at.before e there in
            let less = ascending_cross at.front (d ∷ at.rest) queue e d there (inl refl) in
            b.before e
            (stands_before b.front b.rest d e (subst (λ l. Ascending l) b.delivered up)
            (subst (λ l. In e l) b.delivered (In-right e (w.gone g) (w.queue g) queued)) less)
            (queued_is_not_taken t w good owes g e queued);
      }

pub lined_up_in_words : (t : Layout) (w : World) → WorldGood t w → Owes w → LinedUpInWords t w
lined_up_in_words t w good owes d = (lined_behind t w good owes d, behind_lined t w good owes d)

pub lined_up_is_behind_alone : LinedUpIsBehindAlone
lined_up_is_behind_alone t steps w leads = lined_up_in_words t w (good_world t steps w leads) (owes_world t steps w leads)
