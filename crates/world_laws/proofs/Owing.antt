-- What is owed is kept by each step.
use Rattle.std.proofs.Common.{◌≡◌, ℕ, ◌==◌, ◌&&◌, true, false, cond, List, [], ◌∷◌, ◌++◌, ◌⊎◌, inl, inr, Some, slice_get, refl, sym, ap}
use Rattle.std.proofs.Common.{◌∙◌, subst, eqb-true, eq-eqb}
use Rattle.std.proofs.lemmas.Bool.{both_ways, cases_Bool, or_cases, and_parts, and_from, cond-true, cond-false}
use Rattle.std.specs.List.{remove}
use Rattle.groups.specs.GroupSet.{has}
use Rattle.skeen_core.proofs.Finite.{heard-with_start, heard-with_proposal}
use Rattle.groups.proofs.Ids.{same_id-true, same_id-refl}
use Rattle.skeen_core.proofs.Lawful.{still_heard}
use Rattle.groups.proofs.Lists.{In-left, In-right}
use Rattle.skeen_core.specs.Group.{GroupState, heard, next_clock, with_start, has_id, tell}
use Rattle.groups.specs.Order.{In}
use Rattle.groups.specs.Request.{same_id}
use Rattle.skeen_core.specs.declared.packet.Body.TheVariants.{Start, Proposal}
use Rattle.skeen_core.specs.declared.packet.Delivered.{Delivered}
use Rattle.skeen_core.specs.declared.packet.Packet.{Packet}
use Rattle.groups.specs.declared.request.RequestId.{RequestId}
use Rattle.world.specs.Steps.{hears}
use Rattle.world.specs.World.{World, Request, Proposals}
use Rattle.world_laws.specs.Good.{Asked, IsOut, BodyGood, log_of}
use Rattle.world_laws.specs.Quiet.{told_by, GroupOwes}
use Rattle.world_laws.proofs.Arrivals.{hearing, beginning, start_is_no_proposal}
use Rattle.world_laws.proofs.Groups.{having_delivered, by_test, out_left, out_right, out_named}
use Rattle.world_laws.proofs.Lists.{still_in}
use Rattle.groups.proofs.Options.{some_same}

-- ---- the group that delivers: what it had of a request it has still, or the request is out

-- the group's own debts, where those of its state before the delivery are these
pub record MidOwes (asked : Asked) (proposed : Proposals) (packets : List Packet) (g : ℕ) (mid : GroupState)
    (log : List Delivered) : Type 0 where
  pub told : (i : RequestId) (q : Request) (h n : ℕ) → asked i ≡ Some q → has q.groups g ≡ true → proposed i h ≡ Some n →
      (heard mid i h ≡ Some n) ⊎ (In (told_by g i h n) packets ⊎ IsOut log i)

pub owes_delivers : (asked : Asked) (proposed : Proposals) (packets : List Packet) (g : ℕ) (mid : GroupState)
    (log ds : List Delivered) → MidOwes asked proposed packets g mid log →
    GroupOwes asked proposed packets g (having_delivered mid ds) (log ++ ds)
owes_delivers asked proposed packets g mid log ds owes = record {
  told = λ i q h n named_ member e. elim (owes.told i q h n named_ member e) [
    | inr (inl sent) ↦ inr (inl sent)
    | inr (inr out) ↦ inr (inr (out_left log ds i out))
    | inl there ↦ elim (cases_Bool (has_id ds i)) [
      | inl gone ↦ inr (inr (out_right log ds i (out_named ds i gone)))
      | inr stays ↦ inl (still_heard mid ds i stays h ∙ there)
    ]
  ];
}

-- ---- packets

-- each other group of the request is told
in_tell : (me : ℕ) (id : RequestId) (n : ℕ) (gs : List ℕ) (g : ℕ) → has gs g ≡ true → (g == me) ≡ false → In (told_by g id me n)
    (tell me id n gs)
in_tell me id n [] g there other = absurd (both_ways false refl there)
in_tell me id n (h ∷ hs) g there other =
    elim (h == me) as (λ b. (h == me) ≡ b → In (told_by g id me n) (cond b (tell me id n hs) (told_by h id me n ∷ tell me id n hs))) [
      | true ↦ λ e. elim (or_cases (h == g) (has hs g) there) [
        | inl here ↦ absurd (both_ways _ other (eq-eqb g me (sym (eqb-true h g here) ∙ eqb-true h me e)))
        | inr later ↦ in_tell me id n hs g later other
      ]
      | false ↦ λ e. elim (or_cases (h == g) (has hs g) there) [
        | inl here ↦ inl (ap (λ k. told_by k id me n) (sym (eqb-true h g here)))
        | inr later ↦ inr (in_tell me id n hs g later other)
      ]
    ] refl

-- ---- the packet is gone

-- it had nothing to tell the group, or the request is out there
pub without_owes : (w : World) (k : ℕ) (p : Packet) → slice_get w.packets k ≡ Some p → (g : ℕ) →
    ((i : RequestId) (h n : ℕ) → told_by g i h n ≡ p → IsOut (log_of w g) i) →
    GroupOwes w.asked w.proposed w.packets g (w.group g) (log_of w g) →
    GroupOwes w.asked w.proposed (remove w.packets k) g (w.group g) (log_of w g)
without_owes w k p there g out owes = record {
  told = λ i r h n asked_ member e. elim (owes.told i r h n asked_ member e) [
    | inl heard_ ↦ inl heard_
    | inr (inr out_) ↦ inr (inr out_)
    | inr (inl is_sent) ↦ elim (still_in w.packets k p there (told_by g i h n) is_sent) [
      | inr still ↦ inr (inl still)
      | inl same ↦ inr (inr (out i h n same))
    ]
  ];
}

-- ---- it begins its request

-- a proposal that was under way is still
still_told : (w : World) (k : ℕ) (p : Packet) (floor : ℕ) (groups : List ℕ) (sent : List Packet) → slice_get w.packets k ≡ Some p →
    p.body ≡ Start floor groups → (g : ℕ) (i : RequestId) (h n : ℕ) → In (told_by g i h n) w.packets →
    In (told_by g i h n) (remove w.packets k ++ sent)
still_told w k p floor groups sent there is g i h n is_sent = elim (still_in w.packets k p there (told_by g i h n) is_sent) [
  | inr still ↦ In-left (told_by g i h n) (remove w.packets k) sent still
  | inl same ↦ absurd (start_is_no_proposal floor groups h n (sym is ∙ ap (λ (x : Packet). x.body) (sym same)))
]

-- another group than the one that it came to
pub begins_owes : (w : World) (k : ℕ) (p : Packet) (floor : ℕ) (groups : List ℕ) → slice_get w.packets k ≡ Some p →
    p.body ≡ Start floor groups → BodyGood w.asked w.proposed p.to p.id (Start floor groups) → (g : ℕ) → (g == p.to) ≡ false →
    GroupOwes w.asked w.proposed w.packets g (w.group g) (log_of w g) →
    GroupOwes w.asked (hears w.proposed p.id p.to (next_clock (w.group p.to) floor))
    (remove w.packets k ++ tell p.to p.id (next_clock (w.group p.to) floor) groups) g (w.group g) (log_of w g)
begins_owes w k p floor groups there is body g other owes = record {
  told = λ i r h n asked_ member e. by_test (same_id i p.id && h == p.to) new (w.proposed i h) n
      ((heard (w.group g) i h ≡ Some n) ⊎ (In (told_by g i h n) sent ⊎ IsOut (log_of w g) i)) e
      (λ test now.
      let parts = and_parts (same_id i p.id) (h == p.to) test in
      let at_id = same_id-true i p.id parts.0 in
      let again : r ≡ body.0.0 = some_same r body.0.0 (sym asked_ ∙ ap w.asked at_id ∙ body.0.1) in
      let addressed : has groups g ≡ true = subst (λ gs. has gs g ≡ true) (ap (λ (x : Request). x.groups) again ∙ body.0.3) member in
      inr (inl (subst (λ j. In (told_by g j h n) sent) (sym at_id)
      (subst (λ f. In (told_by g p.id f n) sent) (sym (eqb-true h p.to parts.1))
      (subst (λ m. In (told_by g p.id p.to m) sent) now
      (In-right _ (remove w.packets k) (tell p.to p.id new groups) (in_tell p.to p.id new groups g addressed other)))))))
      (λ test old. elim (owes.told i r h n asked_ member old) [
        | inl heard_ ↦ inl heard_
        | inr (inr out) ↦ inr (inr out)
        | inr (inl is_sent) ↦ inr (inl (still_told w k p floor groups (tell p.to p.id new groups) there is g i h n is_sent))
      ]);
}
  where
    new : ℕ
    new = next_clock (w.group p.to) floor

    sent : List Packet
    sent = remove w.packets k ++ tell p.to p.id (next_clock (w.group p.to) floor) groups

-- and that group itself
pub begins_mid_owes : (w : World) (k : ℕ) (p : Packet) (floor : ℕ) (groups : List ℕ) → slice_get w.packets k ≡ Some p →
    p.body ≡ Start floor groups → GroupOwes w.asked w.proposed w.packets p.to (w.group p.to) (log_of w p.to) →
    MidOwes w.asked (hears w.proposed p.id p.to (next_clock (w.group p.to) floor))
    (remove w.packets k ++ tell p.to p.id (next_clock (w.group p.to) floor) groups) p.to (beginning w p floor groups) (log_of w p.to)
begins_mid_owes w k p floor groups there is owes = record {
  told = λ i r h n asked_ member e. by_test (same_id i p.id && h == p.to) new (w.proposed i h) n
      ((heard (with_start p.to (w.group p.to) p.id floor groups) i h ≡ Some n)
      ⊎ (In (told_by p.to i h n) (remove w.packets k ++ tell p.to p.id new groups) ⊎ IsOut (log_of w p.to) i)) e
      (λ test now. inl (heard-with_start p.to (w.group p.to) p.id floor groups i h
      ∙ cond-true (same_id i p.id && h == p.to) (Some new) (heard (w.group p.to) i h) test ∙ ap Some now))
      (λ test old. elim (owes.told i r h n asked_ member old) [
        | inl heard_ ↦ inl (heard-with_start p.to (w.group p.to) p.id floor groups i h
            ∙ cond-false (same_id i p.id && h == p.to) (Some new) (heard (w.group p.to) i h) test ∙ heard_)
        | inr (inr out) ↦ inr (inr out)
        | inr (inl is_sent) ↦ inr (inl (still_told w k p floor groups (tell p.to p.id new groups) there is p.to i h n is_sent))
      ]);
}
  where
    new : ℕ
    new = next_clock (w.group p.to) floor

-- ---- it is a proposal that is heard

pub hears_mid_owes : (w : World) (k : ℕ) (p : Packet) (from n : ℕ) → slice_get w.packets k ≡ Some p → p.body ≡ Proposal from n →
    w.proposed p.id from ≡ Some n → GroupOwes w.asked w.proposed w.packets p.to (w.group p.to) (log_of w p.to) →
    MidOwes w.asked w.proposed (remove w.packets k) p.to (hearing w p from n) (log_of w p.to)
hears_mid_owes w k p from n there is told_ owes = record {
  told = λ i r h m asked_ member e. elim (cases_Bool (same_id i p.id && h == from)) [
    | inl test ↦
        let parts = and_parts (same_id i p.id) (h == from) test in
        let it : w.proposed p.id from ≡ Some m = subst (λ j. w.proposed j from ≡ Some m) (same_id-true i p.id parts.0)
        (subst (λ g. w.proposed i g ≡ Some m) (eqb-true h from parts.1) e) in
        inl (heard-with_proposal (w.group p.to) p.id from n i h
        ∙ cond-true (same_id i p.id && h == from) (Some n) (heard (w.group p.to) i h) test ∙ sym told_ ∙ it)
    | inr test ↦ elim (owes.told i r h m asked_ member e) [
      | inl heard_ ↦ inl (heard-with_proposal (w.group p.to) p.id from n i h
          ∙ cond-false (same_id i p.id && h == from) (Some n) (heard (w.group p.to) i h) test ∙ heard_)
      | inr (inr out) ↦ inr (inr out)
      | inr (inl is_sent) ↦ elim (still_in w.packets k p there (told_by p.to i h m) is_sent) [
        | inl same ↦ absurd (both_ways _ test (and_from (same_id i p.id) (h == from)
            (subst (λ (x : Packet). same_id x.id p.id ≡ true) (sym same) (same_id-refl p.id))
            (eq-eqb h from (from_of _ _ _ _ (ap (λ (x : Packet). x.body) same ∙ is)))))
        | inr still ↦ inr (inl still)
      ]
    ]
  ];
}
  where
    from_of : (a b c d : ℕ) → Proposal a b ≡ Proposal c d → a ≡ c
    from_of a b c d e = cc
