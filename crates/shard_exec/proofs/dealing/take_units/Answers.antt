use Rattle.std.proofs.Common.{rules, arith, ◌≡◌, ◌+◌, ◌++◌, ◌∷◌, [], suc, length, drop, sym, ap, ◌∙◌, subst, add-one, refl, length-drop}
use Rattle.std.proofs.Math.Seq.{drop-cons, drop-length, append_snoc}
use Rattle.std.proofs.lemmas.List.{append-nil, nil_from_length}
use Rattle.std.specs.FinMap.{empty}
use Rattle.std.specs.List.{AllZip, AllByRecursion, concat}
use Rattle.shards.proofs.Rows.{length-emptied}
use Rattle.shard_exec.specs.Dealing.{CanTake, left_at}
use Rattle.shard_exec.specs.DealtRooms.{HasRoomFor, IsInRow, MadeWorks}
use Rattle.shards.specs.Rows.{emptied}
use Rattle.shard_exec.proofs.Slots.{can_take_first, can_take_rest, left_at-append}
use Rattle.shard_workers.proofs.Zips.{zip_length}
use Rattle.shard_exec.proofs.dealing.take_units.Goals as goal

pub take_unit-requires-clause-there : goal.take_unit-requires-clause-there
take_unit-requires-clause-there c =
    let n = c.loop-number.number in let part = c.args.part.now in let u = c.unit-unit.result.now in let rest = drop (n + 1) part in
    let next : drop n part ≡ u ∷ rest =
    drop-cons part n [] (omega arith) ∙ ap (λ x. x ∷ drop (suc n) part) (sym c.unit-unit.ensures)
    ∙ ap (λ k. u ∷ drop k part) (sym (add-one n)) in
    can_take_first c.loop-number.slots.items u (concat rest)
    (subst (λ l. CanTake c.loop-number.slots.items (concat l)) next c.loop-number.invariant.there)

pub take_unit-requires-clause-room : goal.take_unit-requires-clause-room
take_unit-requires-clause-room c =
    let n = c.loop-number.number in let part = c.args.part.now in let u = c.unit-unit.result.now in let rest = drop (n + 1) part in
    let next : drop n part ≡ u ∷ rest =
    drop-cons part n [] (omega arith) ∙ ap (λ x. x ∷ drop (suc n) part) (sym c.unit-unit.ensures)
    ∙ ap (λ k. u ∷ drop k part) (sym (add-one n)) in
    (subst (AllZip HasRoomFor (u ∷ rest)) c.in-Some.ensures.items
    (subst (λ l. AllZip HasRoomFor l c.loop-number.rooms.rest.items) next c.loop-number.invariant.rooms)).0

pub take_unit-requires-clause-inside : goal.take_unit-requires-clause-inside
take_unit-requires-clause-inside c =
    subst (λ k. IsInRow k c.in-Some.room) (sym c.loop-number.invariant.len)
    (subst (AllByRecursion (IsInRow (length c.args.row.now.items))) c.in-Some.ensures.items c.loop-number.invariant.inside).0

pub loop-number-preserved : goal.loop-number-preserved
loop-number-preserved c =
    let n = c.loop-number.number in let part = c.args.part.now in let u = c.unit-unit.result.now in let rest = drop (n + 1) part in
    let inv = c.loop-number.invariant in let slots = c.loop-number.slots.items in let row = c.loop-number.row.items in
    let room = c.in-Some.room in let rooms = c.next.new.self.rest.items in let w = c.take_unit.result in
    let next : drop n part ≡ u ∷ rest =
    drop-cons part n [] (omega arith) ∙ ap (λ x. x ∷ drop (suc n) part) (sym c.unit-unit.ensures)
    ∙ ap (λ k. u ∷ drop k part) (sym (add-one n)) in
    record {
      made = λ ws left h.
          subst (λ l. MadeWorks c.args.slots.now.items c.args.row.now.items part c.args.rooms.items l left)
          (sym (ap (λ l. l ++ ws) c.in-Ok.ensures.items ∙ append_snoc c.loop-number.works.items w ws))
          (inv.made (w ∷ ws) left
          (subst (λ us. MadeWorks slots row us c.loop-number.rooms.rest.items (w ∷ ws) left) (sym next)
          (subst (λ ms. MadeWorks slots row (u ∷ rest) ms (w ∷ ws) left) (sym c.in-Some.ensures.items) (
            c.take_unit.ensures.took,
            c.take_unit.ensures.shards,
            subst (λ s. MadeWorks s (emptied empty row room.groups) rest rooms ws left) c.take_unit.ensures.left
                (subst (λ r. MadeWorks c.take_unit.new.slots.items r rest rooms ws left) c.take_unit.ensures.row h),
          ))));
      there = subst (λ s. CanTake s (concat rest)) (sym c.take_unit.ensures.left)
          (can_take_rest slots u (concat rest) (subst (λ l. CanTake slots (concat l)) next inv.there));
      left = ap (λ s. left_at s (concat rest)) c.take_unit.ensures.left ∙ sym (left_at-append slots u (concat rest))
          ∙ ap (λ l. left_at slots (concat l)) (sym next) ∙ inv.left;
      rooms = (subst (AllZip HasRoomFor (u ∷ rest)) c.in-Some.ensures.items
          (subst (λ l. AllZip HasRoomFor l c.loop-number.rooms.rest.items) next inv.rooms)).1;
      inside = (subst (AllByRecursion (IsInRow (length c.args.row.now.items))) c.in-Some.ensures.items inv.inside).1;
      count = search rules;
      room = search rules;
      len = ap (λ (l : _). length l) c.take_unit.ensures.row ∙ length-emptied empty row room.groups ∙ inv.len;
    }

pub unreachable-requires : goal.unreachable-requires
unreachable-requires c =
    let e = zip_length _ _ _ c.loop-number.invariant.rooms in let d = length-drop c.loop-number.number c.args.part.now in
    absurd (omega (arith, e, d, c.in_default.ensures.len, c.in_default.ensures.cases))

pub returns-clause-made : goal.returns-clause-made
returns-clause-made c =
    let n = c.loop-number.number in let part = c.args.part.now in let inv = c.loop-number.invariant in let row = c.loop-number.row.items in
    let none : drop n part ≡ [] = (let end : n ≡ length part = omega arith in ap (λ k. drop k part) end ∙ drop-length part) in
    let no_rooms : c.loop-number.rooms.rest.items ≡ [] =
    nil_from_length _ (let e = zip_length _ _ _ inv.rooms in let f = ap (λ (l : _). length l) none in omega (arith, e, f)) in
    subst (λ l. MadeWorks c.args.slots.now.items c.args.row.now.items part c.args.rooms.items l row) (append-nil _)
    (inv.made [] row (subst (λ us. MadeWorks c.loop-number.slots.items row us c.loop-number.rooms.rest.items [] row)
    (sym none)
    (subst (λ ms. MadeWorks c.loop-number.slots.items row [] ms [] row) (sym no_rooms) refl)))
