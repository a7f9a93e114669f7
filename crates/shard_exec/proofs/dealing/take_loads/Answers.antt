use Rattle.std.proofs.Common.{rules, arith, ◌≡◌, ◌+◌, ◌++◌, ◌∷◌, [], suc, length, drop, sym, ap, ◌∙◌, subst, add-one, refl}
use Rattle.std.proofs.Math.Seq.{drop-cons, drop-length}
use Rattle.std.proofs.lemmas.List.{append-nil, nil_from_length}
use Rattle.std.proofs.lemmas.List.Folds.{concat-append}
use Rattle.std.specs.List.{AllZip, AllByRecursion, concat}
use Rattle.layer_planner.specs.Parts.{units_in}
use Rattle.shard_exec.specs.Dealing.{CanTake, all_works}
use Rattle.shard_exec.specs.DealtRooms.{HaveRoomFor, IsInRow, MadeWorks, all_rooms}
use Rattle.shard_exec.proofs.DealtLaws.{made_both, works_snoc, all_first}
use Rattle.shard_exec.proofs.Slots.{can_take_first, can_take_rest}
use Rattle.shard_workers.proofs.Zips.{zip_length}
use Rattle.shard_exec.proofs.dealing.take_loads.Goals as goal

pub take_load-requires-clause-there : goal.take_load-requires-clause-there
take_load-requires-clause-there c =
    let n = c.loop-part.part-index in let plan = c.args.plan.now in let p = c.part-item.result in let rest = drop (n + 1) plan in
    let next : drop n plan ≡ p ∷ rest =
    drop-cons plan n p c.loop-part-test.true ∙ ap (λ q. q ∷ drop (suc n) plan) (sym c.part-item.is)
    ∙ ap (λ k. p ∷ drop k plan) (sym (add-one n)) in
    can_take_first c.loop-part.slots.items (concat p) (concat (units_in rest))
    (subst (CanTake c.loop-part.slots.items) (ap (λ l. concat (units_in l)) next
    ∙ concat-append p (units_in rest)) c.loop-part.invariant.there)

pub take_load-requires-clause-room : goal.take_load-requires-clause-room
take_load-requires-clause-room c =
    let n = c.loop-part.part-index in let plan = c.args.plan.now in let p = c.part-item.result in let rest = drop (n + 1) plan in
    let next : drop n plan ≡ p ∷ rest =
    drop-cons plan n p c.loop-part-test.true ∙ ap (λ q. q ∷ drop (suc n) plan) (sym c.part-item.is)
    ∙ ap (λ k. p ∷ drop k plan) (sym (add-one n)) in
    (subst (AllZip HaveRoomFor (p ∷ rest)) c.in-Some.ensures.items
    (subst (λ l. AllZip HaveRoomFor l c.loop-part.rooms.rest.items) next c.loop-part.invariant.rooms)).0

pub take_load-requires-clause-inside : goal.take_load-requires-clause-inside
take_load-requires-clause-inside c =
    subst (λ k. AllByRecursion (IsInRow k) c.in-Some.room.units.items) (sym c.loop-part.invariant.len)
    (all_first _ c.in-Some.room.units.items (all_rooms c.next.new.self.rest.items)
    (subst (λ l. AllByRecursion (IsInRow (length c.args.row.now.items))
    (all_rooms l)) c.in-Some.ensures.items c.loop-part.invariant.inside)).0

pub loop-part-preserved : goal.loop-part-preserved
loop-part-preserved c =
    let n = c.loop-part.part-index in let plan = c.args.plan.now in let p = c.part-item.result in let rest = drop (n + 1) plan in
    let inv = c.loop-part.invariant in let slots = c.loop-part.slots.items in let row = c.loop-part.row.items in
    let room = c.in-Some.room in let rooms = c.next.new.self.rest.items in let load = c.take_load.result in
    let mid = c.take_load.new.row.items in
    let next : drop n plan ≡ p ∷ rest =
    drop-cons plan n p c.loop-part-test.true ∙ ap (λ q. q ∷ drop (suc n) plan) (sym c.part-item.is)
    ∙ ap (λ k. p ∷ drop k plan) (sym (add-one n)) in
    record {
      made = λ ws left h.
          subst (λ l. MadeWorks c.args.slots.items c.args.row.now.items (units_in plan) (all_rooms c.args.rooms.items) l left)
          (sym (ap (λ l. all_works l ++ ws) c.in-Ok.ensures.items ∙ works_snoc c.loop-part.loads.items load ws))
          (inv.made (load.works.items ++ ws) left
          (subst (λ l. MadeWorks slots row (units_in l) (all_rooms c.loop-part.rooms.rest.items) (load.works.items ++ ws) left)
          (sym next)
          (subst (λ l. MadeWorks slots row (p ++ units_in rest) (all_rooms l) (load.works.items ++ ws) left)
          (sym c.in-Some.ensures.items)
          (made_both slots row mid left p (units_in rest) room.units.items
          (all_rooms rooms) load.works.items ws c.take_load.ensures.made
          (subst (λ s. MadeWorks s mid (units_in rest) (all_rooms rooms) ws left) c.take_load.ensures.left h)))));
      there = subst (λ s. CanTake s (concat (units_in rest))) (sym c.take_load.ensures.left)
          (can_take_rest slots (concat p) (concat (units_in rest))
          (subst (CanTake slots) (ap (λ l. concat (units_in l)) next ∙ concat-append p (units_in rest)) inv.there));
      rooms = (subst (AllZip HaveRoomFor (p ∷ rest)) c.in-Some.ensures.items
          (subst (λ l. AllZip HaveRoomFor l c.loop-part.rooms.rest.items) next inv.rooms)).1;
      inside = (all_first _ room.units.items (all_rooms rooms)
          (subst (λ l. AllByRecursion (IsInRow (length c.args.row.now.items)) (all_rooms l)) c.in-Some.ensures.items inv.inside)).1;
      loads = search rules;
      room = search rules;
      len = c.take_load.ensures.len ∙ inv.len;
    }

pub returns-clause-made : goal.returns-clause-made
returns-clause-made c =
    let n = c.loop-part.part-index in let plan = c.args.plan.now in let inv = c.loop-part.invariant in let row = c.loop-part.row.items in
    let none : drop n plan ≡ [] = (let end : n ≡ length plan = omega arith in ap (λ k. drop k plan) end ∙ drop-length plan) in
    let no_rooms : c.loop-part.rooms.rest.items ≡ [] =
    nil_from_length _ (let e = zip_length _ _ _ inv.rooms in let f = ap (λ (l : _). length l) none in omega (arith, e, f)) in
    subst (λ l. MadeWorks c.args.slots.items c.args.row.now.items (units_in plan) (all_rooms c.args.rooms.items) l row)
    (append-nil _)
    (inv.made [] row
    (subst (λ l. MadeWorks c.loop-part.slots.items row (units_in l) (all_rooms c.loop-part.rooms.rest.items) [] row)
    (sym none)
    (subst (λ l. MadeWorks c.loop-part.slots.items row [] (all_rooms l) [] row) (sym no_rooms) refl)))
