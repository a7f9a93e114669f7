use Rattle.std.proofs.Common.{◌≡◌, [], ◌∷◌, ◌++◌, length, sym, ap, ◌∙◌, subst, arith, rules}
use Rattle.std.proofs.lemmas.List.{length-append}
use Rattle.layer_planner.specs.Parts.{cut, AreEnds}
use Rattle.layer_planner.proofs.Cuts.{cut-push, AreEnds-push}
use Rattle.layer_planner.proofs.part.Part.with.Goals as goal

pub invariant_of-result : goal.invariant_of-result
invariant_of-result c =
    let count : c.len.result ≡ length c.extend_from_slice.new.self.items = search rules in
    let long = ap (λ l. length l) c.in_ok-extend_from_slice.ensures.items ∙ length-append c.self.inside.places.items c.args.unit.now in
    subst (λ ends. AreEnds 0 ends (length c.extend_from_slice.new.self.items))
    (sym (c.in_ok-push.ensures.items ∙ ap (λ n. c.self.inside.ends.items ++ n ∷ []) count))
    (AreEnds-push 0 c.self.inside.ends.items (length c.self.inside.places.items) (length c.extend_from_slice.new.self.items)
    c.self.invariant (omega (arith, long)))

pub returns : goal.returns
returns c =
    let count : c.len.result ≡ length c.extend_from_slice.new.self.items = search rules in
    ap (cut 0 c.extend_from_slice.new.self.items)
    (c.in_ok-push.ensures.items ∙ ap (λ n. c.self.inside.ends.items ++ n ∷ []) count)
    ∙ ap (λ l. cut 0 l (c.self.inside.ends.items ++ length l ∷ [])) c.in_ok-extend_from_slice.ensures.items
    ∙ cut-push 0 c.self.inside.places.items c.args.unit.now c.self.inside.ends.items c.self.invariant
    ∙ ap (λ l. l ++ c.args.unit.now ∷ []) c.self.view_is
