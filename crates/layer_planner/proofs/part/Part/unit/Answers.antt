use Rattle.std.proofs.Common.{◌<◌, ◌≤◌, length, slice_index_or, take, drop, ◌-◌, sym, ap, ◌∙◌, subst}
use Rattle.layer_planner.specs.Parts.{start_of}
use Rattle.layer_planner.proofs.Cuts.{there, piece}
use Rattle.layer_planner.proofs.part.Part.unit.Goals as goal

pub start_of-requires : goal.start_of-requires
start_of-requires c = subst (λ l. c.args.number < length l) (sym c.as_slice-ends.ensures.value)
    (there c.self.inside.places.items c.self.inside.ends.items c.args.self.now c.args.number c.self.view_is c.requires.there)

pub end_of-requires : goal.end_of-requires
end_of-requires c = subst (λ l. c.args.number < length l) (sym c.as_slice-ends.ensures.value)
    (there c.self.inside.places.items c.self.inside.ends.items c.args.self.now c.args.number c.self.view_is c.requires.there)

pub between-requires-clause-start : goal.between-requires-clause-start
between-requires-clause-start c =
    (piece c.self.inside.places.items c.self.inside.ends.items c.args.self.now c.args.number c.start_of.result
    c.end_of.result c.self.invariant c.self.view_is c.requires.there
    (c.start_of.ensures ∙ ap (λ l. start_of l c.args.number) c.as_slice-ends.ensures.value)
    (c.end_of.ensures ∙ ap (λ l. slice_index_or l c.args.number 0) c.as_slice-ends.ensures.value)).up

pub between-requires-clause-end : goal.between-requires-clause-end
between-requires-clause-end c = subst (λ l. c.end_of.result ≤ length l)
    (sym c.as_slice.ensures.value)
    (piece c.self.inside.places.items c.self.inside.ends.items c.args.self.now c.args.number c.start_of.result
    c.end_of.result c.self.invariant c.self.view_is c.requires.there
    (c.start_of.ensures ∙ ap (λ l. start_of l c.args.number) c.as_slice-ends.ensures.value)
    (c.end_of.ensures ∙ ap (λ l. slice_index_or l c.args.number 0) c.as_slice-ends.ensures.value)).inside

pub returns : goal.returns
returns c =
    c.between.ensures
    ∙ ap (λ l. take (c.end_of.result - c.start_of.result) (drop c.start_of.result l))
    c.as_slice.ensures.value
    ∙ (piece c.self.inside.places.items c.self.inside.ends.items c.args.self.now c.args.number c.start_of.result
    c.end_of.result c.self.invariant c.self.view_is c.requires.there
    (c.start_of.ensures ∙ ap (λ l. start_of l c.args.number) c.as_slice-ends.ensures.value)
    (c.end_of.ensures ∙ ap (λ l. slice_index_or l c.args.number 0) c.as_slice-ends.ensures.value)).is
