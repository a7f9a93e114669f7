use Rattle.std.proofs.Common.{◌≡◌, sym, ap, ◌∙◌, Some, inl, inr, ◌⊎◌, Result, Ok, Err}
use Rattle.std.specs.Result.{OnOk, OnErr}
use Rattle.placement.specs.Layout.{shard_of}
use Rattle.std.specs.Result.{IfOk}
use Rattle.shards.proofs.Unions.{Spot, get_here, changed_span, changed_union, kept_span, kept_union}
use Rattle.shards.proofs.span.SpanKeyspace.put.Given.{Over}
use Rattle.shards.proofs.span.SpanKeyspace.put.Goals as goal

-- what follows from the success, and from the refusal
on_ok : {X E : Type 0} {A B : Type 0} (r : Result X E) → (A → B) → OnOk r A → OnOk r B
on_ok (Ok x) f a = f a
on_ok (Err x) f a = tt

on_err : {X E : Type 0} {A B : Type 0} (r : Result X E) → (A → B) → OnErr r A → OnErr r B
on_err (Ok x) f a = tt
on_err (Err x) f a = f a

if_ok : {X E : Type 0} (r : Result X E) (a b : X) → b ≡ a → IfOk r (λ x. x ≡ a) → IfOk r (λ x. x ≡ b)
if_ok (Ok x) a b e h = h ∙ sym e
if_ok (Err x) a b e h = tt

one_of : {X E : Type 0} {A B : Type 0} (r : Result X E) → OnOk r A → OnErr r B → A ⊎ B
one_of (Ok x) a b = inl a
one_of (Err x) a b = inr b

spot : (g : Over) (c : goal.After-self-1 g)
    → Spot g.F.SpanFrame.layout g.F.SpanFrame.groups c.self.inside.shards.items c.args.self.now c.index_of-index.result
    c.index_mut.result.now c.args.key.items
spot g c = record {
  shown = c.self.view_is;
  span = c.self.invariant.1;
  below = c.index_of-index.ensures.inside;
  there = c.index_of-index.ensures.there ∙ ap (shard_of g.F.SpanFrame.layout) c.as_slice.ensures.value;
  at = c.index_mut.ensures.value;
}

pub invariant_of-self : goal.invariant_of-self
invariant_of-self g c = (
  c.self.invariant.0,
  elim (one_of c.put.result c.put.ensures.ok c.put.ensures.err) [
    | inl is ↦ changed_span (spot g c) c.put.new.self (Some c.args.value) is
    | inr is ↦ kept_span (spot g c) c.put.new.self is
  ],
)

pub returns-clause-before : goal.returns-clause-before
returns-clause-before g c = if_ok c.put.result _ _ (get_here (spot g c)) c.put.ensures.before

pub returns-clause-ok : goal.returns-clause-ok
returns-clause-ok g c = on_ok c.put.result (changed_union (spot g c) c.put.new.self (Some c.args.value)) c.put.ensures.ok

pub returns-clause-absent : goal.returns-clause-absent
returns-clause-absent g c = on_err c.put.result (λ none. get_here (spot g c) ∙ none) c.put.ensures.absent

pub returns-clause-err : goal.returns-clause-err
returns-clause-err g c = on_err c.put.result (kept_union (spot g c) c.put.new.self) c.put.ensures.err
