use Rattle.std.proofs.Common.{◌||◌, ap, sym, ◌∙◌, subst}
use Rattle.groups.specs.GroupSet.{has, IsAscending}
use Rattle.groups.specs.GroupSetLaws.{has-with, IsAscending-with}
use Rattle.tasks.proofs.Joining.{taken-one, or-nothing}
use Rattle.tasks.proofs.addressing.joined.Goals as goal

pub loop-group-init : goal.loop-group-init
loop-group-init c = record {
  both = λ g. ap (λ gs. has c.args.groups g || has gs g) (c.into_iter-group-iterator.ensures.into_iter_gives ∙ c.iter-group-items.ensures);
  ascending = c.requires;
}

pub loop-group-preserved : goal.loop-group-preserved
loop-group-preserved c = record {
  both = λ g.
      ap (λ gs. has gs g || has c.next.new.self g) c.with-all.ensures
      ∙ ap (λ b. b || has c.next.new.self g) (has-with c.loop-group.all c.in-Some.group g)
      ∙ taken-one g (has c.loop-group.all g) c.in-Some.group c.next.new.self
      ∙ ap (λ gs. has c.loop-group.all g || has gs g) (sym c.in-Some.ensures.steps)
      ∙ c.loop-group.invariant.both g;
  ascending = subst IsAscending (sym c.with-all.ensures) (IsAscending-with c.loop-group.all c.in-Some.group c.loop-group.invariant.ascending);
}

pub returns-clause-both : goal.returns-clause-both
returns-clause-both c g =
    sym (or-nothing (has c.loop-group.all g)) ∙ ap (λ gs. has c.loop-group.all g || has gs g) (sym c.in-None.ensures.steps.0)
    ∙ c.loop-group.invariant.both g

pub returns-clause-ascending : goal.returns-clause-ascending
returns-clause-ascending c = c.loop-group.invariant.ascending
