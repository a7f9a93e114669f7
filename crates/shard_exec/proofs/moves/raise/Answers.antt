use Rattle.std.proofs.Common.{rules, ◌<◌, length, Some, slice_set, refl, sym, ap, ◌∙◌, subst, eq-eqb}
use Rattle.std.proofs.lemmas.Bool.{or_left, or_right}
use Rattle.std.proofs.lemmas.List.{length-set}
use Rattle.groups.specs.GroupSet.{has}
use Rattle.shard_exec.specs.Stamps.{raise}
use Rattle.shard_exec.proofs.moves.raise.Goals as goal

pub index_mut-requires : goal.index_mut-requires
index_mut-requires c =
    let inside = c.loop-group.invariant.inside c.in-Some.group
    (ap (λ gs. has gs c.in-Some.group) c.in-Some.ensures.steps ∙ or_left _ _ (eq-eqb c.in-Some.group c.in-Some.group refl)) in
    let h : c.from.result < length c.loop-group.lasts.items =
    subst (λ n. n < length c.loop-group.lasts.items) (sym (c.from.ensures ∙ c.number.ensures.same)) inside in search rules

pub loop-group-preserved : goal.loop-group-preserved
loop-group-preserved c =
    let is = c.in-Some.ensures.steps in let inv = c.loop-group.invariant in let lasts = c.loop-group.lasts.items in
    let there = c.from.ensures ∙ c.number.ensures.same in
    record {
      raised = ap (λ n. raise (slice_set lasts n (Some c.args.stamp.now)) c.next.new.self c.args.stamp.now) there
          ∙ ap (λ gs. raise lasts gs c.args.stamp.now) (sym is) ∙ inv.raised;
      inside = λ g h. subst (λ n. g < n) (sym (length-set lasts c.from.result (Some c.args.stamp.now)))
          (inv.inside g (ap (λ gs. has gs g) is ∙ or_right _ _ h));
      len = length-set lasts c.from.result (Some c.args.stamp.now) ∙ inv.len;
    }
