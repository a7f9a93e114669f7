use Rattle.std.proofs.Common.{◌∷◌, [], ap, arith, length, length-append, ◌∙◌}
use Rattle.std.proofs.lemmas.List.{map-append}
use Rattle.std.proofs.lemmas.Bool.{false≢true}
use Rattle.std.proofs.lemmas.Result.{err_from_is_err_and}
use Rattle.resp.specs.Content.{content}
use Rattle.tasks.specs.Command.{effect_of}
use Rattle.tasks.proofs.Turns.{in_turn-push}
use Rattle.tasks.proofs.Runs.{taken-push, next_within}
use Rattle.solo.proofs.Turns.{none_ran, some_ran}
use Rattle.solo.proofs.store.Solo.run_all.Goals as goal

pub push_reserved-requires : goal.push_reserved-requires
push_reserved-requires g c =
    let within = next_within _ c.loop-command.yielded c.in-Some.command _ _ c.in-Some.ensures.steps.0 c.loop-command.invariant.split in
    omega (arith, within, c.loop-command.invariant.count, c.loop-command.invariant.room, c.loop-command.replies.ok)

pub loop-command-preserved : goal.loop-command-preserved
loop-command-preserved g c = record {
  run = rw (c.push_reserved.ensures.items, map-append content)
      (in_turn-push effect_of c.args.self.now c.loop-command.self c.loop-command.yielded c.in-Some.command _ _ _
      c.loop-command.invariant.run c.in-Ok.ensures.does);
  split = taken-push _ c.loop-command.yielded c.in-Some.command _ _ c.in-Some.ensures.steps.0 c.loop-command.invariant.split;
  count = omega (
    arith,
    ap length c.push_reserved.ensures.items,
    length-append c.loop-command.replies.items (c.in-Ok.reply ∷ []),
    length-append c.loop-command.yielded (c.in-Some.command ∷ []),
    c.loop-command.invariant.count,
  );
  room = omega (arith, c.loop-command.invariant.room, c.push_reserved.ensures.capacity);
}

pub returns-in_err-replies-clause-err : goal.returns-in_err-replies-clause-err
returns-in_err-replies-clause-err g c =
    let p = err_from_is_err_and c.from_residual.result c.from_residual.ensures.1 in
    rw p.1 (none_ran c.args.commands.items c.args.self.now
    (λ none. false≢true (c.in_err-replies.ensures.succeeds (c.len.ensures ∙ c.args.commands.ok.0 ∙ none))))

pub returns-in_default-clause-err : goal.returns-in_default-clause-err
returns-in_default-clause-err g c =
    some_ran c.args.commands.items c.loop-command.yielded _ _ c.in-Some.command c.args.self.now c.loop-command.self _ _
    c.in-Some.ensures.steps.0 c.loop-command.invariant.split c.loop-command.invariant.run c.in_default.ensures.does
    c.in_default.ensures.starves
