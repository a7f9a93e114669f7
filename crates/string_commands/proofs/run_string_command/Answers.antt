use Rattle.std.proofs.Common.{◌≡◌, w64, OnErr, sym, subst, rules}
use Rattle.std.specs.FinMap.{get}
use mir.Val.{to_z, of_z}
use Rattle.command_cases.specs.Case.{Does, at_key}
use Rattle.string_commands.specs.StringCommand.{string_command_case, StringCommandTakesMemory, incrby_step, decrby_step, setrange_step}
use Rattle.string_commands.specs.StringCommand.{Grows}
use Rattle.string_commands.proofs.run_string_command.Goals as goal

-- A number of 64 bits is handed on as it is.

pub returns-in-Incrby-command_rows-clause-done : goal.returns-in-Incrby-command_rows-clause-done
returns-in-Incrby-command_rows-clause-done g c =
    let old = g.K.Keyspace.contents c.args.keyspace.now in
    let new = g.K.Keyspace.contents c.command_rows-incrby.new.keyspace in
    let arm = c.in-Incrby-command_rows in
    let same : to_z w64 (of_z w64 arm.by) ≡ arm.by = search rules in
    subst (λ command. Does (string_command_case command) old new c.command_rows-incrby.result) (sym arm.is)
    (subst (λ n. Does (at_key arm.key (incrby_step n)) old new c.command_rows-incrby.result) same c.command_rows-incrby.ensures.done)

pub returns-in-Incrby-command_rows-clause-starves : goal.returns-in-Incrby-command_rows-clause-starves
returns-in-Incrby-command_rows-clause-starves g c =
    let old = g.K.Keyspace.contents c.args.keyspace.now in
    let arm = c.in-Incrby-command_rows in
    let same : to_z w64 (of_z w64 arm.by) ≡ arm.by = search rules in
    subst (λ command. OnErr c.command_rows-incrby.result (StringCommandTakesMemory command old)) (sym arm.is)
    (subst (λ n. OnErr c.command_rows-incrby.result (Grows (incrby_step n) (get old arm.key))) same c.command_rows-incrby.ensures.starves)

pub returns-in-Decrby-command_rows-clause-done : goal.returns-in-Decrby-command_rows-clause-done
returns-in-Decrby-command_rows-clause-done g c =
    let old = g.K.Keyspace.contents c.args.keyspace.now in
    let new = g.K.Keyspace.contents c.command_rows-decrby.new.keyspace in
    let arm = c.in-Decrby-command_rows in
    let same : to_z w64 (of_z w64 arm.by) ≡ arm.by = search rules in
    subst (λ command. Does (string_command_case command) old new c.command_rows-decrby.result) (sym arm.is)
    (subst (λ n. Does (at_key arm.key (decrby_step n)) old new c.command_rows-decrby.result) same c.command_rows-decrby.ensures.done)

pub returns-in-Decrby-command_rows-clause-starves : goal.returns-in-Decrby-command_rows-clause-starves
returns-in-Decrby-command_rows-clause-starves g c =
    let old = g.K.Keyspace.contents c.args.keyspace.now in
    let arm = c.in-Decrby-command_rows in
    let same : to_z w64 (of_z w64 arm.by) ≡ arm.by = search rules in
    subst (λ command. OnErr c.command_rows-decrby.result (StringCommandTakesMemory command old)) (sym arm.is)
    (subst (λ n. OnErr c.command_rows-decrby.result (Grows (decrby_step n) (get old arm.key))) same c.command_rows-decrby.ensures.starves)

pub returns-in-Setrange-command_rows-clause-done : goal.returns-in-Setrange-command_rows-clause-done
returns-in-Setrange-command_rows-clause-done g c =
    let old = g.K.Keyspace.contents c.args.keyspace.now in
    let new = g.K.Keyspace.contents c.command_rows-setrange.new.keyspace in
    let arm = c.in-Setrange-command_rows in
    let same : to_z w64 (of_z w64 arm.offset) ≡ arm.offset = search rules in
    subst (λ command. Does (string_command_case command) old new c.command_rows-setrange.result) (sym arm.is)
    (subst (λ n. Does (at_key arm.key (setrange_step n arm.value)) old new c.command_rows-setrange.result)
    same c.command_rows-setrange.ensures.done)

pub returns-in-Setrange-command_rows-clause-starves : goal.returns-in-Setrange-command_rows-clause-starves
returns-in-Setrange-command_rows-clause-starves g c =
    let old = g.K.Keyspace.contents c.args.keyspace.now in
    let arm = c.in-Setrange-command_rows in
    let same : to_z w64 (of_z w64 arm.offset) ≡ arm.offset = search rules in
    subst (λ command. OnErr c.command_rows-setrange.result (StringCommandTakesMemory command old)) (sym arm.is)
    (subst (λ n. OnErr c.command_rows-setrange.result (Grows (setrange_step n arm.value) (get old arm.key)))
    same c.command_rows-setrange.ensures.starves)
