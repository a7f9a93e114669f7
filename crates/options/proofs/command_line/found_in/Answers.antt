use Rattle.std.proofs.Common.{◌≡◌, ◌∙◌, ap, subst, true, [], map}
use Rattle.std.proofs.lemmas.Bool.{and_parts}
use Rattle.clap.specs.Words.{App, HasKind, HasMatchesOf, fault_of, is_simple, is_simple_and_free, takes}
use Rattle.options.specs.OptionRows.{line_of}
use Rattle.options.proofs.Refusals.{told_refusal}
use Rattle.options.proofs.command_line.found_in.Goals as goal

pub returns-in-Ok-clause-found : goal.returns-in-Ok-clause-found
returns-in-Ok-clause-found g c =
    let words = map g.S.AsStr.text c.args.words.now in
    let line = line_of c.args.program.now c.args.rows.now in
    let found = subst (λ (app : App). HasMatchesOf app words c.in-Ok.found) c.in_ok-line.ensures c.in-Ok.ensures.matches in
    (found (and_parts (is_simple line) _ c.requires).0).0

pub returns-in-Ok-clause-taken : goal.returns-in-Ok-clause-taken
returns-in-Ok-clause-taken g c =
    let words = map g.S.AsStr.text c.args.words.now in
    subst (λ (app : App). is_simple_and_free app ≡ true → fault_of app words ≡ []) c.in_ok-line.ensures c.in-Ok.ensures.kinds c.requires

pub returns-in-Err-clause-refused : goal.returns-in-Err-clause-refused
returns-in-Err-clause-refused g c =
    let words = map g.S.AsStr.text c.args.words.now in
    let line = line_of c.args.program.now c.args.rows.now in
    let passes = ap (λ (app : App). takes app words) c.in_ok-line.ensures in
    let kinds = subst (λ (app : App). is_simple_and_free app ≡ true → HasKind (fault_of app words) c.in-Err.error)
    c.in_ok-line.ensures c.in-Err.ensures.kinds c.requires in
    told_refusal line words c.in-Err.error c.from.result (λ taken. c.in-Err.ensures.passes (passes ∙ taken)) kinds c.from.ensures
