use Rattle.std.proofs.Common.{◌≡◌, ◌<◌, ◌+◌, ◌∙◌, List, length, drop, map, ap, sym, true, arith}
use Rattle.std.proofs.lemmas.List.{at_drop_all, at_drop_more}
use Rattle.clap.specs.Simple.{App, app_of_fields}
use Rattle.clap.specs.Words.{app_of, with_rule}
use Rattle.options.specs.CommandLine.{app_named, with_rules}
use Rattle.options.specs.OptionRows.{rule_of_row}
use Rattle.options.specs.declared.option_row.OptionRow.{OptionRow}
use Rattle.options.proofs.command_line.line.Goals as goal

-- the command line with the options of these rows behind its own
abbrev behind : App → List OptionRow → App
behind line rows = with_rules line (map rule_of_row rows)

pub loop-row-init : goal.loop-row-init
loop-row-init c =
    let named = ap (λ (a : App). record a { top = record a.top { has_version = true } }) c.new.ensures.app in
    let begins : app_of c.version-line.result ≡ app_named c.args.program.now = ap app_of_fields c.version-line.ensures ∙ named in
    ap (λ line. behind line c.args.rows.now) begins

pub loop-row-preserved : goal.loop-row-preserved
loop-row-preserved c =
    let rows = c.args.rows.now in
    let line = app_of c.loop-row.line in
    let at = c.loop-row.row-index in
    let there : at < length rows = omega (arith, c.loop-row-test.true) in
    let adds = c.in_ok-line.ensures.shape c.arg.ensures.local ∙ ap (with_rule line) c.arg.ensures.rule in
    ap (λ made. behind made (drop (at + 1) rows)) adds ∙ sym (at_drop_more (behind line) rows at _ there) ∙ c.loop-row.invariant

pub returns : goal.returns
returns c =
    sym (at_drop_all (behind (app_of c.loop-row.line)) c.args.rows.now c.loop-row.row-index c.loop-row-test.false) ∙ c.loop-row.invariant
