use Rattle.std.proofs.Common.{◌≡◌, drop, map}
use Rattle.clap.specs.Words.{app_of}
use Rattle.options.specs.CommandLine.{with_rules}
use Rattle.options.specs.OptionRows.{line_of, rule_of_row}
use Rattle.options.proofs.command_line.line.Given as goal

abbrev pub invariant-loop-row : goal.invariant-loop-row
invariant-loop-row l = with_rules (app_of l.line) (map rule_of_row (drop l.row-index l.rows)) ≡ line_of l.program l.rows
