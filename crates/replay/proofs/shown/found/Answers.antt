use Rattle.std.proofs.Common.{subst}
use Rattle.placement.specs.Layout.{IsTableOf}
use Rattle.replay.proofs.shown.found.Goals as goal

pub returns-clause-shown : goal.returns-clause-shown
returns-clause-shown g c = λ before after written. record {
  layout = c.in-Ok-from_toml.table;
  max = c.in-Ok-read_trace.trace.max;
  steps = c.in-Ok-read_trace.trace.steps;
  report = c.in-Ok-replay_watched.report;
  is_table = subst (λ text. IsTableOf text c.in-Ok-from_toml.table) c.in-Ok.ensures.cases.0 c.in-Ok-from_toml.ensures.ok;
  spells = c.in-Ok-read_trace.ensures;
  reports = c.in-Ok-replay_watched.ensures.report;
  written = written;
}

pub returns-clause-agrees : goal.returns-clause-agrees
returns-clause-agrees g c = c.in-Ok-replay_watched.ensures.report.agrees
