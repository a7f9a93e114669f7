use Rattle.std.proofs.Common.{subst}
use Rattle.placement.specs.Layout.{IsTableOf}
use Rattle.picture.proofs.shown.found.Goals as goal

pub returns-in-Ok-picture_of-clause-told : goal.returns-in-Ok-picture_of-clause-told
returns-in-Ok-picture_of-clause-told g c = λ before after written. record {
  layout = c.in-Ok-from_toml.table;
  max = c.in-Ok-read_trace.trace.max;
  steps = c.in-Ok-read_trace.trace.steps;
  facts = c.in-Ok-facts_of.facts;
  picture = c.in-Ok-picture_of.picture;
  is_table = subst (λ text. IsTableOf text c.in-Ok-from_toml.table) c.in-Ok.ensures.cases.0 c.in-Ok-from_toml.ensures.ok;
  spells = c.in-Ok-read_trace.ensures;
  of_run = c.in-Ok-facts_of.ensures.facts;
  drawn = c.in-Ok-picture_of.ensures;
  written = written;
}
