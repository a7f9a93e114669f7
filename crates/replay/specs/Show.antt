-- What the program has written, and its statuses.
use Rattle.std.specs.Prelude.{◌≢◌, ℕ, Bool, List, Option}
use Rattle.std.specs.Io.KnownBytes.{Appends}
use Rattle.std.specs.Str.{IsUtf8}
use Rattle.journal.specs.TraceText.{Spells, IsBad}
use Rattle.journal.specs.declared.step.Step.{Step}
use Rattle.placement.specs.Layout.{Layout, IsTableOf, IsRefused}
use Rattle.placement.specs.declared.fault.TableFault.TheVariants as table_fault
use Rattle.replay.specs.Replay.{IsReport, IsRefusedAt}
use Rattle.replay.specs.declared.report.Report.{Report}
use Rattle.replay.specs.declared.shown.ShowFault.{ShowFault}
use Rattle.replay.specs.declared.shown.ShowFault.TheVariants as fault
use Rattle.system.specs.declared.fault.StepFault.{StepFault}

-- the texts are a table and a trace, and the report of that trace's steps over this table's shards was written
pub record IsShown (table trace : List ℕ) (before after : Option (List ℕ)) : Type 0 where
  pub layout : Layout
  pub max : ℕ
  pub steps : List Step
  pub report : Report
  pub is_table : IsTableOf table layout
  pub spells : Spells trace max steps
  pub reports : IsReport layout steps report
  pub written : Appends before after report.text.items

-- the table's text is one, the trace's text is none, and this is the line
pub record IsTraceFault (table trace : List ℕ) (line : ℕ) : Type 0 where
  pub layout : Layout
  pub is_table : IsTableOf table layout
  pub bad : IsBad trace line

-- the texts are a table and a trace, and this step of it is refused
pub record IsStepFault (may_refuse : Bool) (table trace : List ℕ) (index : ℕ) (why : StepFault) : Type 0 where
  pub layout : Layout
  pub max : ℕ
  pub steps : List Step
  pub is_table : IsTableOf table layout
  pub spells : Spells trace max steps
  pub refused : IsRefusedAt may_refuse layout max steps index why

-- what a fault says of the two texts; want of memory and a failed write say nothing
abbrev pub IsShowFault : Bool → List ℕ → List ℕ → ShowFault → Type 0
IsShowFault may_refuse table trace fault.Encoding = IsUtf8 table → ⊥
IsShowFault may_refuse table trace (fault.Table why) = IsUtf8 table × IsRefused why table × (why ≢ table_fault.Memory)
IsShowFault may_refuse table trace (fault.Trace line) = IsTraceFault table trace line
IsShowFault may_refuse table trace (fault.Step index why) = IsStepFault may_refuse table trace index why
IsShowFault may_refuse table trace fault.Memory = Unit {0}
IsShowFault may_refuse table trace fault.Write = Unit {0}

abbrev pub status_of : ShowFault → ℕ
status_of (fault.Table why) = 3
status_of fault.Encoding = 3
status_of (fault.Trace line) = 4
status_of (fault.Step index why) = 5
status_of fault.Memory = 6
status_of fault.Write = 7
