use Rattle.std.proofs.Common.{◌≡◌, ◌++◌, true, List, ap, ◌∙◌, subst}
use Rattle.dumps.specs.Dump.{dump_text}
use Rattle.journal.specs.declared.step.Step.{Step}
use Rattle.replay.proofs.Comparing.{if_ok, reports}
use Rattle.replay.specs.Report.{report_text}
use Rattle.replay.specs.declared.report.Report.{Report}
use Rattle.system.specs.Halves.{IsAt}
use Rattle.system.specs.Reads.{table_of, contents_of}
use Rattle.system.specs.System.{SystemView}
use Rattle.world.specs.World.{World}
use Rattle.placement.specs.Layout.{IsTable}
use Rattle.replay.proofs.report.report_of.Goals as goal

pub returns : goal.returns
returns c =
    let s = c.args.system in
    let dump : c.as_slice.result.now ≡ dump_text (contents_of s) =
    c.as_slice.ensures.value ∙ c.in_ok-dump.ensures.ok
    ∙ ap (λ l. l ++ dump_text (contents_of s)) c.new-dump.ensures.items in
    let is_table : IsTable (table_of s) =
    subst (λ (v : SystemView). IsTable (table_of v)) c.system.view_is c.system.invariant.is_table in
    if_ok c.compared.result _ (λ (report : Report). (h : List Step) (w : World) → IsAt s.halves h w →
    (report.text.items ≡ report_text w) × (report.agree ≡ true))
    (λ report told. reports s c.rows.result.now.rows c.starved.result.now c.as_slice.result.now report.text.items report.agree
    is_table c.rows.ensures c.starved.ensures dump told) c.compared.ensures
