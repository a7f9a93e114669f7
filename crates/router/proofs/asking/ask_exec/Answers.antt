use Rattle.std.proofs.Common.{ap, ◌∙◌}
use Rattle.worded.specs.Reading.{batch_reading}
use Rattle.worded.proofs.BatchWords.{exec-reading}
use Rattle.router.proofs.asking.ask_exec.Goals as goal

pub of_members-requires : goal.of_members-requires
of_members-requires c =
    ap batch_reading c.in-Ok.ensures.made
    ∙ exec-reading c.args.list.now c.args.members c.in-Ok.ensures.fit c.requires.read c.requires.some
