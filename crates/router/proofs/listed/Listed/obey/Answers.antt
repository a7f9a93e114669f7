use Rattle.router.proofs.Queuing.{run_keeps_none, run_leaves_none}
use Rattle.router.proofs.listed.Listed.obey.Goals as goal

pub invariant_of-self-in-Ok : goal.invariant_of-self-in-Ok
invariant_of-self-in-Ok c =
    let asked = rw (c.in-Ok-Go-Exec.field-0-is, c.in-Ok-Go-Exec.field-0-0-is) at c.in-Ok-Go-Exec.ensures.asks in
    let left = run_leaves_none c.self.inside.session c.take.new.self c.args.words c.in-Ok-Go-Exec.members c.requires.control asked in
    run_keeps_none c.take.new.self c.self.inside.words c.keep_words-in-Ok.new.words left c.keep_words-in-Ok.ensures
