use Rattle.std.proofs.Common.{subst}
use Rattle.std.specs.Io.KnownBytes.{Appends}
use Rattle.replay.proofs.Writing.{kept}
use Rattle.replay.proofs.shown.told_watched.Goals as goal

pub returns-clause-shown : goal.returns-clause-shown
returns-clause-shown g c =
    let before = g.O.Write.contents c.args.writer.now in
    let after = g.O.Write.contents c.flush.new.self in
    let mid = g.O.Write.contents c.write_all.new.self in
    c.in-Ok.ensures.shown before after
    (kept before mid after c.in-Ok.report.text.items
    (subst (Appends before mid) c.as_slice.ensures.value c.in-Ok-write_all.ensures.bytes) c.in-Ok-flush.ensures.bytes)

pub returns-clause-agrees : goal.returns-clause-agrees
returns-clause-agrees g c = c.in-Ok.ensures.agrees
