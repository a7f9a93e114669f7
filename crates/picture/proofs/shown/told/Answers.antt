use Rattle.std.proofs.KnownBytes.{Appends-kept}
use Rattle.picture_shapes.specs.Svg.{svg_text}
use Rattle.picture.proofs.shown.told.Goals as goal

pub returns-clause-told : goal.returns-clause-told
returns-clause-told g c =
    let before = g.O.Write.contents c.args.writer.now in
    let mid = g.O.Write.contents c.write_svg.new.writer in
    let after = g.O.Write.contents c.flush.new.self in
    c.in-Ok.ensures.told before after
    (Appends-kept before mid after (svg_text c.in-Ok.picture) c.in-Ok-write_svg.ensures c.in-Ok-flush.ensures.bytes)
