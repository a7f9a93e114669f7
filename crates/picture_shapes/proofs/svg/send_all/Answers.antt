use Rattle.std.proofs.Common.{◌++◌}
use Rattle.std.specs.Io.KnownBytes.{append_known}
use Rattle.picture_shapes.specs.Svg.{element}
use Rattle.picture_shapes.proofs.Sending.{sent_more}
use Rattle.picture_shapes.proofs.svg.send_all.Goals as goal

pub returns : goal.returns
returns g c =
    let p = c.args.picture.now in
    let none = append_known (g.W.Write.contents c.args.writer.now) c.args.piece.now.items in
    let one = append_known (g.W.Write.contents c.send_shapes.new.writer) c.send_shapes.new.piece.items in
    let two = append_known (g.W.Write.contents c.send_shapes-2.new.writer) c.send_shapes-2.new.piece.items in
    let three = append_known (g.W.Write.contents c.send_shapes-3.new.writer) c.send_shapes-3.new.piece.items in
    let four = append_known (g.W.Write.contents c.send_shapes-4.new.writer) c.send_shapes-4.new.piece.items in
    let five = append_known (g.W.Write.contents c.send_shapes-5.new.writer) c.send_shapes-5.new.piece.items in
    let six = append_known (g.W.Write.contents c.send_shapes-6.new.writer) c.send_shapes-6.new.piece.items in
    let gb = p.ground.items ++ p.bands.items in
    let gba = gb ++ p.arrows.items in
    let gbab = gba ++ p.bars.items in
    let gbabm = gbab ++ p.marks.items in
    sent_more element none five six gbabm p.labels.items
    (sent_more element none four five gbab p.marks.items
    (sent_more element none three four gba p.bars.items
    (sent_more element none two three gb p.arrows.items
    (sent_more element none one two p.ground.items p.bands.items (rw c.as_slice.ensures.value at c.in_ok-send_shapes.ensures)
    (rw c.as_slice-2.ensures.value at c.in_ok-send_shapes-2.ensures))
    (rw c.as_slice-3.ensures.value at c.in_ok-send_shapes-3.ensures))
    (rw c.as_slice-4.ensures.value at c.in_ok-send_shapes-4.ensures))
    (rw c.as_slice-5.ensures.value at c.in_ok-send_shapes-5.ensures))
    (rw c.as_slice-6.ensures.value at c.in_ok-send_shapes-6.ensures)
