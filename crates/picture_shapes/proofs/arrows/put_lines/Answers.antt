use Rattle.picture_shapes.specs.Arrows.{lines_of}
use Rattle.picture_shapes.proofs.Each.{put_more}
use Rattle.picture_shapes.proofs.arrows.put_lines.Goals as goal

pub loop-packet-preserved : goal.loop-packet-preserved
loop-packet-preserved c =
    put_more (lines_of c.args.frame.now) c.args.arrows.now.items c.loop-packet.arrows.items c.put_line.new.arrows.items
    c.args.packets.now c.loop-packet.packet-index c.packet-item.result c.loop-packet.invariant c.in_ok-put_line.ensures
    c.loop-packet-test.true c.packet-item.is
