use Rattle.std.proofs.Common.{take}
use Rattle.std.specs.List.{flat_map}
use Rattle.picture_shapes.specs.Svg.{element}
use Rattle.picture_shapes.proofs.Each.{put_one}
use Rattle.picture_shapes.proofs.Sending.{sent_on}
use Rattle.picture_shapes.proofs.svg.send_shapes.Goals as goal

pub loop-shape-preserved : goal.loop-shape-preserved
loop-shape-preserved g c =
    sent_on _ (g.W.Write.contents c.loop-shape.writer) _ c.loop-shape.piece.items c.put_element.new.out.items
    (flat_map element (take c.loop-shape.shape-index c.args.shapes.now)) (element c.shape-item.result) _ c.loop-shape.invariant
    c.in_ok-put_element.ensures c.in_ok-send_if_full.ensures
    (put_one element c.args.shapes.now c.loop-shape.shape-index c.shape-item.result c.loop-shape-test.true c.shape-item.is)
