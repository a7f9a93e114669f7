use Rattle.std.proofs.Common.{◌≡◌, refl, sym, subst, append_assoc}
use Rattle.std.proofs.lemmas.Result.{on_ok_weaker}
use Rattle.std.specs.Io.KnownBytes.{Appends}
use Rattle.std.specs.List.{flat_map}
use Rattle.picture_shapes.specs.Svg.{element, head_text, shapes_of, tail_text}
use Rattle.picture_shapes.specs.declared.legend.TheConstants.{LEGEND}
use Rattle.picture_shapes.specs.declared.style.TheConstants.{STYLE}
use Rattle.picture_shapes.specs.declared.svg.TheConstants.{OPENING, HEADING}
use Rattle.picture_shapes.proofs.Sending.{sent_whole}
use Rattle.picture_shapes.proofs.svg.write_svg.Goals as goal

pub returns : goal.returns
returns g c =
    let p = c.args.picture.now in
    let first = head_text OPENING.now HEADING.now STYLE.now p in
    let last = tail_text LEGEND.now p.legend in
    let head : c.put_head.new.out.items ≡ first = rw (c.in_ok-put_head.ensures, c.in_ok-piece.ensures.items) refl in
    on_ok_weaker c.send.result
    (λ sent. subst (Appends (g.W.Write.contents c.args.writer.now) (g.W.Write.contents c.send.new.writer))
    (sym (append_assoc first (flat_map element (shapes_of p)) last))
    (sent_whole (g.W.Write.contents c.args.writer.now) (g.W.Write.contents c.send_all.new.writer) (g.W.Write.contents c.send.new.writer)
    first (flat_map element (shapes_of p)) c.send_all.new.piece.items last c.put_tail.new.out.items
    (rw head at c.in_ok-send_all.ensures) c.in_ok-put_tail.ensures sent))
    c.send.ensures.sent
