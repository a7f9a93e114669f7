use Rattle.picture_shapes.proofs.drawn.picture_of.Goals as goal

pub returns : goal.returns
returns c = record {
  frame = c.in_ok-frame.frame;
  window = c.in_ok-frame.ensures;
  bands = c.in_ok-bands.ensures;
  arrows = c.in_ok-arrows.ensures;
  marks = c.in_ok-marks.ensures;
}
