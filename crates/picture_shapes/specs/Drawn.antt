-- The picture of a run's facts.
use Rattle.std.specs.Prelude.{◌≡◌, ℕ, length}
use Rattle.picture_shapes.specs.Arrows.{arrows_of}
use Rattle.picture_shapes.specs.Bands.{bands_of}
use Rattle.picture_shapes.specs.Frames.{IsWindow}
use Rattle.picture_shapes.specs.Marks.{marks_of}
use Rattle.picture_shapes.specs.declared.drawn.Picture.{Picture}
use Rattle.picture_shapes.specs.declared.facts.RunFacts.{RunFacts}
use Rattle.picture_shapes.specs.declared.frame.Frame.{Frame}

-- its layers, its arrows, and its receipts and deliveries are those of the facts within this window of steps
pub record IsPictureOf (run : RunFacts) (from to : ℕ) (p : Picture) : Type 0 where
  pub frame : Frame
  pub window : IsWindow (length run.steps.items) from to frame
  pub bands : p.bands.items ≡ bands_of frame run
  pub arrows : p.arrows.items ≡ arrows_of frame run
  pub marks : p.marks.items ≡ marks_of frame run
