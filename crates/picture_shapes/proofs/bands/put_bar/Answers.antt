use Rattle.picture_shapes.proofs.bands.put_bar.Goals as goal

pub returns : goal.returns
returns c =
    rw (
      c.bar-form.ensures,
      c.x.ensures.value,
      c.x_or_end.ensures.value,
      c.plain.ensures.name,
      c.plain.ensures.colour,
      c.plain.ensures.starved,
      c.as_slice.ensures.value,
    ) at c.put_shape.ensures
