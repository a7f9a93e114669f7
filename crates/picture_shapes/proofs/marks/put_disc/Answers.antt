use Rattle.picture_shapes.proofs.marks.put_disc.Goals as goal

pub returns : goal.returns
returns c =
    rw (
      c.as_slice.ensures.value,
      c.in_ok-carried.ensures,
      c.of.ensures.name,
      c.of.ensures.colour,
      c.of.ensures.starved,
      c.disc_name-name.ensures,
      c.from.ensures,
      c.number.ensures.same,
    ) at c.put_shape.ensures
