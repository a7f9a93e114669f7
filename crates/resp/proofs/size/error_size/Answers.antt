use Rattle.resp.specs.Ascii.{minus}
use Rattle.resp.proofs.size.error_size.Goals as goal

pub returns-in-Fixed : goal.returns-in-Fixed
returns-in-Fixed c = rw (c.in-Fixed.is, ← c.as_bytes.ensures.value) (c.line_size.ensures minus)
