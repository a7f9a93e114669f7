use Rattle.history.proofs.Lists.{prefix_shorter}
use Rattle.history.proofs.part.Part.begins.Goals as goal

pub returns : goal.returns
returns g c = prefix_shorter c.args.self.now c.args.longer.now c.with-both.result
    c.with-both.ensures.this c.with-both.ensures.that c.requires
