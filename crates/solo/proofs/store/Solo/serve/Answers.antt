use Rattle.std.proofs.Common.{arith}
use Rattle.solo.proofs.Served.{served_in_turn}
use Rattle.solo.proofs.store.Solo.serve.Goals as goal

pub returns : goal.returns
returns g c =
    served_in_turn _ _ _ _ _ _ _ _ _ _ c.new-session.ensures (grind (arith, c.serve_client.ensures.same_reference))
    c.serve_client.ensures.serves
