use denote.Param.{param}
use Rattle.server.proofs.Crossing.{shared_syncs}
use Rattle.server.proofs.sending.shared_syncs.Goals as goal

pub returns : goal.returns
returns g c =
    shared_syncs (param 0 g.row.T) (param 1 g.row.L) g.T.Tabled g.L.Server g.L.Ledger c.halves_send.ensures.front
    (c.halves_send.ensures.store, c.halves_send.ensures.row)
