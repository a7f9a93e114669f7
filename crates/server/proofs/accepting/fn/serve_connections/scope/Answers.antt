use Rattle.server.proofs.Crossing.{served_send}
use Rattle.server.proofs.accepting.fn.serve_connections.scope.Goals as goal

pub spawn-thread-requires-send-F : goal.spawn-thread-requires-send-F
spawn-thread-requires-send-F g c = λ κs outlives.
    served_send _ _ g.row.T g.row.L g.row.R g.T.Tabled g.L.Server g.L.Ledger _ _ _ _ _ _ _ _ _ _
    record { shared = c.syncs.ensures.shared } c.halves_send.ensures.front (c.halves_send.ensures.store, c.halves_send.ensures.row)
