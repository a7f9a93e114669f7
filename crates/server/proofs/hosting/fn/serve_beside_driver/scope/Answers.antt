use Rattle.server.proofs.Crossing.{carrier_send, driver_send, reporter_send, taking_send}
use Rattle.server.proofs.hosting.fn.serve_beside_driver.scope.Goals as goal

pub spawn-requires-send-F : goal.spawn-requires-send-F
spawn-requires-send-F g c = λ κs outlives.
    driver_send _ _ g.row.T g.row.L g.row.R g.T.Tabled g.L.Server g.L.Ledger _ _ _ _ _ _
    record { shared = c.syncs.ensures.shared } c.halves_send.ensures.front (c.halves_send.ensures.store, c.halves_send.ensures.row)

pub spawn_scoped-requires-send-F : goal.spawn_scoped-requires-send-F
spawn_scoped-requires-send-F g c = λ κs outlives.
    carrier_send _ _ g.row.T g.row.L g.row.R g.T.Tabled g.L.Server g.L.Ledger _ _ _ _ _ _
    record { shared = c.syncs.ensures.shared } c.halves_send.ensures.front (c.halves_send.ensures.store, c.halves_send.ensures.row)

pub spawn_scoped-reporting-requires-send-F : goal.spawn_scoped-reporting-requires-send-F
spawn_scoped-reporting-requires-send-F g c = λ κs outlives.
    reporter_send _ _ g.row.T g.row.L g.row.R g.T.Tabled g.L.Server g.L.Ledger _ _ _ _ _ _
    record { shared = c.syncs.ensures.shared } c.halves_send.ensures.front (c.halves_send.ensures.store, c.halves_send.ensures.row)

pub spawn-taking-requires-send-F : goal.spawn-taking-requires-send-F
spawn-taking-requires-send-F g c = λ κs outlives.
    taking_send _ _ g.row.T g.row.L g.row.R g.T.Tabled g.L.Server g.L.Ledger _ _ _ _ _ _ _ _
    record { shared = c.syncs.ensures.shared } c.halves_send.ensures.front (c.halves_send.ensures.store, c.halves_send.ensures.row)
