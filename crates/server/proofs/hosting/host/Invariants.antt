use Rattle.server.proofs.hosting.host.Given as goal

abbrev pub ghosts-serve_at : goal.ghosts-serve_at
ghosts-serve_at g a = record { table = a.table }
