use Rattle.server.proofs.hosting.serve_at.Given as goal

abbrev pub ghosts-serve_all-L-Ledger : goal.ghosts-serve_all-L-Ledger
ghosts-serve_all-L-Ledger g a = record { name = a.blanks.blank.name; parts = a.blanks.blank.parts }

abbrev pub ghosts-serve_all-L-Server : goal.ghosts-serve_all-L-Server
ghosts-serve_all-L-Server g a = record { steps = a.blanks.steps; runs = a.blanks.runs }
