use Rattle.cluster_tests.proofs.naming.open_shared.Given as goal

abbrev pub ghosts-name_shared-L-Ledger : goal.ghosts-name_shared-L-Ledger
ghosts-name_shared-L-Ledger g a = record { name = a.blanks.blank.name; parts = a.blanks.blank.parts }

abbrev pub ghosts-name_shared-L-Server : goal.ghosts-name_shared-L-Server
ghosts-name_shared-L-Server g a = record { steps = a.blanks.steps; runs = a.blanks.runs }
