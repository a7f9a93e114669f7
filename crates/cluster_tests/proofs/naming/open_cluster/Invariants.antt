use Rattle.cluster_tests.proofs.naming.open_cluster.Given as goal

abbrev pub ghosts-name_cluster-L-Ledger : goal.ghosts-name_cluster-L-Ledger
ghosts-name_cluster-L-Ledger g a = record { name = a.blanks.blank.name; parts = a.blanks.blank.parts }

abbrev pub ghosts-name_cluster-L-Server : goal.ghosts-name_cluster-L-Server
ghosts-name_cluster-L-Server g a = record { steps = a.blanks.steps; runs = a.blanks.runs }
