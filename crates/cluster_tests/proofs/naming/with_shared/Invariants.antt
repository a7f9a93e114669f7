use Rattle.cluster_tests.proofs.naming.with_shared.Given as goal

abbrev pub ghosts-open_shared : goal.ghosts-open_shared
ghosts-open_shared g a = record { table = a.table }
