use Rattle.cluster_tests.proofs.naming.with_cluster.Given as goal

abbrev pub ghosts-open_cluster : goal.ghosts-open_cluster
ghosts-open_cluster g a = record { table = a.table }
