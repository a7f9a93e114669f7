use Rattle.system_tests.proofs.histories.two_threads.Given as goal

-- the history that was just opened
abbrev pub ghosts-write_three : goal.ghosts-write_three
ghosts-write_three g a = record { name = a.unnamed }
