-- The requests that a layer takes with one that is ready: where it addresses one group alone, the run in front of that
-- group's queue.
use Rattle.std.specs.Prelude.{ℕ, ◌==◌, Bool, List, [], ◌∷◌, ◌++◌, length, take_while}
use Rattle.skeen_core.specs.declared.packet.Delivered.{Delivered}
use Rattle.delivery.specs.Ready.{QueueOf}

abbrev pub is_alone : Delivered → Bool
is_alone d = length d.groups == 1

-- the requests in front that address one group alone
abbrev pub run : List Delivered → List Delivered
run q = take_while is_alone q

-- what is taken with a ready request that addresses these groups
abbrev pub run_at : QueueOf → Delivered → List ℕ → List Delivered
run_at queue d (g ∷ []) = run (queue g)
run_at queue d gs = d ∷ []

abbrev pub run_of : QueueOf → Delivered → List Delivered
run_of queue d = run_at queue d d.groups

-- what is taken with these
abbrev pub runs_of : QueueOf → List Delivered → List Delivered
runs_of queue [] = []
runs_of queue (d ∷ ds) = run_of queue d ++ runs_of queue ds
