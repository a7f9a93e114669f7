-- That a case looks at its own keys alone.
use Rattle.std.proofs.Common.{List, [], ◌∷◌, ap, ◌∙◌}
use Rattle.std.specs.FinMap.{get}
use Rattle.keyspace.proofs.Parts.{among-first, get-restrict_here, put_back-set, put_back-restrict}
use Rattle.keyspace.specs.Map.{restrict, put_back, set}
use Rattle.command_cases.specs.Case.{Step, at_key, IsLocal}
use Rattle.resp.specs.Content.{Content}
use Rattle.texts.specs.Texts.{Bytes}

-- every command of one key, by what stands there
pub local-at_key : (key : Bytes) (step : Step) → IsLocal (key ∷ []) (at_key key step)
local-at_key key step m =
    let keys = key ∷ [] in
    let member = among-first key [] in
    let left = (step (get m key)).0 in
    ap (λ o. (put_back m keys (set (restrict m keys) key (step o).0), (step o).1)) (get-restrict_here m keys key member)
    ∙ ap (λ n. (n, (step (get m key)).1))
    (put_back-set m keys (restrict m keys) key left member ∙ ap (λ n. set n key left) (put_back-restrict m keys))

-- a case that leaves the map and answers the same to all
pub local-constant : (keys : List Bytes) (reply : Content) → IsLocal keys (λ m. (m, reply))
local-constant keys reply m = ap (λ n. (n, reply)) (put_back-restrict m keys)
