-- How a group keeps its state: the started requests by their places, and the proposals.
use Rattle.std.specs.Prelude.{◌≡◌, ℕ, List, [], ◌∷◌, refl, Option, Some, None, cond}
use Rattle.std.specs.Coded.{Coded, code_by, coded×, coded_ℕ, coded_list}
use Rattle.std.specs.FinMap.{FinMap, empty, from_entries, code}
use Rattle.std.specs.List.Sorted.{IsStrictlySortedBy}
use Rattle.std.specs.Map.{keys_of}
use Rattle.std.specs.Ordering.{nat_cmp}
use Rattle.groups.specs.GroupSet.{IsAscending}
use Rattle.groups.specs.Order.{In}
use Rattle.groups.specs.Request.{same_id, id_cmp, source_cmp}
use Rattle.groups.specs.Stamp.{final, place_by}
use Rattle.groups.specs.declared.request.RequestId.{RequestId}
use Rattle.skeen_core.specs.Group.{GroupState, GroupView, heard, or_zero}
use Rattle.skeen_core.specs.Heard.{missing}
use Rattle.skeen_core.specs.Lawful.{Lawful}
use Rattle.skeen_core.specs.Pending.{stamp_cmp, Entry}
use Rattle.skeen_core.specs.Proposals.{id_code, source_code}

-- ---- a state as data

abbrev pub state_code : Coded GroupState
state_code =
    code_by (ℕ × (FinMap id_cmp (List ℕ) × (FinMap source_cmp ℕ × FinMap nat_cmp ℕ)))
    (coded× coded_ℕ (coded× (code id_code (coded_list coded_ℕ)) (coded× (code source_code coded_ℕ) (code coded_ℕ coded_ℕ))))
    (λ s. (s.clock, (s.started, (s.proposals, s.reached))))
    (λ p. record { clock = p.0; started = p.1.0; proposals = p.1.1.0; reached = p.1.1.1 }) (λ _. refl)

abbrev pub group_code : Coded GroupView
group_code =
    code_by (ℕ × (GroupState × ℕ)) (coded× coded_ℕ (coded× state_code coded_ℕ)) (λ g. (g.me, (g.state, g.looks)))
    (λ p. record { me = p.0; state = p.1.0; looks = p.1.1 }) (λ _. refl)

-- ---- the state that is shown, but for what was reached

abbrev pub starts_of : List Entry → List (RequestId × List ℕ)
starts_of [] = []
starts_of (e ∷ es) = (e.1.id, e.1.groups) ∷ starts_of es

abbrev pub state_of : ℕ → List Entry → FinMap source_cmp ℕ → GroupState
state_of clock es ps = record { clock = clock; started = from_entries (starts_of es); proposals = ps; reached = empty }

-- the groups of a started request, if it is one
abbrev pub groups_in : List Entry → RequestId → Option (List ℕ)
groups_in [] i = None
groups_in (e ∷ es) i = cond (same_id i e.1.id) (Some e.1.groups) (groups_in es i)

-- ---- what is kept

-- the request stands at its place, with the number of the proposals that are missing; these are the clocks of all
pub record StandsAt (me : ℕ) (clocks : ℕ → Option ℕ) (e : Entry) : Type 0 where
  pub ascending : IsAscending e.1.groups
  pub missing : e.1.missing ≡ missing clocks e.1.groups
  pub place : e.0 ≡ place_by (final clocks e.1.groups) (record { clock = or_zero (clocks me); group = me })

-- in the order of their places, each request once
pub record ArePlaced (me : ℕ) (es : List Entry) (ps : FinMap source_cmp ℕ) : Type 0 where
  pub rise : IsStrictlySortedBy stamp_cmp (keys_of es)
  pub once : (e f : Entry) → In e es → In f es → e.1.id ≡ f.1.id → e ≡ f
  pub stand : (e : Entry) → In e es → StandsAt me (heard (state_of 0 es ps) e.1.id) e

pub record IsKept (me clock : ℕ) (es : List Entry) (ps : FinMap source_cmp ℕ) : Type 0 where
  pub placed : ArePlaced me es ps
  pub lawful : Lawful me (state_of clock es ps)
