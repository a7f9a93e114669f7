-- The proposals that a group has, in lists by request.
use Rattle.std.specs.Prelude.{◌≡◌, ℕ, ◌<◌, ◌==◌, ◌↔◌, ◌&&◌, ◌||◌, not, Bool, true, false, List, [], ◌∷◌, ◌++◌, length, refl, Option, Some}
use Rattle.std.specs.Prelude.{None, IsSome}
use Rattle.std.specs.Coded.{Coded, code_by, coded×, coded_ℕ}
use Rattle.std.specs.FinMap.{FinMap, get}
use Rattle.std.specs.List.{IsDistinct}
use Rattle.std.specs.Map.{keys_of}
use Rattle.groups.specs.Order.{In}
use Rattle.groups.specs.Request.{same_id, Source, source_cmp}
use Rattle.groups.specs.declared.request.RequestId.{RequestId}
use Rattle.skeen_core.specs.Group.{EachOnce}
use Rattle.skeen_core.specs.Heard.{clock_of}
use Rattle.skeen_core.specs.declared.heard.Heard.{Heard}

-- ---- as data

abbrev pub id_code : Coded RequestId
id_code = code_by (ℕ × ℕ) (coded× coded_ℕ coded_ℕ) (λ i. (i.conn.0, i.seq)) (λ p. record { conn = record { 0 = p.0 }; seq = p.1 })
    (λ _. refl)

abbrev pub source_code : Coded Source
source_code = code_by (RequestId × ℕ) (coded× id_code coded_ℕ) (λ s. (s.id, s.from)) (λ p. record { id = p.0; from = p.1 }) (λ _. refl)

-- ---- what the lists say

-- a request's clocks, by their sources
abbrev pub sources_of : RequestId → List Heard → List (Source × ℕ)
sources_of i [] = []
sources_of i (p ∷ ps) = (record { id = i; from = p.from }, p.clock) ∷ sources_of i ps

abbrev pub clocks_of : List (RequestId × List Heard) → List (Source × ℕ)
clocks_of [] = []
clocks_of (e ∷ es) = sources_of e.0 e.1 ++ clocks_of es

-- each request once, and no list is empty
pub record AreLists (es : List (RequestId × List Heard)) : Type 0 where
  pub once : IsDistinct same_id (keys_of es)
  pub some : (e : RequestId × List Heard) → In e es → 0 < length e.1

-- ---- reads

abbrev pub is_clock : Option ℕ → ℕ → Bool
is_clock None n = false
is_clock (Some m) n = m == n

-- none of these but the request's own has that proposal
abbrev pub are_single : RequestId → ℕ → ℕ → List (RequestId × List Heard) → Bool
are_single id from n [] = true
are_single id from n (e ∷ es) = (same_id e.0 id || not (is_clock (clock_of e.1 from) n)) && are_single id from n es

abbrev pub agrees : Option ℕ → ℕ → Bool
agrees None n = true
agrees (Some m) n = m == n

-- n is the length of a list that has each request with a proposal, once
pub record CountsNamed (ps : FinMap source_cmp ℕ) (n : ℕ) : Type 0 where
  pub ids : List RequestId
  pub once : EachOnce ids
  pub named : (i : RequestId) → In i ids ↔ ((g : ℕ) × IsSome (get ps (record { id = i; from = g })))
  pub count : length ids ≡ n
