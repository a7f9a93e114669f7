-- A task that looks at no key addresses no group, and each other one addresses some.
use Rattle.std.proofs.Common.{◌≡◌, ℕ, ◌||◌, Bool, true, false, cond, List, [], ◌∷◌, Some, None}
use Rattle.std.proofs.Common.{Contains, refl, sym, ap, ◌∙◌, subst, arith, eq-eqb}
use Rattle.std.proofs.lemmas.Bool.{both_ways, and_parts}
use Rattle.std.specs.FinMap.{empty}
use Rattle.tasks.specs.Keys.{names_some, looks_at_keys}
use Rattle.groups.specs.GroupSet.{has}
use Rattle.placement.specs.Groups.{has_key_on}
use Rattle.placement.specs.Layout.{Layout, IsTable, shard_of}
use Rattle.resp.specs.Content.{Content}
use Rattle.tasks.proofs.Groups.{has-task_groups, has-task_groups-key}
use Rattle.tasks.specs.Tasks.{Task, task_keys, task_whole, task_groups, deed_effect, keyless_reply, AddressesBy, Addresses}

-- a set with a member is not empty
has_some : (gs : List ℕ) (g : ℕ) → has gs g ≡ true → (h : ℕ) × (hs : List ℕ) × (gs ≡ h ∷ hs)
has_some [] g there = absurd (let k = there in cc)
has_some (h ∷ hs) g there = (h, hs, refl)

has_first : (g : ℕ) (gs : List ℕ) → has (g ∷ gs) g ≡ true
has_first g gs = ap (λ b. b || has gs g) (eq-eqb g g refl)

-- keys of which there is none
none_named : (keys : List (List ℕ)) → names_some keys ≡ false → keys ≡ []
none_named [] none = refl
none_named (key ∷ keys) none = absurd (let k = none in cc)

neither : (a b : Bool) → (a || b) ≡ false → (a ≡ false) × (b ≡ false)
neither true b h = absurd (let k = h in cc)
neither false b h = (refl, h)

module _ (t : Layout) (table : IsTable t) (task : Task) where
  some_of_all : task_whole task ≡ true → (g : ℕ) × (gs : List ℕ) × (task_groups t task ≡ g ∷ gs)
  some_of_all whole = has_some (task_groups t task) 0 (has-task_groups t task 0 ∙ search (arith, whole, table.some_shard))

  some_of_keys : (keys : List (List ℕ)) → task_keys task ≡ keys → names_some keys ≡ true
      → (g : ℕ) × (gs : List ℕ) × (task_groups t task ≡ g ∷ gs)
  some_of_keys [] e some = absurd (let k = some in cc)
  some_of_keys (key ∷ keys) e some =
      has_some (task_groups t task) (shard_of t key)
      (has-task_groups-key t task key table (subst (λ ks. Contains ks key) (sym e) (0, omega arith, refl)))

  some_groups : looks_at_keys task ≡ true → (g : ℕ) × (gs : List ℕ) × (task_groups t task ≡ g ∷ gs)
  some_groups looks = elim (task_whole task)
      as (λ b. task_whole task ≡ b → (b || names_some (task_keys task)) ≡ true → (g : ℕ) × (gs : List ℕ) × (task_groups t task ≡ g ∷ gs)) [
        | true ↦ λ whole _. some_of_all whole
        | false ↦ λ _ named. some_of_keys (task_keys task) refl named
      ] refl looks

  no_groups : looks_at_keys task ≡ false → task_groups t task ≡ []
  no_groups looks = by_groups (task_groups t task) refl
    where
      local : (task_whole task ≡ false) × (names_some (task_keys task) ≡ false)
      local = neither (task_whole task) (names_some (task_keys task)) looks

      by_groups : (gs : List ℕ) → task_groups t task ≡ gs → gs ≡ []
      by_groups [] e = refl
      by_groups (g ∷ gs) e =
          let there : has (task_groups t task) g ≡ true = ap (λ hs. has hs g) e ∙ has_first g gs in
          let named = (and_parts _ _ (sym (has-task_groups t task g) ∙ there)).1 in
          absurd (both_ways _
          (ap (λ b. b || has_key_on t g (task_keys task)) local.0 ∙ ap (has_key_on t g) (none_named (task_keys task) local.1)) named)

  pub addresses : Addresses t task
  addresses = elim (looks_at_keys task)
      as (λ b. looks_at_keys task ≡ b
      → AddressesBy (cond b None (Some (deed_effect (task, []) empty).1)) (task_groups t task)) [
        | true ↦ some_groups
        | false ↦ no_groups
      ] refl

-- what is answered at once is its effect on the empty map
pub keyless_effect : (task : Task) (reply : Content) → keyless_reply task ≡ Some reply → (deed_effect (task, []) empty).1 ≡ reply
keyless_effect task reply e = elim (looks_at_keys task)
    as (λ b. cond b None (Some (deed_effect (task, []) empty).1) ≡ Some reply → (deed_effect (task, []) empty).1 ≡ reply) [
      | true ↦ λ is. absurd (let f = is in cc)
      | false ↦ λ is. let f = is in cc
    ] e
