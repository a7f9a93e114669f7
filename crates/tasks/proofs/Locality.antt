-- What a deed does rests on some keys alone, and it changes no other: those that a test passes, which passes each key of its task.
use Rattle.std.proofs.Common.{◌≡◌, ℕ, suc, ◌||◌, List, [], ◌∷◌, Bool, true, false, cond, None}
use Rattle.std.proofs.Common.{refl, sym, ap, ◌∙◌}
use Rattle.std.proofs.lemmas.Bool.{both_ways}
use Rattle.std.proofs.lemmas.List.Folds.{list_any-append}
use Rattle.std.specs.FinMap.{get}
use Rattle.std.specs.List.{flat_map, list_any}
use Rattle.std.specs.Str.{bytes_eq}
use Rattle.tasks.specs.Batch.{members_from, batch_effect}
use Rattle.tasks.specs.Keys.{member_keys, member_whole, batch_keys, batch_whole}
use Rattle.tasks.specs.Member.{member_effect}
use Rattle.tasks.specs.Starved.{has}
use Rattle.tasks.specs.Command.{case_of, effect_of}
use Rattle.command_cases.specs.Case.{one}
use Rattle.command_table.specs.Command.{keys_of, is_whole}
use Rattle.command_table.specs.declared.command.Command.{Command}
use Rattle.keyspace.proofs.Gets.{same}
use Rattle.keyspace.proofs.Parts.{get-restrict, get-put_back}
use Rattle.keyspace.specs.Map.{Map, among, restrict}
use Rattle.resp.specs.Content.{Several, contents}
use Rattle.sessions.specs.declared.batch.Batch.{Batch}
use Rattle.sessions.specs.declared.batch.Batch.TheVariants.{Plain, Exec}
use Rattle.sessions.specs.declared.member.Member.{Member}
use Rattle.sessions.specs.declared.member.Member.TheVariants.{Runs, Refused}

-- a test of keys
abbrev pub Test : Type 0
Test = List ℕ → Bool

-- both maps have the same at each key that the test passes
abbrev pub Agree : Test → Map → Map → Type 0
Agree p m u = (q : List ℕ) → p q ≡ true → get u q ≡ get m q

-- What it answers, and what it leaves at the keys that the test passes, rests on what the map has there; and elsewhere it leaves all
-- as it was.
pub record IsWithin {R : Type 0} (p : Test) (step : Map → Map × R) : Type 0 where
  pub answers : (m u : Map) → Agree p m u → (step u).1 ≡ (step m).1
  pub leaves : (m u : Map) → Agree p m u → Agree p (step m).0 (step u).0
  pub others : (m : Map) (q : List ℕ) → p q ≡ false → get (step m).0 q ≡ get m q

-- the test passes each of these keys, and all keys where they are those of something that is for all
pub record Passes (p : Test) (whole : Bool) (keys : List (List ℕ)) : Type 0 where
  pub all : whole ≡ true → (q : List ℕ) → p q ≡ true
  pub each : (q : List ℕ) → among keys q ≡ true → p q ≡ true

-- ---- a command

module _ (p : Test) (c : Command) (passes : Passes p (is_whole c) (keys_of c)) where
  at_whole : (m : Map) → is_whole c ≡ true → effect_of c m ≡ case_of c m
  at_whole m h = ap (λ b. cond b (case_of c m) (one (keys_of c) (case_of c) m)) h

  at_part : (m : Map) → is_whole c ≡ false → effect_of c m ≡ one (keys_of c) (case_of c) m
  at_part m h = ap (λ b. cond b (case_of c m) (one (keys_of c) (case_of c) m)) h

  all_of : (m u : Map) → Agree p m u → is_whole c ≡ true → u ≡ m
  all_of m u agree whole = same u m (λ q. agree q (passes.all whole q))

  there : (m u : Map) (q : List ℕ) → Agree p m u → (b : Bool) → (b ≡ true → among (keys_of c) q ≡ true)
      → cond b (get u q) None ≡ cond b (get m q) None
  there m u q agree true h = agree q (passes.each q (h refl))
  there m u q agree false h = refl

  own_part : (m u : Map) → Agree p m u → restrict u (keys_of c) ≡ restrict m (keys_of c)
  own_part m u agree = same (restrict u (keys_of c)) (restrict m (keys_of c)) (λ q.
      get-restrict u (keys_of c) q ∙ there m u q agree (among (keys_of c) q) (λ h. h) ∙ sym (get-restrict m (keys_of c) q))

  get-part : (n : Map) (q : List ℕ) → is_whole c ≡ false
      → get (effect_of c n).0 q ≡ cond (among (keys_of c) q) (get (case_of c (restrict n (keys_of c))).0 q) (get n q)
  get-part n q part = ap (λ r. get r.0 q) (at_part n part)
      ∙ get-put_back n (keys_of c) (case_of c (restrict n (keys_of c))).0 q

  command_answers : (m u : Map) → Agree p m u → (effect_of c u).1 ≡ (effect_of c m).1
  command_answers m u agree = elim (is_whole c) as (λ b. is_whole c ≡ b → (effect_of c u).1 ≡ (effect_of c m).1) [
    | true ↦ λ whole. ap (λ n. (effect_of c n).1) (all_of m u agree whole)
    | false ↦ λ part. ap (λ r. r.1) (at_part u part) ∙ ap (λ n. (case_of c n).1) (own_part m u agree)
        ∙ sym (ap (λ r. r.1) (at_part m part))
  ] refl

  command_leaves : (m u : Map) → Agree p m u → Agree p (effect_of c m).0 (effect_of c u).0
  command_leaves m u agree q here = elim (is_whole c)
      as (λ b. is_whole c ≡ b → get (effect_of c u).0 q ≡ get (effect_of c m).0 q) [
        | true ↦ λ whole. ap (λ n. get (effect_of c n).0 q) (all_of m u agree whole)
        | false ↦ λ part.
            get-part u q part
            ∙ ap (λ n. cond (among (keys_of c) q) (get (case_of c n).0 q) (get u q)) (own_part m u agree)
            ∙ ap (cond (among (keys_of c) q) (get (case_of c (restrict m (keys_of c))).0 q)) (agree q here)
            ∙ sym (get-part m q part)
      ] refl

  no_key : (q : List ℕ) → p q ≡ false → among (keys_of c) q ≡ false
  no_key q away = elim (among (keys_of c) q) as (λ b. among (keys_of c) q ≡ b → b ≡ false) [
    | true ↦ λ e. absurd (both_ways _ away (passes.each q e))
    | false ↦ λ _. refl
  ] refl

  command_others : (m : Map) (q : List ℕ) → p q ≡ false → get (effect_of c m).0 q ≡ get m q
  command_others m q away = elim (is_whole c) as (λ b. is_whole c ≡ b → get (effect_of c m).0 q ≡ get m q) [
    | true ↦ λ whole. absurd (both_ways _ away (passes.all whole q))
    | false ↦ λ part. get-part m q part
        ∙ ap (λ b. cond b (get (case_of c (restrict m (keys_of c))).0 q) (get m q)) (no_key q away)
  ] refl

  within-command : IsWithin p (effect_of c)
  within-command = record { answers = command_answers; leaves = command_leaves; others = command_others }

-- ---- members

-- what changes nothing
within-kept : {R : Type 0} (p : Test) (reply : R) → IsWithin p (λ m. (m, reply))
within-kept p reply = record {
  answers = λ m u agree. refl;
  leaves = λ m u agree. agree;
  others = λ m q away. refl;
}

within-member : (p : Test) (starved : Bool) (member : Member) → Passes p (member_whole member) (member_keys member)
    → IsWithin p (member_effect starved member)
within-member p true member passes = within-kept p _
within-member p false (Runs c) passes = within-command p c passes
within-member p false (Refused misread) passes = within-kept p _

or_left : (a b : Bool) → a ≡ true → (a || b) ≡ true
or_left true b h = refl
or_left false b h = absurd (let f = h in cc)

or_right : (a b : Bool) → b ≡ true → (a || b) ≡ true
or_right true b h = refl
or_right false b h = h

-- what is passed of several members is passed of the first, and of the others
passes-first : (p : Test) (member : Member) (members : List Member)
    → Passes p (list_any member_whole (member ∷ members)) (flat_map member_keys (member ∷ members))
    → Passes p (member_whole member) (member_keys member)
passes-first p member members passes = record {
  all = λ whole. passes.all (or_left (member_whole member) (list_any member_whole members) whole);
  each = λ q here. passes.each q (list_any-append (bytes_eq q) (member_keys member) (flat_map member_keys members)
      ∙ or_left (among (member_keys member) q) (among (flat_map member_keys members) q) here);
}

passes-others : (p : Test) (member : Member) (members : List Member)
    → Passes p (list_any member_whole (member ∷ members)) (flat_map member_keys (member ∷ members))
    → Passes p (list_any member_whole members) (flat_map member_keys members)
passes-others p member members passes = record {
  all = λ whole. passes.all (or_right (member_whole member) (list_any member_whole members) whole);
  each = λ q here. passes.each q (list_any-append (bytes_eq q) (member_keys member) (flat_map member_keys members)
      ∙ or_right (among (member_keys member) q) (among (flat_map member_keys members) q) here);
}

within-members : (p : Test) (starved : List ℕ) (n : ℕ) (members : List Member)
    → Passes p (list_any member_whole members) (flat_map member_keys members) → IsWithin p (members_from starved n members)
within-members p starved n [] passes = within-kept p []
within-members p starved n (member ∷ members) passes =
    let first = within-member p (has starved n) member (passes-first p member members passes) in
    let rest = within-members p starved (suc n) members (passes-others p member members passes) in
    let after : Map → Map = λ m. (member_effect (has starved n) member m).0 in record {
      answers = λ m u agree.
          ap (λ reply. reply ∷ (members_from starved (suc n) members (after u)).1) (first.answers m u agree)
          ∙ ap (λ replies. (member_effect (has starved n) member m).1 ∷ replies)
          (rest.answers (after m) (after u) (first.leaves m u agree));
      leaves = λ m u agree. rest.leaves (after m) (after u) (first.leaves m u agree);
      others = λ m q away. rest.others (after m) q away ∙ first.others m q away;
    }

-- ---- a batch

pub within-batch : (p : Test) (starved : List ℕ) (batch : Batch) → Passes p (batch_whole batch) (batch_keys batch)
    → IsWithin p (batch_effect starved batch)
within-batch p starved (Plain c) passes = within-command p c passes
within-batch p starved (Exec members) passes =
    let all = within-members p starved 1 members passes in record {
      answers = λ m u agree. ap (λ replies. Several (contents replies)) (all.answers m u agree);
      leaves = all.leaves;
      others = all.others;
    }

-- ---- two steps that rest on other keys

module _ {R S : Type 0} (p r : Test) (a : Map → Map × R) (b : Map → Map × S) (first : IsWithin p a) (second : IsWithin r b)
    (apart : (q : List ℕ) → p q ≡ true → r q ≡ false) where
  not_first : (q : List ℕ) → r q ≡ true → p q ≡ false
  not_first q there = elim (p q) as (λ c. p q ≡ c → c ≡ false) [
    | true ↦ λ here. absurd (both_ways _ (apart q here) there)
    | false ↦ λ _. refl
  ] refl

  -- the second one answers the same whether the first has run before it or not
  pub apart_answer : (m : Map) → (b (a m).0).1 ≡ (b m).1
  apart_answer m = second.answers m (a m).0 (λ q there. first.others m q (not_first q there))

  here : (m : Map) (q : List ℕ) → p q ≡ true → get (b (a m).0).0 q ≡ get (a (b m).0).0 q
  here m q h = second.others (a m).0 q (apart q h)
      ∙ sym (first.leaves m (b m).0 (λ k there. second.others m k (apart k there)) q h)

  away : (m : Map) (q : List ℕ) → p q ≡ false → get (b (a m).0).0 q ≡ get (a (b m).0).0 q
  away m q h = elim (r q) as (λ c. r q ≡ c → get (b (a m).0).0 q ≡ get (a (b m).0).0 q) [
    | true ↦ λ there. second.leaves m (a m).0 (λ k at. first.others m k (not_first k at)) q there
        ∙ sym (first.others (b m).0 q h)
    | false ↦ λ none. second.others (a m).0 q none ∙ first.others m q h ∙ sym (second.others m q none)
        ∙ sym (first.others (b m).0 q h)
  ] refl

  -- and both leave the same map in either order
  pub apart_leave : (m : Map) → (b (a m).0).0 ≡ (a (b m).0).0
  apart_leave m = same _ _ (λ q. elim (p q) as (λ c. p q ≡ c → get (b (a m).0).0 q ≡ get (a (b m).0).0 q) [
    | true ↦ here m q
    | false ↦ away m q
  ] refl)
