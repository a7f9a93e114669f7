-- Which members starved: what a task does rests on that alone.
use Rattle.std.proofs.Common.{◌≡◌, ℕ, zero, suc, Bool, true, false, List, [], ◌∷◌, ◌+◌, ◌<◌, length, map, drop, get_or}
use Rattle.std.proofs.Common.{arith, inl, inr, refl, sym, ap, ◌∙◌, subst, nat_eq, eqb-true}
use Rattle.std.proofs.lemmas.Bool.{cases_Bool, or_cases}
use Rattle.std.specs.Prelude.{if◌then◌else◌}
use Rattle.tasks.specs.Batch.{StarvesFrom, members_from}
use Rattle.tasks.specs.Member.{member_effect, MemberTakesMemory}
use Rattle.tasks.specs.Starved.{has, is_want, wants_from, wants_in, starved_in}
use Rattle.keyspace.specs.Map.{Map}
use Rattle.resp.specs.Content.{Content, Contents, SimpleText, ErrorLine, Number, BulkText, Nothing, Several, NoMore, Then}
use Rattle.resp.specs.Content.{content, contents}
use Rattle.resp.specs.declared.reply.Reply.{Reply}
use Rattle.sessions.specs.declared.batch.Batch.TheVariants.{Plain, Exec}
use Rattle.sessions.specs.declared.member.Member.{Member}
use Rattle.solo.specs.Solo.{IsRunOrStarves}
use Rattle.tasks.specs.Tasks.{Task, MembersStarveRightly, deed_effect, deed_of}
use Rattle.replay.specs.Running.{AreToldBy, IsToldBy}

pub same_tests : (a b : Bool) → (a ≡ true → b ≡ true) → (b ≡ true → a ≡ true) → a ≡ b
same_tests true b ab ba = sym (ab refl)
same_tests false true ab ba = sym (sym (ba refl))
same_tests false false ab ba = refl

-- where each member starved that was to be skipped, and no other, they do what they do where those are skipped
same_members : (takes : Member → Map → Type 0) (skip starved : List ℕ) (n : ℕ) (members : List Member) (met m : Map) →
    StarvesFrom takes skip starved n members met → ((k : ℕ) → has starved k ≡ true → has skip k ≡ true) →
    members_from skip n members m ≡ members_from starved n members m
same_members takes skip starved n [] met m so named = refl
same_members takes skip starved n (member ∷ members) met m so named =
    let same : has skip n ≡ has starved n = same_tests (has skip n) (has starved n) so.0 (named n) in
    let rest = same_members takes skip starved (suc n) members (member_effect (has starved n) member met).0
    (member_effect (has skip n) member m).0 so.2 named in
    ap (λ (r : Map × List Content). (r.0, (member_effect (has skip n) member m).1 ∷ r.1)) rest
    ∙ ap (λ b. (
      (members_from starved (suc n) members (member_effect b member m).0).0,
      (member_effect b member m).1 ∷ (members_from starved (suc n) members (member_effect b member m).0).1,
    )) same

-- so of a task that met another map
pub same_deed : (task : Task) (skip : List ℕ) (met m : Map) (reply : Content) → MembersStarveRightly skip task met reply →
    ((k : ℕ) → has (starved_in task reply) k ≡ true → has skip k ≡ true) → deed_effect (task, skip) m ≡ deed_effect (deed_of task reply) m
same_deed (Plain command) skip met m reply so named = refl
same_deed (Exec members) skip met m reply so named =
    ap (λ (r : Map × List Content). (r.0, Several (contents r.1)))
    (same_members _ skip (starved_in (Exec members) reply) 1 members met m so named)

-- ---- a run on one store

-- what so many places tell to have starved has one of the numbers, where each place that says so has one
told_numbers : (numbers : List ℕ) (count n : ℕ) (replies : Contents) → AreToldBy numbers n replies → (k : ℕ) →
    has (wants_from count n replies) k ≡ true → has numbers k ≡ true
told_numbers numbers zero n replies told k starved = cc
told_numbers numbers (suc count) n NoMore told k starved = cc
told_numbers numbers (suc count) n (Then reply replies) told k starved =
    let rest = wants_from count (suc n) replies in
    elim (cases_Bool (is_want reply)) [
      | inl want ↦ elim (or_cases (nat_eq n k) (has rest k) (subst (λ b. has (if b then n ∷ rest else rest) k ≡ true) want starved)) [
        | inl this ↦ subst (λ i. has numbers i ≡ true) (eqb-true n k this) (told.0 want)
        | inr later ↦ told_numbers numbers count (suc n) replies told.1 k later
      ]
      | inr other ↦
          told_numbers numbers count (suc n) replies told.1 k (subst (λ b. has (if b then n ∷ rest else rest) k ≡ true) other starved)
    ]

told_all : (numbers : List ℕ) (count : ℕ) (reply : Content) → IsToldBy numbers reply → (k : ℕ) → has (wants_in count reply) k ≡ true →
    has numbers k ≡ true
told_all numbers count (SimpleText line) told k starved = absurd told
told_all numbers count (ErrorLine line) told k starved = absurd told
told_all numbers count (Number n) told k starved = absurd told
told_all numbers count (BulkText bytes) told k starved = absurd told
told_all numbers count Nothing told k starved = absurd told
told_all numbers count (Several replies) told k starved = told_numbers numbers count 1 replies told k starved

-- an EXEC that was run, and told to have starved those that were to be skipped and no others, did what it does where they starve
pub run_so : (skip : List ℕ) (members : List Member) (old new : Map) (reply : Content) → IsRunOrStarves skip (Exec members) old reply new →
    IsToldBy skip reply → (new, reply) ≡ deed_effect (Exec members, skip) old
run_so skip members old new reply (inl ran) told =
    ran.0
    ∙ ap (λ (r : Map × List Content). (r.0, Several (contents r.1)))
    (sym (same_members MemberTakesMemory skip (starved_in (Exec members) reply) 1 members old old ran.1
    (told_all skip (length members) reply told)))
run_so skip members old new reply (inr starved) told = absurd (subst (IsToldBy skip) starved.0 told)

-- ---- a look at a reply

at_place : {A : Type 0} (xs : List A) (i : ℕ) (x : A) → i < length xs → x ≡ get_or xs i x → drop i xs ≡ x ∷ drop (suc i) xs
at_place [] i x within there = absurd (omega (arith, within))
at_place (y ∷ ys) zero x within there = ap (λ z. z ∷ ys) (sym there)
at_place (y ∷ ys) (suc i) x within there = at_place ys i x (omega (arith, within)) there

-- what is told of the places behind this one is told of those from it on, where it is of it
pub told_more : (numbers : List ℕ) (replies : List Reply) (i : ℕ) (reply : Reply) → i < length replies → reply ≡ get_or replies i reply →
    (is_want (content reply) ≡ true → has numbers (i + 1) ≡ true) →
    AreToldBy numbers (suc (i + 1)) (contents (map content (drop (i + 1) replies))) →
    AreToldBy numbers (suc i) (contents (map content (drop i replies)))
told_more numbers replies i reply within there here behind =
    let next : i + 1 ≡ suc i = omega arith in
    subst (λ l. AreToldBy numbers (suc i) (contents (map content l))) (sym (at_place replies i reply within there)) (
      λ want. subst (λ k. has numbers k ≡ true) next (here want),
      subst (λ k. AreToldBy numbers (suc k) (contents (map content (drop k replies)))) next behind,
    )
