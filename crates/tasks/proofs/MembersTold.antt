-- What a reply tells of an EXEC: the members whose place says that there was no memory are those that starved.
use Rattle.std.proofs.Common.{◌≡◌, ℕ, zero, suc, ◌+◌, ◌<◌, ◌≤◌, Bool, true, false, cond, List, [], ◌∷◌, nat_eq, length, arith}
use Rattle.std.proofs.Common.{ap, refl, subst, sym, ◌∙◌, inl, inr, ◌⊎◌, ⊎_elim}
use Rattle.std.proofs.lemmas.Bool.{ne_eqb, eq-eqb, both_ways, cases_lt}
use Rattle.tasks.proofs.Turns.{pair}
use Rattle.keyspace.specs.Map.{Map}
use Rattle.resp.specs.Content.{Content, Contents, SimpleText, ErrorLine, Number, BulkText, Nothing, Several, NoMore, Then, contents}
use Rattle.sessions.specs.declared.batch.Batch.{Batch}
use Rattle.sessions.specs.declared.batch.Batch.TheVariants.{Plain, Exec}
use Rattle.sessions.specs.declared.member.Member.{Member}
use Rattle.tasks.proofs.NoWantOfCommands.{no_want-member}
use Rattle.tasks.specs.Batch.{RunsFrom, StarvesFrom, members_from, batch_effect}
use Rattle.tasks.specs.Member.{member_effect, Fares}
use Rattle.tasks.specs.Starved.{has, is_want, wants_from, starved_in}

-- ---- the numbers that a reply tells

-- whether the first place says so, and the other places
abbrev first_wants : Contents → Bool
first_wants NoMore = false
first_wants (Then reply replies) = is_want reply

abbrev behind_first : Contents → Contents
behind_first NoMore = NoMore
behind_first (Then reply replies) = replies

none_wanted : (count n : ℕ) → wants_from count n NoMore ≡ []
none_wanted zero n = refl
none_wanted (suc count) n = refl

wants_step : (count n : ℕ) (replies : Contents) → wants_from (suc count) n replies
    ≡ cond (first_wants replies) (n ∷ wants_from count (suc n) (behind_first replies)) (wants_from count (suc n) (behind_first replies))
wants_step count n NoMore = sym (none_wanted count (suc n))
wants_step count n (Then reply replies) = refl

told_before : (count n k : ℕ) (replies : Contents) → k < n → has (wants_from count n replies) k ≡ false
told_before zero n k replies before = refl
told_before (suc count) n k replies before =
    let rest = told_before count (suc n) k (behind_first replies) (omega (arith, before)) in
    let other : nat_eq n k ≡ false = ne_eqb n k (λ same. omega (arith, same, before)) in
    ap (λ ns. has ns k) (wants_step count n replies)
    ∙ elim (first_wants replies) as (λ b. has (cond b (n ∷ wants_from count (suc n) (behind_first replies))
    (wants_from count (suc n) (behind_first replies))) k ≡ false) [
      | true ↦ rw other rest
      | false ↦ rest
    ]

told_behind : (count n k : ℕ) (replies : Contents) → n < k
    → has (wants_from (suc count) n replies) k ≡ has (wants_from count (suc n) (behind_first replies)) k
told_behind count n k replies behind =
    let other : nat_eq n k ≡ false = ne_eqb n k (λ same. omega (arith, same, behind)) in
    ap (λ ns. has ns k) (wants_step count n replies)
    ∙ elim (first_wants replies) as (λ b. has (cond b (n ∷ wants_from count (suc n) (behind_first replies))
    (wants_from count (suc n) (behind_first replies))) k ≡ has (wants_from count (suc n) (behind_first replies)) k) [
      | true ↦ rw other refl
      | false ↦ refl
    ]

told_here : (count n : ℕ) (replies : Contents) → has (wants_from (suc count) n replies) n ≡ first_wants replies
told_here count n replies =
    ap (λ ns. has ns n) (wants_step count n replies)
    ∙ elim (first_wants replies) as (λ b. has (cond b (n ∷ wants_from count (suc n) (behind_first replies))
    (wants_from count (suc n) (behind_first replies))) n ≡ b) [
      | true ↦ rw (eq-eqb n n refl) refl
      | false ↦ told_before count (suc n) n (behind_first replies) (omega arith)
    ]

-- two lists of numbers have the same ones among so many from n on
abbrev pub SameAmong : (count n : ℕ) → List ℕ → List ℕ → Type 0
SameAmong count n these those = (k : ℕ) → n ≤ k → k < n + count → has these k ≡ has those k

-- what two arrays tell is the same list, where they tell the same numbers
same_told : (count n : ℕ) (one other : Contents) → SameAmong count n (wants_from count n one) (wants_from count n other)
    → wants_from count n one ≡ wants_from count n other
same_told zero n one other same = refl
same_told (suc count) n one other same =
    let first : first_wants one ≡ first_wants other =
    sym (told_here count n one) ∙ same n (omega arith) (omega arith) ∙ told_here count n other in
    let rest = same_told count (suc n) (behind_first one) (behind_first other) (λ k low high.
    sym (told_behind count n k one (omega (arith, low))) ∙ same k (omega (arith, low)) (omega (arith, high))
    ∙ told_behind count n k other (omega (arith, low))) in
    wants_step count n one
    ∙ ap (λ b. cond b (n ∷ wants_from count (suc n) (behind_first one)) (wants_from count (suc n) (behind_first one))) first
    ∙ ap (λ ns. cond (first_wants other) (n ∷ ns) ns) rest
    ∙ sym (wants_step count n other)

-- these numbers are, from n on, those that the replies tell
abbrev pub Tells : List ℕ → ℕ → List Content → Type 0
Tells starved n replies = (k : ℕ) → n ≤ k → has starved k ≡ has (wants_from (length replies) n (contents replies)) k

tells_here : (starved : List ℕ) (n : ℕ) (reply : Content) (replies : List Content) → Tells starved n (reply ∷ replies)
    → has starved n ≡ is_want reply
tells_here starved n reply replies tells = tells n (omega arith) ∙ told_here (length replies) n (contents (reply ∷ replies))

tells_behind : (starved : List ℕ) (n : ℕ) (reply : Content) (replies : List Content) → Tells starved n (reply ∷ replies)
    → Tells starved (suc n) replies
tells_behind starved n reply replies tells k behind =
    tells k (omega (arith, behind)) ∙ told_behind (length replies) n k (contents (reply ∷ replies)) (omega (arith, behind))

-- ---- what a member did

module _ (takes : Member → Map → Type 0) where
  fares_as_told : (skipped : Bool) (member : Member) (old new : Map) (reply : Content) → Fares takes skipped member old new reply
      → (new, reply) ≡ member_effect (is_want reply) member old
  fares_as_told skipped member old new reply (inl run) =
      subst (λ b. (new, reply) ≡ member_effect b member old) (sym (ap (λ v. is_want v.1) run.1 ∙ no_want-member member old)) run.1
  fares_as_told skipped member old new reply (inr starved) =
      subst (λ b. (new, reply) ≡ member_effect b member old) (sym (ap (λ v. is_want v.1) starved.0)) starved.0

  fares_here : (starved : List ℕ) (n : ℕ) (skipped : Bool) (member : Member) (old new : Map) (reply : Content)
      → has starved n ≡ is_want reply → Fares takes skipped member old new reply
      → (new, reply) ≡ member_effect (has starved n) member old
  fares_here starved n skipped member old new reply here fares =
      subst (λ b. (new, reply) ≡ member_effect b member old) (sym here) (fares_as_told skipped member old new reply fares)

  -- ---- all members

  pub members-told : (skip starved : List ℕ) (n : ℕ) (old new : Map) (members : List Member) (replies : List Content)
      → RunsFrom takes skip n old members replies new → Tells starved n replies → (new, replies) ≡ members_from starved n members old
  members-told skip starved n old new [] [] run tells = pair _ _ _ _ run refl
  members-told skip starved n old new [] (r ∷ replies) run tells = absurd run
  members-told skip starved n old new (member ∷ members) [] run tells = absurd run
  members-told skip starved n old new (member ∷ members) (reply ∷ replies) run tells =
      let here = fares_here starved n (has skip n) member old run.0 reply (tells_here starved n reply replies tells) run.1 in
      let rest = members-told skip starved (suc n) run.0 new members replies run.2 (tells_behind starved n reply replies tells) in
      let left : run.0 ≡ (member_effect (has starved n) member old).0 = ap (λ v. v.0) here in
      pair _ _ _ _ (ap (λ v. v.0) rest ∙ ap (λ m. (members_from starved (suc n) members m).0) left)
      (ap (λ c. c ∷ replies) (ap (λ v. v.1) here)
      ∙ ap (λ l. (member_effect (has starved n) member old).1 ∷ l)
      (ap (λ v. v.1) rest ∙ ap (λ m. (members_from starved (suc n) members m).1) left))

  skipped_starves : (skipped told : Bool) (member : Member) (old new : Map) (reply : Content) → told ≡ is_want reply
      → Fares takes skipped member old new reply → skipped ≡ true → told ≡ true
  skipped_starves skipped told member old new reply here (inl run) so = absurd (both_ways skipped run.0 so)
  skipped_starves skipped told member old new reply here (inr starved) so = here ∙ ap (λ v. is_want v.1) starved.0

  starved_wants : (skipped told : Bool) (member : Member) (old new : Map) (reply : Content) → told ≡ is_want reply
      → Fares takes skipped member old new reply → told ≡ true → (skipped ≡ true) ⊎ takes member old
  starved_wants skipped told member old new reply here (inl run) so =
      absurd (both_ways told (here ∙ ap (λ v. is_want v.1) run.1 ∙ no_want-member member old) so)
  starved_wants skipped told member old new reply here (inr starved) so = starved.1

  pub starves-told : (skip starved : List ℕ) (n : ℕ) (old new : Map) (members : List Member) (replies : List Content)
      → RunsFrom takes skip n old members replies new → Tells starved n replies → StarvesFrom takes skip starved n members old
  starves-told skip starved n old new [] [] run tells = tt
  starves-told skip starved n old new [] (r ∷ replies) run tells = absurd run
  starves-told skip starved n old new (member ∷ members) [] run tells = absurd run
  starves-told skip starved n old new (member ∷ members) (reply ∷ replies) run tells =
      let told = tells_here starved n reply replies tells in
      let here = fares_here starved n (has skip n) member old run.0 reply told run.1 in
      let rest = starves-told skip starved (suc n) run.0 new members replies run.2 (tells_behind starved n reply replies tells) in (
        skipped_starves (has skip n) (has starved n) member old run.0 reply told run.1,
        starved_wants (has skip n) (has starved n) member old run.0 reply told run.1,
        subst (StarvesFrom takes skip starved (suc n) members) (ap (λ v. v.0) here) rest,
      )

  -- there is a reply for each
  pub as_many : (skip : List ℕ) (n : ℕ) (old new : Map) (members : List Member) (replies : List Content)
      → RunsFrom takes skip n old members replies new → length replies ≡ length members
  as_many skip n old new [] [] run = refl
  as_many skip n old new [] (r ∷ replies) run = absurd run
  as_many skip n old new (member ∷ members) [] run = absurd run
  as_many skip n old new (member ∷ members) (reply ∷ replies) run = ap suc (as_many skip (suc n) run.0 new members replies run.2)

  -- a whole EXEC
  pub tells-all : (skip : List ℕ) (old new : Map) (members : List Member) (replies : List Content)
      → RunsFrom takes skip 1 old members replies new → Tells (wants_from (length members) 1 (contents replies)) 1 replies
  tells-all skip old new members replies run =
      subst (λ count. Tells (wants_from count 1 (contents replies)) 1 replies) (as_many skip 1 old new members replies run) (λ k within. refl)

-- ---- what is told of members that starved

member_wants : (starved : Bool) (member : Member) (m : Map) → is_want (member_effect starved member m).1 ≡ starved
member_wants true member m = refl
member_wants false member m = no_want-member member m

-- the replies tell the numbers by which the members starved
members_tell : (starved : List ℕ) (n : ℕ) (members : List Member) (m : Map)
    → SameAmong (length members) n (wants_from (length members) n (contents (members_from starved n members m).1)) starved
members_tell starved n [] m k low high = absurd (omega (arith, low, high))
members_tell starved n (member ∷ members) m k low high =
    let replies = contents (members_from starved n (member ∷ members) m).1 in
    let after = (member_effect (has starved n) member m).0 in
    ⊎_elim
    (λ first. let same : k ≡ n = omega (arith, low, first) in
    subst (λ j. has (wants_from (suc (length members)) n replies) j ≡ has starved j) (sym same)
    (told_here (length members) n replies ∙ member_wants (has starved n) member m))
    (λ later. told_behind (length members) n k replies (omega (arith, later))
    ∙ members_tell starved (suc n) members after k (omega (arith, later)) (omega (arith, high)))
    (cases_lt k (suc n))

-- what members do rests on which of their own numbers starved
members_same : (these those : List ℕ) (n : ℕ) (members : List Member) (m : Map) → SameAmong (length members) n these those
    → members_from these n members m ≡ members_from those n members m
members_same these those n [] m same = refl
members_same these those n (member ∷ members) m same =
    let first : has these n ≡ has those n = same n (omega arith) (omega arith) in
    let after = (member_effect (has those n) member m).0 in
    let rest = members_same these those (suc n) members after (λ k low high. same k (omega (arith, low)) (omega (arith, high))) in
    ap (λ b. (
      (members_from these (suc n) members (member_effect b member m).0).0,
      (member_effect b member m).1 ∷ (members_from these (suc n) members (member_effect b member m).0).1,
    )) first
    ∙ ap (λ v. (v.0, (member_effect (has those n) member m).1 ∷ v.1)) rest

-- the reply to a batch tells which of its members starved: what it did is what those do that it tells
pub told-again : (batch : Batch) (starved : List ℕ) (m : Map)
    → batch_effect (starved_in batch (batch_effect starved batch m).1) batch m ≡ batch_effect starved batch m
told-again (Plain command) starved m = refl
told-again (Exec members) starved m =
    ap (λ v. (v.0, Several (contents v.1)))
    (members_same (wants_from (length members) 1 (contents (members_from starved 1 members m).1)) starved 1 members m
    (members_tell starved 1 members m))

-- so a reply that tells of members tells of the same where these are left out
again : (members : List Member) (told : Contents) (m : Map)
    → wants_from (length members) 1 (contents (members_from (wants_from (length members) 1 told) 1 members m).1)
    ≡ wants_from (length members) 1 told
again members told m =
    same_told (length members) 1 (contents (members_from (wants_from (length members) 1 told) 1 members m).1) told
    (members_tell (wants_from (length members) 1 told) 1 members m)

none_again : (members : List Member) (m : Map) → wants_from (length members) 1 (contents (members_from [] 1 members m).1) ≡ []
none_again members m =
    ap (λ ns. wants_from (length members) 1 (contents (members_from ns 1 members m).1)) (sym (none_wanted (length members) 1))
    ∙ again members NoMore m ∙ none_wanted (length members) 1

pub starved-again : (batch : Batch) (told : Content) (m : Map)
    → starved_in batch (batch_effect (starved_in batch told) batch m).1 ≡ starved_in batch told
starved-again (Plain command) told m = refl
starved-again (Exec members) (SimpleText line) m = none_again members m
starved-again (Exec members) (ErrorLine line) m = none_again members m
starved-again (Exec members) (Number n) m = none_again members m
starved-again (Exec members) (BulkText bytes) m = none_again members m
starved-again (Exec members) Nothing m = none_again members m
starved-again (Exec members) (Several told) m = again members told m
