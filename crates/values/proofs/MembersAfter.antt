-- The members above one of an ascending list, and the least of them.
use Rattle.std.proofs.Common.{◌≡◌, Bool, true, false, cond, ◌&&◌, List, [], ◌∷◌, length, take, get_or}
use Rattle.std.proofs.Common.{Option, Some, None, refl, sym, ap, subst, ◌∙◌, arith}
use Rattle.std.proofs.lemmas.Bool.{true≢false}
use Rattle.std.proofs.lemmas.Cmp.{nat_list_cmp_total, nat_list_eq_equiv}
use Rattle.std.proofs.lemmas.Map.Text.{is_eq-slice_cmp}
use Rattle.std.proofs.lemmas.Slice.Eq.{bytes_eq-Decides}
use Rattle.std.specs.Borrow.{Bor}
use Rattle.std.specs.Cmp.Lexicographic.{slice_cmp, slice_partial_cmp}
use Rattle.std.specs.List.{AllByRecursion, filter}
use Rattle.std.specs.List.Sorted.{IsStrictlySortedBy}
use Rattle.std.specs.Option.{MatchOption}
use Rattle.std.specs.Ordering.{match_ordering, ordering_reverse, ordering_then, partial_ordering_then, nat_cmp, is_eq, is_lt, is_some_and}
use Rattle.std.specs.declared.cmp.Ordering.{Ordering}
use Rattle.std.specs.declared.cmp.Ordering.TheVariants.{Less, Equal, Greater}
use Rattle.texts.specs.Texts.{Bytes}
use Rattle.values.proofs.MembersAlike.{below-first}
use Rattle.values.proofs.MembersSeen.{with_members-ascending}
use Rattle.values.specs.Items.{lent}
use Rattle.values.specs.SetValue.{IsAscending, is_above, is_below, members_after, with_member}

-- `<` of slices is that of their bytes
pub slice-lt : (xs ys : Bytes) → is_some_and is_lt (slice_partial_cmp (λ x y. Some (nat_cmp x y)) xs ys) ≡ is_lt (slice_cmp nat_cmp xs ys)
slice-lt xs ys = ap (is_some_and is_lt) (total xs ys)
  where
    then : (o p : Ordering) → partial_ordering_then (Some o) (Some p) ≡ Some (ordering_then o p)
    then Less p = refl
    then Equal p = refl
    then Greater p = refl

    total : (xs ys : Bytes) → slice_partial_cmp (λ x y. Some (nat_cmp x y)) xs ys ≡ Some (slice_cmp nat_cmp xs ys)
    total [] [] = refl
    total [] (y ∷ ys) = refl
    total (x ∷ xs) [] = refl
    total (x ∷ xs) (y ∷ ys) = ap (partial_ordering_then (Some (nat_cmp x y))) (total xs ys) ∙ then (nat_cmp x y) (slice_cmp nat_cmp xs ys)

-- whether the string is below the first of these, if there are any
abbrev is_before : List Bytes → Bytes → Bool
is_before [] q = true
is_before (x ∷ xs) q = is_lt (slice_cmp nat_cmp q x)

-- a string below all is below the first that passes
before-passed : (test : Bytes → Bool) (q : Bytes) (xs : List Bytes) → AllByRecursion (λ z. slice_cmp nat_cmp q z ≡ Less) xs
    → is_before (filter test xs) q ≡ true
before-passed test q [] below = refl
before-passed test q (x ∷ xs) below = by (test x) (before-passed test q xs below.1)
  where
    by : (b : Bool) → is_before (filter test xs) q ≡ true → is_before (cond b (x ∷ filter test xs) (filter test xs)) q ≡ true
    by true rest = ap is_lt below.0
    by false rest = rest

-- the first that passes, with one more at its place
first-with : (test : Bytes → Bool) (ms : List Bytes) (q : Bytes) → IsAscending ms
    → take 1 (filter test (with_member ms q)) ≡ cond (test q && is_before (filter test ms) q) (q ∷ []) (take 1 (filter test ms))
unfolding IsStrictlySortedBy
first-with test [] q up = by (test q)
  where
    by : (b : Bool) → take 1 (cond b (q ∷ []) []) ≡ cond (b && true) (q ∷ []) []
    by true = refl
    by false = refl
first-with test (x ∷ xs) q up = placed (slice_cmp nat_cmp q x) refl (first-with test xs q up.1)
  where
    passed : List Bytes
    passed = filter test (x ∷ xs)

    less : (b c : Bool) → c ≡ true → take 1 (cond b (q ∷ passed) passed) ≡ cond (b && c) (q ∷ []) (take 1 passed)
    less true true e = refl
    less true false e = absurd (true≢false (sym e))
    less false c e = refl

    behind : (a b : Bool) (o : Ordering) → slice_cmp nat_cmp q x ≡ o → is_lt o ≡ false → (b ≡ false → a ≡ false)
        → take 1 (cond b (x ∷ filter test xs) (filter test xs))
        ≡ cond (a && is_before (cond b (x ∷ filter test xs) (filter test xs)) q)
        (q ∷ []) (take 1 (cond b (x ∷ filter test xs) (filter test xs)))
    behind true true o e above same = sym (ap (λ t. cond t (q ∷ []) (x ∷ [])) (ap is_lt e ∙ above))
    behind true false o e above same = absurd (true≢false (same refl))
    behind false b o e above same = refl

    further : (b : Bool) → slice_cmp nat_cmp q x ≡ Greater
        → take 1 (filter test (with_member xs q)) ≡ cond (test q && is_before (filter test xs) q) (q ∷ []) (take 1 (filter test xs))
        → take 1 (cond b (x ∷ filter test (with_member xs q)) (filter test (with_member xs q)))
        ≡ cond (test q && is_before (cond b (x ∷ filter test xs) (filter test xs)) q)
        (q ∷ []) (take 1 (cond b (x ∷ filter test xs) (filter test xs)))
    further true e rest = sym (ap (λ t. cond (test q && t) (q ∷ []) (x ∷ [])) (ap is_lt e) ∙ never (test q))
      where
        never : (a : Bool) → cond (a && false) (q ∷ []) (x ∷ []) ≡ x ∷ []
        never true = refl
        never false = refl
    further false e rest = rest

    placed : (o : Ordering) → slice_cmp nat_cmp q x ≡ o
        → take 1 (filter test (with_member xs q)) ≡ cond (test q && is_before (filter test xs) q) (q ∷ []) (take 1 (filter test xs))
        → take 1 (filter test (match_ordering o (q ∷ x ∷ xs) (x ∷ xs) (x ∷ with_member xs q)))
        ≡ cond (test q && is_before passed q) (q ∷ []) (take 1 passed)
    placed Less e rest =
        less (test q) (is_before passed q) (before-passed test q (x ∷ xs) (e, below-first q x xs e up.0))
    placed Equal e rest =
        let same : q ≡ x = (bytes_eq-Decides q x).0 (sym (is_eq-slice_cmp q x) ∙ ap is_eq e) in
        behind (test q) (test x) Equal e refl (λ not. ap test same ∙ not)
    placed Greater e rest = further (test x) e rest

before-lent : (least : Option (Bor Bytes)) (xs : List Bytes) (q : Bytes) → lent least ≡ take 1 xs → is_before xs q ≡ is_below least q
before-lent least xs q e = first xs ∙ ap (λ l. is_before l q) (sym e) ∙ of least
  where
    first : (xs : List Bytes) → is_before xs q ≡ is_before (take 1 xs) q
    first [] = refl
    first (x ∷ xs) = refl

    of : (least : Option (Bor Bytes)) → is_before (lent least) q ≡ is_below least q
    of None = refl
    of (Some least) = refl

-- the least member so far, and one more
pub least-with : (after least : Option (Bor Bytes)) (ms : List Bytes) (q : Bytes) → IsAscending ms
    → lent least ≡ take 1 (members_after after ms)
    → cond (is_above after q && is_below least q) (q ∷ []) (lent least) ≡ take 1 (members_after after (with_member ms q))
least-with after least ms q up e =
    ap (λ l. cond (is_above after q && is_below least q) (q ∷ []) l) e
    ∙ ap (λ b. cond (is_above after q && b) (q ∷ []) (take 1 (members_after after ms)))
    (sym (before-lent least (members_after after ms) q e))
    ∙ sym (first-with (is_above after) ms q up)

-- what an `if` of two conditions gives
pub both-true : {A : Type 0} (x y : A) (a b : Bool) → a ≡ true → b ≡ true → cond (a && b) x y ≡ x
both-true x y a b first second = ap (λ a. cond (a && b) x y) first ∙ ap (λ b. cond b x y) second

pub first-false : {A : Type 0} (x y : A) (a b : Bool) → a ≡ false → cond (a && b) x y ≡ y
first-false x y a b first = ap (λ a. cond (a && b) x y) first

pub second-false : {A : Type 0} (x y : A) (a b : Bool) → a ≡ true → b ≡ false → cond (a && b) x y ≡ y
second-false x y a b first second = ap (λ a. cond (a && b) x y) first ∙ ap (λ b. cond b x y) second

-- where each passes, all are left
all-passed : (test : Bytes → Bool) (xs : List Bytes) → AllByRecursion (λ z. test z ≡ true) xs → filter test xs ≡ xs
all-passed test [] h = refl
all-passed test (x ∷ xs) h =
    ap (λ b. cond b (x ∷ filter test xs) (filter test xs)) h.0 ∙ ap (λ l. x ∷ l) (all-passed test xs h.1)

all-turned : (P Q : Bytes → Type 0) (xs : List Bytes) → ((x : Bytes) → P x → Q x) → AllByRecursion P xs → AllByRecursion Q xs
all-turned P Q [] f h = tt
all-turned P Q (x ∷ xs) f h = (f x h.0, all-turned P Q xs f h.1)

all-filtered : (P : Bytes → Type 0) (test : Bytes → Bool) (xs : List Bytes) → AllByRecursion P xs → AllByRecursion P (filter test xs)
all-filtered P test [] h = tt
all-filtered P test (x ∷ xs) h = by (test x) (all-filtered P test xs h.1)
  where
    by : (b : Bool) → AllByRecursion P (filter test xs) → AllByRecursion P (cond b (x ∷ filter test xs) (filter test xs))
    by true rest = (h.0, rest)
    by false rest = rest

not-below-itself : (x : Bytes) → is_lt (slice_cmp nat_cmp x x) ≡ false
not-below-itself x = by (slice_cmp nat_cmp x x) (is_eq-slice_cmp x x ∙ nat_list_eq_equiv.refl x)
  where
    by : (o : Ordering) → is_eq o ≡ true → is_lt o ≡ false
    by Less e = absurd (true≢false (sym e))
    by Equal e = refl
    by Greater e = absurd (true≢false (sym e))

-- behind the first that passes come those above it, where what is above one that passes does too
rest-above : (test : Bytes → Bool) (ms : List Bytes) (m : Bytes) → IsAscending ms
    → ((y z : Bytes) → test y ≡ true → slice_cmp nat_cmp y z ≡ Less → test z ≡ true)
    → m ∷ [] ≡ take 1 (filter test ms) → filter test ms ≡ m ∷ filter (λ z. is_lt (slice_cmp nat_cmp m z)) ms
unfolding IsStrictlySortedBy
rest-above test [] m up closed e = absurd (omega (arith, ap length e))
rest-above test (y ∷ ys) m up closed e = by (test y) refl (λ e. rest-above test ys m up.1 closed e) e
  where
    at_first : test y ≡ true → y ∷ filter test ys ≡ y ∷ filter (λ z. is_lt (slice_cmp nat_cmp y z)) (y ∷ ys)
    at_first passes =
        ap (λ l. y ∷ l)
        (all-passed test ys (all-turned (λ z. slice_cmp nat_cmp y z ≡ Less) (λ z. test z ≡ true) ys (λ z less. closed y z passes less) up.0)
        ∙ sym
        (all-passed (λ z. is_lt (slice_cmp nat_cmp y z)) ys
        (all-turned (λ z. slice_cmp nat_cmp y z ≡ Less) (λ z. is_lt (slice_cmp nat_cmp y z) ≡ true) ys (λ z less. ap is_lt less) up.0))
        ∙ sym
        (ap (λ b. cond b (y ∷ filter (λ z. is_lt (slice_cmp nat_cmp y z)) ys) (filter (λ z. is_lt (slice_cmp nat_cmp y z)) ys))
        (not-below-itself y)))

    by : (b : Bool) → test y ≡ b
        → (m ∷ [] ≡ take 1 (filter test ys) → filter test ys ≡ m ∷ filter (λ z. is_lt (slice_cmp nat_cmp m z)) ys)
        → m ∷ [] ≡ take 1 (cond b (y ∷ filter test ys) (filter test ys))
        → cond b (y ∷ filter test ys) (filter test ys) ≡ m ∷ filter (λ z. is_lt (slice_cmp nat_cmp m z)) (y ∷ ys)
    by true passes further e =
        subst (λ m. y ∷ filter test ys ≡ m ∷ filter (λ z. is_lt (slice_cmp nat_cmp m z)) (y ∷ ys))
        (sym (ap (λ l. get_or l 0 m) e)) (at_first passes)
    by false fails further e =
        let rest = further e in
        let above =
        subst (AllByRecursion (λ z. slice_cmp nat_cmp y z ≡ Less)) rest
        (all-filtered (λ z. slice_cmp nat_cmp y z ≡ Less) test ys up.0) in
        rest
        ∙ ap (λ l. m ∷ l)
        (sym
        (ap (λ b. cond b (y ∷ filter (λ z. is_lt (slice_cmp nat_cmp m z)) ys) (filter (λ z. is_lt (slice_cmp nat_cmp m z)) ys))
        (ap is_lt (nat_list_cmp_total.antisymm m y ∙ ap ordering_reverse above.0))))

-- what is above a string that is above one is so too
above-closed : (after : Option (Bor Bytes)) (y z : Bytes) → is_above after y ≡ true → slice_cmp nat_cmp y z ≡ Less → is_above after z ≡ true
above-closed None y z e less = refl
above-closed (Some after) y z e less =
    ap is_lt (nat_list_cmp_total.trans after.now y z (by (slice_cmp nat_cmp after.now y) e) less)
  where
    by : (o : Ordering) → is_lt o ≡ true → o ≡ Less
    by Less e = refl
    by Equal e = absurd (true≢false (sym e))
    by Greater e = absurd (true≢false (sym e))

-- the least member after one, and those that are after it
pub least-and_rest : (after least : Option (Bor Bytes)) (ms : List Bytes) → IsAscending ms
    → lent least ≡ take 1 (members_after after ms)
    → MatchOption least (members_after after ms ≡ []) (λ member. members_after after ms ≡ member.now ∷ members_after (Some member) ms)
least-and_rest after None ms up e = none (members_after after ms) e
  where
    none : (xs : List Bytes) → [] ≡ take 1 xs → xs ≡ []
    none [] e = refl
    none (x ∷ xs) e = absurd (omega (arith, ap length e))
least-and_rest after (Some member) ms up e =
    rest-above (is_above after) ms member.now up (above-closed after) e

-- all members are after none
pub after-none : (ms : List Bytes) → members_after None ms ≡ ms
after-none [] = refl
after-none (m ∷ ms) = ap (λ l. m ∷ l) (after-none ms)

pub ruleset read = (with_members-ascending, after-none)
