-- What a table of members does, seen as the ascending list of their bytes.
use Rattle.std.proofs.Common.{◌≡◌, ℕ, suc, ◌<◌, Bool, true, false, cond, ◌||◌, List, [], ◌∷◌, ◌++◌, length, map, get_or}
use Rattle.std.proofs.Common.{Option, Some, None, refl, sym, ap, subst, ◌∙◌, append_assoc, arith, ◌≤◌}
use Rattle.std.proofs.lemmas.Bool.{true≢false}
use Rattle.std.proofs.lemmas.Cmp.{nat_list_eq_equiv, nat_list_cmp_total}
use Rattle.std.proofs.lemmas.List.{append-nil, get_or_default, map-id}
use Rattle.std.proofs.lemmas.Grind.{common_steps}
use Rattle.std.proofs.lemmas.List.Folds.{list_any_none}
use Rattle.std.proofs.lemmas.List.Kept.{IsStrictlySortedBy-dedup}
use Rattle.std.proofs.lemmas.List.Quantifiers.{position-Some}
use Rattle.std.proofs.lemmas.List.Sums.{fails_before_first}
use Rattle.std.proofs.lemmas.List.Sorted.{IsPermutation-map, IsPermutation-swap_remove, IsPermutation-to_front, list_any-IsPermutation}
use Rattle.std.proofs.lemmas.Map.Keys.{IsDistinct-IsPermutation}
use Rattle.std.proofs.lemmas.Map.Text.{is_eq-slice_cmp}
use Rattle.std.proofs.lemmas.Slice.Eq.{bytes_eq-Decides}
use Rattle.std.specs.Cmp.{on_total}
use Rattle.std.specs.Cmp.Lexicographic.{slice_cmp}
use Rattle.std.specs.List.{AllByRecursion, IsDistinct, dedup, dedup_from, list_any, position, position_or_len, swap_remove}
use Rattle.std.specs.List.Sorted.{IsPermutation, IsSorted, IsStrictlySortedBy}
use Rattle.std.specs.Ordering.{match_ordering, ordering_reverse, nat_cmp, is_eq}
use Rattle.std.specs.declared.cmp.Ordering.{Ordering}
use Rattle.std.specs.declared.cmp.Ordering.TheVariants.{Less, Equal, Greater}
use Rattle.std.specs.Option.{option_map_or}
use Rattle.std.specs.Str.{bytes_eq}
use Rattle.indexmap.proofs.MapLemmas.{swap_remove-default}
use Rattle.indexmap.specs.IndexSet.{insert_key, swap_remove_by}
use Rattle.texts.specs.Texts.{Bytes}
use Rattle.values.proofs.MembersAlike.{strictly-mapped, all-alike, ascending-all, member-of_all, with-there}
use Rattle.values.specs.ListValue.{nonempty}
use Rattle.values.specs.SetValue.{IsAscending, is_member, members_seen, with_member, without_member, with_members}

pub member-seen : (q : Bytes) (keys : List Bytes) → list_any (bytes_eq q) keys ≡ is_member (members_seen keys) q
member-seen q keys = sym (member-of_all keys q)

pub seen-ascends : (keys : List Bytes) → IsAscending (members_seen keys)
seen-ascends keys = ascending-all keys

-- of two that are not both false
neither : (a b : Bool) → (a || b) ≡ false → (a ≡ false) × (b ≡ false)
neither true b e = absurd (true≢false e)
neither false b e = (refl, e)

bytes_eq-flips : (x y : Bytes) → bytes_eq x y ≡ bytes_eq y x
bytes_eq-flips x y = nat_list_eq_equiv.symm x y

-- a member that wasn't there goes as it came
without-at : (q x : Bytes) (o : Ordering) (xs : List Bytes) → slice_cmp nat_cmp q x ≡ o → bytes_eq q x ≡ false
    → without_member (with_member xs q) q ≡ xs
    → without_member (match_ordering o (q ∷ x ∷ xs) (x ∷ xs) (x ∷ with_member xs q)) q ≡ x ∷ xs
without-at q x Less xs e apart rest = ap (λ b. cond b (x ∷ xs) (q ∷ without_member (x ∷ xs) q)) (nat_list_eq_equiv.refl q)
without-at q x Equal xs e apart rest = absurd (true≢false (sym (sym (is_eq-slice_cmp q x) ∙ ap is_eq e) ∙ apart))
without-at q x Greater xs e apart rest =
    ap (λ b. cond b (with_member xs q) (x ∷ without_member (with_member xs q) q)) apart ∙ ap (λ l. x ∷ l) rest

pub without-with : (ms : List Bytes) (q : Bytes) → is_member ms q ≡ false → without_member (with_member ms q) q ≡ ms
without-with [] q absent = ap (λ b. cond b [] (q ∷ [])) (nat_list_eq_equiv.refl q)
without-with (x ∷ xs) q absent =
    let parts = neither (bytes_eq q x) (is_member xs q) absent in
    without-at q x (slice_cmp nat_cmp q x) xs refl parts.0 (without-with xs q parts.1)

-- members put one after another, and then one more
pub with_members-pushed : (ms more : List Bytes) (q : Bytes) → with_members ms (more ++ q ∷ []) ≡ with_member (with_members ms more) q
with_members-pushed ms [] q = refl
with_members-pushed ms (m ∷ more) q = with_members-pushed (with_member ms m) more q

-- a member above all that are there goes behind them
last-place : (ms : List Bytes) (q : Bytes) → AllByRecursion (λ x. slice_cmp nat_cmp x q ≡ Less) ms → with_member ms q ≡ ms ++ q ∷ []
last-place [] q below = refl
last-place (x ∷ xs) q below =
    ap (λ o. match_ordering o (q ∷ x ∷ xs) (x ∷ xs) (x ∷ with_member xs q)) (nat_list_cmp_total.antisymm q x ∙ ap ordering_reverse below.0)
    ∙ ap (λ l. x ∷ l) (last-place xs q below.1)

all-pushed : {A : Type 0} (P : A → Type 0) (xs : List A) (x : A) → AllByRecursion P xs → P x → AllByRecursion P (xs ++ x ∷ [])
all-pushed P [] x h here = (here, tt)
all-pushed P (y ∷ ys) x h here = (h.0, all-pushed P ys x h.1 here)

-- members that ascend, each above those that are there
in_order : (ms more : List Bytes) → AllByRecursion (λ m. AllByRecursion (λ x. slice_cmp nat_cmp x m ≡ Less) ms) more → IsAscending more
    → with_members ms more ≡ ms ++ more
unfolding IsStrictlySortedBy
in_order ms [] above up = sym (append-nil ms)
in_order ms (m ∷ more) above up =
    ap (λ l. with_members l more) (last-place ms m above.0)
    ∙ in_order (ms ++ m ∷ []) more (still_above more above.1 up.0) up.1 ∙ append_assoc ms (m ∷ []) more
  where
    still_above : (more : List Bytes) → AllByRecursion (λ n. AllByRecursion (λ x. slice_cmp nat_cmp x n ≡ Less) ms) more
        → AllByRecursion (λ n. slice_cmp nat_cmp m n ≡ Less) more
        → AllByRecursion (λ n. AllByRecursion (λ x. slice_cmp nat_cmp x n ≡ Less) (ms ++ m ∷ [])) more
    still_above [] above up = tt
    still_above (n ∷ more) above up = (all-pushed (λ x. slice_cmp nat_cmp x n ≡ Less) ms m above.0 up.0, still_above more above.1 up.1)

pub with_members-ascending : (members : List Bytes) → IsAscending members → with_members [] members ≡ members
with_members-ascending members up = in_order [] members (none_there members) up
  where
    none_there : (more : List Bytes) → AllByRecursion (λ m. AllByRecursion (λ x. slice_cmp nat_cmp x m ≡ Less) []) more
    none_there [] = tt
    none_there (m ∷ more) = (tt, none_there more)

-- members that change places are the same set
pub all-permuted : (all more : List Bytes) → IsPermutation all more → with_members [] all ≡ with_members [] more
all-permuted all more p = all-alike all more (λ q. list_any-IsPermutation (bytes_eq q) all more p)

pub seen-permuted : (keys more : List Bytes) → IsPermutation keys more → members_seen keys ≡ members_seen more
seen-permuted keys more p = all-permuted keys more p

-- a member that is inserted
pub insert-seen : (k : Bytes) (keys : List Bytes)
    → members_seen (insert_key bytes_eq keys k) ≡ with_member (members_seen keys) k
insert-seen k keys = by (list_any (bytes_eq k) keys) refl
  where
    by : (b : Bool) → list_any (bytes_eq k) keys ≡ b
        → members_seen (cond b keys (keys ++ k ∷ [])) ≡ with_member (members_seen keys) k
    by true there = sym (with-there (members_seen keys) k (seen-ascends keys) (sym (member-seen k keys) ∙ there))
    by false absent =
        with_members-pushed [] keys k

-- a string that is no member is not there to be removed
pub without-absent : (ms : List Bytes) (q : Bytes) → is_member ms q ≡ false → without_member ms q ≡ ms
without-absent [] q absent = refl
without-absent (x ∷ xs) q absent =
    let parts = neither (bytes_eq q x) (is_member xs q) absent in
    ap (λ b. cond b xs (x ∷ without_member xs q)) parts.0 ∙ ap (λ l. x ∷ l) (without-absent xs q parts.1)

none-there : (test : Bytes → Bool) (keys : List Bytes) → position test keys ≡ None → list_any test keys ≡ false
none-there test keys e =
    let outside : length keys ≤ position_or_len test keys = grind (arith, common_steps) in
    list_any_none test keys (λ i d within. fails_before_first test keys i d (omega (arith, outside, within)))

-- members that differ from one are not it
apart-absent : (k : Bytes) (keys : List Bytes) → AllByRecursion (λ y. bytes_eq k y ≡ false) keys
    → list_any (bytes_eq k) keys ≡ false
apart-absent k [] apart = refl
apart-absent k (y ∷ keys) apart =
    ap (λ b. b || list_any (bytes_eq k) keys) apart.0 ∙ apart-absent k keys apart.1

-- a member that goes, before the others, which are as they were put without it
gone : (k : Bytes) (keys rest : List Bytes) → IsDistinct bytes_eq keys → IsPermutation keys (k ∷ rest)
    → members_seen rest ≡ without_member (members_seen keys) k
unfolding IsDistinct
gone k keys rest distinct p =
    let apart = IsDistinct-IsPermutation bytes_eq (λ x y. bytes_eq-flips x y) keys (k ∷ rest) p distinct in
    let absent : is_member (members_seen rest) k ≡ false =
    sym (member-seen k rest) ∙ apart-absent k rest apart.0 in
    let last : members_seen keys ≡ with_member (members_seen rest) k =
    seen-permuted keys (k ∷ rest) p
    ∙ sym (all-permuted (rest ++ k ∷ []) (k ∷ rest)
    (IsPermutation-to_front rest k))
    ∙ with_members-pushed [] rest k in
    sym (ap (λ ms. without_member ms k) last ∙ without-with (members_seen rest) k absent)

-- a member that is removed
pub remove-seen : (q : Bytes) (keys : List Bytes) → IsDistinct bytes_eq keys
    → members_seen (swap_remove_by (bytes_eq q) keys) ≡ without_member (members_seen keys) q
remove-seen q [] distinct = refl
remove-seen q (x ∷ xs) distinct = by (position (bytes_eq q) (x ∷ xs)) refl
  where
    keys : List Bytes
    keys = x ∷ xs

    by : (o : Option ℕ) → position (bytes_eq q) keys ≡ o
        → members_seen (option_map_or (λ i. swap_remove keys i x) o keys) ≡ without_member (members_seen keys) q
    by None e =
        sym (without-absent (members_seen keys) q (sym (member-seen q keys) ∙ none-there (bytes_eq q) keys e))
    by (Some i) e =
        let found = position-Some (bytes_eq q) keys i x e in
        let k : Bytes = get_or keys i x in
        let is : q ≡ k = (bytes_eq-Decides q k).0 found.1 in
        ap members_seen (swap_remove-default keys i x k (omega arith))
        ∙ gone k keys (swap_remove keys i k) distinct (IsPermutation-swap_remove keys i k found.0 (get_or_default keys i x k found.0))
        ∙ ap (without_member (members_seen keys)) (sym is)

-- a list in order in which no string stands twice ascends
distinct-kept : {A : Type 0} (f : A → Bytes) (x : A) (xs : List A) → IsDistinct bytes_eq (f x ∷ map f xs)
    → dedup_from (λ a b. bytes_eq (f a) (f b)) x xs ≡ x ∷ xs
unfolding IsDistinct
distinct-kept f x [] distinct = refl
distinct-kept f x (y ∷ ys) distinct =
    ap (λ b. cond b (dedup_from (λ a b. bytes_eq (f a) (f b)) x ys) (x ∷ dedup_from (λ a b. bytes_eq (f a) (f b)) y ys))
    (bytes_eq-flips (f y) (f x) ∙ distinct.0.0)
    ∙ ap (λ l. x ∷ l) (distinct-kept f y ys distinct.1)

distinct-whole : {A : Type 0} (f : A → Bytes) (xs : List A) → IsDistinct bytes_eq (map f xs)
    → dedup (λ a b. bytes_eq (f a) (f b)) xs ≡ xs
distinct-whole f [] distinct = refl
distinct-whole f (x ∷ xs) distinct = distinct-kept f x xs distinct

pub sorted-ascends : {A : Type 0} (f : A → Bytes) (xs : List A) → IsSorted (λ a b. slice_cmp nat_cmp (f a) (f b)) xs
    → IsDistinct bytes_eq (map f xs) → IsAscending (map f xs)
sorted-ascends f xs sorted distinct =
    strictly-mapped f xs
    (subst (IsStrictlySortedBy (λ a b. slice_cmp nat_cmp (f a) (f b))) (distinct-whole f xs distinct)
    (IsStrictlySortedBy-dedup (on_total f nat_list_cmp_total) (λ a b. sym (is_eq-slice_cmp (f a) (f b))) xs sorted))

-- keys of a table that are sorted ascend, since none stands there twice
pub in_order-ascends : (keys : List Bytes) → IsSorted (slice_cmp nat_cmp) keys → IsDistinct bytes_eq keys → IsAscending keys
in_order-ascends keys sorted distinct =
    subst IsAscending (map-id keys)
    (sorted-ascends (λ x. x) keys sorted (subst (IsDistinct bytes_eq) (sym (map-id keys)) distinct))

-- members in order are the set that they are put into
pub ordered-seen : (all more : List Bytes) → IsPermutation all more → IsAscending more → more ≡ with_members [] all
ordered-seen all more p up = sym (with_members-ascending more up) ∙ sym (all-permuted all more p)

-- a set of some keys has a member
pub some-seen : (keys : List Bytes) → 0 < length keys → 0 < length (members_seen keys)
some-seen [] some = some
some-seen (k ∷ keys) some =
    by (members_seen (k ∷ keys))
    (sym (member-seen k (k ∷ keys))
    ∙ ap (λ b. b || list_any (bytes_eq k) keys) (nat_list_eq_equiv.refl k))
  where
    by : (ms : List Bytes) → is_member ms k ≡ true → 0 < length ms
    by [] e = absurd (true≢false (sym e))
    by (m ∷ ms) e = omega arith

-- one member more
longer : (ms : List Bytes) (q : Bytes) → is_member ms q ≡ false → length (with_member ms q) ≡ suc (length ms)
longer [] q absent = refl
longer (x ∷ xs) q absent =
    let parts = neither (bytes_eq q x) (is_member xs q) absent in
    by (slice_cmp nat_cmp q x) refl parts.0 (longer xs q parts.1)
  where
    by : (o : Ordering) → slice_cmp nat_cmp q x ≡ o → bytes_eq q x ≡ false → length (with_member xs q) ≡ suc (length xs)
        → length (match_ordering o (q ∷ x ∷ xs) (x ∷ xs) (x ∷ with_member xs q)) ≡ suc (suc (length xs))
    by Less e apart rest = refl
    by Equal e apart rest = absurd (true≢false (sym (sym (is_eq-slice_cmp q x) ∙ ap is_eq e) ∙ apart))
    by Greater e apart rest = ap suc rest

-- as many members as keys, since none lies there twice
pub length-seen : (keys : List Bytes) → IsDistinct bytes_eq keys → length (members_seen keys) ≡ length keys
unfolding IsDistinct
length-seen [] distinct = refl
length-seen (k ∷ keys) distinct =
    let last : members_seen (k ∷ keys) ≡ with_member (members_seen keys) k =
    sym (all-permuted (keys ++ k ∷ []) (k ∷ keys)
    (IsPermutation-to_front keys k))
    ∙ with_members-pushed [] keys k in
    ap length last
    ∙ longer (members_seen keys) k (sym (member-seen k keys) ∙ apart-absent k keys distinct.0)
    ∙ ap suc (length-seen keys distinct.1)

pub nonempty-some : {A : Type 0} (xs : List A) → 0 < length xs → nonempty xs ≡ Some xs
nonempty-some [] some = absurd (omega arith)
nonempty-some (x ∷ xs) some = refl

-- borrowed members that are sorted
pub sorted-seen : {A : Type 0} (f : A → Bytes) (keys : List Bytes) (members sorted : List A) → map f members ≡ keys
    → IsDistinct bytes_eq keys → IsPermutation members sorted
    → IsSorted (λ a b. slice_cmp nat_cmp (f a) (f b)) sorted → map f sorted ≡ members_seen keys
sorted-seen f keys members sorted lent distinct p up =
    let moved : IsPermutation keys (map f sorted) =
    subst (λ l. IsPermutation l (map f sorted)) lent (IsPermutation-map f members sorted p) in
    ordered-seen keys (map f sorted) moved
    (sorted-ascends f sorted up (IsDistinct-IsPermutation bytes_eq bytes_eq-flips keys (map f sorted) moved distinct))

pub ruleset seen = (seen-ascends, length-seen, some-seen, nonempty-some)

pub ruleset members = (with_members-ascending, some-seen, nonempty-some)
