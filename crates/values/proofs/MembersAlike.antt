-- What it is to be a member of an ascending list, and that ascending lists with the same members are one list.
use Rattle.std.proofs.Common.{◌≡◌, Bool, true, false, ◌||◌, List, [], ◌∷◌, map, refl, sym, ap, ◌∙◌}
use Rattle.std.proofs.lemmas.Cmp.{nat_list_cmp_total}
use Rattle.std.proofs.lemmas.Map.Lookups.{btree_set_from_contains, exact_bytes}
use Rattle.std.proofs.lemmas.Map.Text.{is_eq-slice_cmp}
use Rattle.std.proofs.lemmas.Slice.Eq.{bytes_eq-Decides}
use Rattle.std.specs.Cmp.Lexicographic.{slice_cmp}
use Rattle.std.specs.List.{AllByRecursion, list_any}
use Rattle.std.specs.List.Sorted.{IsStrictlySortedBy}
use Rattle.std.specs.Ordering.{match_ordering, ordering_reverse, nat_cmp, is_eq}
use Rattle.std.specs.declared.cmp.Ordering.{Ordering}
use Rattle.std.specs.declared.cmp.Ordering.TheVariants.{Less, Equal, Greater}
use Rattle.std.specs.Str.{bytes_eq}
use Rattle.texts.specs.Texts.{Bytes}
use Rattle.values.specs.SetValue.{IsAscending, is_member, with_member, with_members}

-- a string below the first of members that ascend is below each
pub below-first : (q x : Bytes) (xs : List Bytes) → slice_cmp nat_cmp q x ≡ Less → AllByRecursion (λ z. slice_cmp nat_cmp x z ≡ Less) xs
    → AllByRecursion (λ z. slice_cmp nat_cmp q z ≡ Less) xs
below-first q x [] less above = tt
below-first q x (z ∷ xs) less above = (nat_list_cmp_total.trans q x z less above.0, below-first q x xs less above.1)

-- ascending lists with the same members are one list
pub ascending-alike : (xs ys : List Bytes) → IsAscending xs → IsAscending ys → ((q : Bytes) → is_member xs q ≡ is_member ys q) → xs ≡ ys
ascending-alike xs ys up high same =
    btree_set_from_contains nat_list_cmp_total (record { keys = xs })
    (record { keys = ys }) up high (λ q. seen xs q ∙ same q ∙ sym (seen ys q))
    exact_bytes
  where
    seen : (members : List Bytes) (q : Bytes) → list_any (λ x. is_eq (slice_cmp nat_cmp q x)) members ≡ is_member members q
    seen [] q = refl
    seen (x ∷ xs) q =
        ap (λ b. b || list_any (λ x. is_eq (slice_cmp nat_cmp q x)) xs) (is_eq-slice_cmp q x) ∙ ap (λ b. bytes_eq q x || b) (seen xs q)

or-swap : (a b c : Bool) → (a || (b || c)) ≡ (b || (a || c))
or-swap true true c = refl
or-swap true false c = refl
or-swap false b c = refl

or-twice : (a c : Bool) → (a || c) ≡ (a || (a || c))
or-twice true c = refl
or-twice false c = refl

-- a member at its place in the order
member-placed : (o : Ordering) (q x m : Bytes) (xs : List Bytes) → slice_cmp nat_cmp m x ≡ o
    → is_member (with_member xs m) q ≡ (bytes_eq q m || is_member xs q)
    → is_member (match_ordering o (m ∷ x ∷ xs) (x ∷ xs) (x ∷ with_member xs m)) q ≡ (bytes_eq q m || is_member (x ∷ xs) q)
member-placed Less q x m xs e rest = refl
member-placed Equal q x m xs e rest =
    let same : m ≡ x = (bytes_eq-Decides m x).0 (sym (is_eq-slice_cmp m x) ∙ ap is_eq e) in
    or-twice (bytes_eq q x) (is_member xs q) ∙ ap (λ t. bytes_eq q t || (bytes_eq q x || is_member xs q)) (sym same)
member-placed Greater q x m xs e rest =
    ap (λ b. bytes_eq q x || b) rest ∙ or-swap (bytes_eq q x) (bytes_eq q m) (is_member xs q)

pub member-with : (members : List Bytes) (m q : Bytes) → is_member (with_member members m) q ≡ (bytes_eq q m || is_member members q)
member-with [] m q = refl
member-with (x ∷ xs) m q = member-placed (slice_cmp nat_cmp m x) q x m xs refl (member-with xs m q)

pub member-with_each : (members more : List Bytes) (q : Bytes)
    → is_member (with_members members more) q ≡ (is_member more q || is_member members q)
member-with_each members [] q = refl
member-with_each members (m ∷ more) q =
    member-with_each (with_member members m) more q
    ∙ ap (λ b. is_member more q || b) (member-with members m q)
    ∙ or-swap (is_member more q) (bytes_eq q m) (is_member members q)
    ∙ or-joins (bytes_eq q m) (is_member more q) (is_member members q)
  where
    or-joins : (a b c : Bool) → (a || (b || c)) ≡ ((a || b) || c)
    or-joins true b c = refl
    or-joins false b c = refl

-- what is put into no set is what was put
pub member-of_all : (all : List Bytes) (q : Bytes) → is_member (with_members [] all) q ≡ is_member all q
member-of_all all q = member-with_each [] all q ∙ or-nothing (is_member all q)
  where
    or-nothing : (a : Bool) → (a || false) ≡ a
    or-nothing true = refl
    or-nothing false = refl

-- what is above x stays so with one more that is
above-with : (x q : Bytes) (ms : List Bytes) → slice_cmp nat_cmp x q ≡ Less → AllByRecursion (λ z. slice_cmp nat_cmp x z ≡ Less) ms
    → AllByRecursion (λ z. slice_cmp nat_cmp x z ≡ Less) (with_member ms q)
above-with x q [] less above = (less, tt)
above-with x q (m ∷ ms) less above = placed (slice_cmp nat_cmp q m) (above-with x q ms less above.1)
  where
    placed : (o : Ordering) → AllByRecursion (λ z. slice_cmp nat_cmp x z ≡ Less) (with_member ms q)
        → AllByRecursion (λ z. slice_cmp nat_cmp x z ≡ Less) (match_ordering o (q ∷ m ∷ ms) (m ∷ ms) (m ∷ with_member ms q))
    placed Less rest = (less, above)
    placed Equal rest = above
    placed Greater rest = (above.0, rest)

-- members ascend with one more at its place
pub ascending-with : (ms : List Bytes) (q : Bytes) → IsAscending ms → IsAscending (with_member ms q)
unfolding IsStrictlySortedBy
ascending-with [] q up = (tt, tt)
ascending-with (m ∷ ms) q up = placed (slice_cmp nat_cmp q m) refl (ascending-with ms q up.1)
  where
    placed : (o : Ordering) → slice_cmp nat_cmp q m ≡ o → IsAscending (with_member ms q)
        → IsAscending (match_ordering o (q ∷ m ∷ ms) (m ∷ ms) (m ∷ with_member ms q))
    placed Less e rest = ((e, below-first q m ms e up.0), up)
    placed Equal e rest = up
    placed Greater e rest = (above-with m q ms (nat_list_cmp_total.antisymm m q ∙ ap ordering_reverse e) up.0, rest)

pub ascending-with_members : (ms more : List Bytes) → IsAscending ms → IsAscending (with_members ms more)
ascending-with_members ms [] up = up
ascending-with_members ms (m ∷ more) up = ascending-with_members (with_member ms m) more (ascending-with ms m up)

pub nothing-ascends : IsAscending []
unfolding IsStrictlySortedBy
nothing-ascends = tt

pub ascending-all : (all : List Bytes) → IsAscending (with_members [] all)
ascending-all all = ascending-with_members [] all nothing-ascends

-- what has the same members is put into no set as the same set
pub all-alike : (all more : List Bytes) → ((q : Bytes) → is_member all q ≡ is_member more q) → with_members [] all ≡ with_members [] more
all-alike all more same =
    ascending-alike (with_members [] all) (with_members [] more) (ascending-all all) (ascending-all more)
    (λ q. member-of_all all q ∙ same q ∙ sym (member-of_all more q))

-- a member that is there is not put again
pub with-there : (ms : List Bytes) (q : Bytes) → IsAscending ms → is_member ms q ≡ true → with_member ms q ≡ ms
with-there ms q up there =
    ascending-alike (with_member ms q) ms (ascending-with ms q up) up
    (λ p. member-with ms q p ∙ one (bytes_eq p q) (λ e. ap (is_member ms) ((bytes_eq-Decides p q).0 e) ∙ there))
  where
    one : {b : Bool} (a : Bool) → (a ≡ true → b ≡ true) → (a || b) ≡ b
    one true h = sym (h refl)
    one false h = refl

-- what strictly ascends by the bytes of each ascends as these bytes
pub strictly-mapped : {A : Type 0} (f : A → Bytes) (xs : List A) → IsStrictlySortedBy (λ a b. slice_cmp nat_cmp (f a) (f b)) xs
    → IsAscending (map f xs)
unfolding IsStrictlySortedBy
strictly-mapped f [] h = h
strictly-mapped {A = A} f (x ∷ xs) h = (below xs h.0, strictly-mapped f xs h.1)
  where
    below : (ys : List A) → AllByRecursion (λ y. slice_cmp nat_cmp (f x) (f y) ≡ Less) ys
        → AllByRecursion (λ y. slice_cmp nat_cmp (f x) y ≡ Less) (map f ys)
    below [] h = h
    below (y ∷ ys) h = (h.0, below ys h.1)
