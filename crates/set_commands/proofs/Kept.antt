-- Members that are kept ascend as before, what it is to be a member of what is kept or joined, and what is gathered in
-- any order.
use Rattle.std.proofs.Common.{◌≡◌, Bool, true, false, cond, not, ◌&&◌, ◌||◌, List, [], ◌∷◌, ◌++◌}
use Rattle.std.proofs.Common.{refl, sym, ap, subst, ◌∙◌}
use Rattle.std.proofs.lemmas.Cmp.{nat_list_cmp_total, nat_list_eq_equiv}
use Rattle.std.proofs.lemmas.List.Folds.{list_any-append}
use Rattle.std.proofs.lemmas.List.Kept.{IsStrictlySortedBy-dedup, IsStrictlySortedBy-filter}
use Rattle.std.proofs.lemmas.List.Sorted.{IsPermutation-map, list_any-IsPermutation}
use Rattle.std.proofs.lemmas.Map.Made.{is_member-filter}
use Rattle.std.proofs.lemmas.Map.Text.{is_eq-slice_cmp}
use Rattle.std.proofs.lemmas.Slice.Eq.{bytes_eq-Decides}
use Rattle.std.specs.Borrow.{Bor}
use Rattle.std.specs.Cmp.{on_total}
use Rattle.std.specs.Cmp.Lexicographic.{slice_cmp}
use Rattle.std.specs.List.{AllByRecursion, dedup, dedup_from, filter, flat_map}
use Rattle.std.specs.List.Sorted.{IsPermutation, IsSorted}
use Rattle.std.specs.Ordering.{nat_cmp}
use Rattle.std.specs.Str.{bytes_eq}
use Rattle.set_commands.specs.Combination.{Members, intersection, is_in_all, is_in_each, is_in_some}
use Rattle.set_commands.specs.Combination.{IntersectionMembers, UnionMembers, DifferenceMembers}
use Rattle.set_commands.specs.Lent.{lent_texts}
use Rattle.texts.specs.Texts.{Bytes}
use Rattle.values.proofs.MembersAlike.{all-alike, ascending-all, ascending-alike, member-of_all, nothing-ascends, strictly-mapped}
use Rattle.values.specs.SetValue.{IsAscending, is_member, with_members}

-- a member of a set is equal to the string that it is found by
respects : (test : Bytes → Bool) (q x : Bytes) → bytes_eq q x ≡ true → test q ≡ test x
respects test q x e = ap test ((bytes_eq-Decides q x).0 e)

pub members-kept : (test : Bytes → Bool) (members : Members) (q : Bytes)
    → is_member (filter test members) q ≡ (is_member members q && test q)
members-kept test members q = is_member-filter nat_list_eq_equiv test q (respects test q) members

pub intersection_members : IntersectionMembers
intersection_members first others member = members-kept (is_in_each others) first member

pub difference_members : DifferenceMembers
difference_members first others member = members-kept (λ m. not (is_in_some others m)) first member

member-of_sets : (sets : List Members) (q : Bytes) → is_member (flat_map (λ members. members) sets) q ≡ is_in_some sets q
member-of_sets [] q = refl
member-of_sets (set ∷ sets) q =
    list_any-append (bytes_eq q) set (flat_map (λ members. members) sets) ∙ ap (λ b. is_member set q || b) (member-of_sets sets q)

pub union_members : UnionMembers
union_members sets q =
    member-of_all (flat_map (λ members. members) sets) q ∙ member-of_sets sets q

pub ascending-kept : (test : Bytes → Bool) (members : Members) → IsAscending members → IsAscending (filter test members)
ascending-kept test members up = IsStrictlySortedBy-filter (slice_cmp nat_cmp) test members up

and-swap : (a b c : Bool) → (b && (a && c)) ≡ (a && (b && c))
and-swap true b c = refl
and-swap false true c = refl
and-swap false false c = refl

-- a set among others decides before them
each-moved : (before after : List Members) (set : Members) (q : Bytes)
    → is_in_each (before ++ set ∷ after) q ≡ (is_member set q && is_in_all before after q)
each-moved [] after set q = refl
each-moved (first ∷ before) after set q =
    ap (λ b. is_member first q && b) (each-moved before after set q)
    ∙ and-swap (is_member set q) (is_member first q) (is_in_all before after q) ∙ ap (λ b. is_member set q && b)
    (and-joins (is_member first q) (is_in_each before q) (is_in_each after q))
  where
    and-joins : (a b c : Bool) → (a && (b && c)) ≡ ((a && b) && c)
    and-joins true b c = refl
    and-joins false b c = refl

-- an intersection is what is kept of any one of the sets
pub intersection-kept : (before after : List Members) (set : Members) → AllByRecursion IsAscending (before ++ set ∷ after)
    → filter (is_in_all before after) set ≡ intersection (before ++ set ∷ after)
intersection-kept [] after set up = refl
intersection-kept (first ∷ before) after set up =
    ascending-alike (filter (is_in_all (first ∷ before) after) set) (filter (is_in_each (before ++ set ∷ after)) first)
    (ascending-kept (is_in_all (first ∷ before) after) set (one before up.1))
    (ascending-kept (is_in_each (before ++ set ∷ after)) first up.0)
    (λ q.
    members-kept (is_in_all (first ∷ before) after) set q
    ∙ sym (each-moved (first ∷ before) after set q) ∙ sym (members-kept (is_in_each (before ++ set ∷ after)) first q))
  where
    one : (before : List Members) → AllByRecursion IsAscending (before ++ set ∷ after) → IsAscending set
    one [] up = up.0
    one (first ∷ before) up = one before up.1

-- what is kept of members that are read in any order
pub kept-in_order : (test : Bytes → Bool) (read : List Bytes) (set : Members) → with_members [] read ≡ set
    → with_members [] (filter test read) ≡ filter test set
kept-in_order test read set e =
    ascending-alike (with_members [] (filter test read)) (filter test set) (ascending-all (filter test read))
    (ascending-kept test set (subst IsAscending e (ascending-all read)))
    (λ q.
    member-of_all (filter test read) q ∙ members-kept test read q
    ∙ ap (λ b. b && test q) (sym (member-of_all read q) ∙ ap (λ ms. is_member ms q) e)
    ∙ sym (members-kept test set q))

-- a set among others may be read in any order
pub joined-in_order : (done more rest : List Bytes) (set : Members) → with_members [] more ≡ set
    → with_members [] ((done ++ more) ++ rest) ≡ with_members [] (done ++ (set ++ rest))
joined-in_order done more rest set e = all-alike ((done ++ more) ++ rest) (done ++ (set ++ rest)) same
  where
    or-joins : (a b c : Bool) → ((a || b) || c) ≡ (a || (b || c))
    or-joins true b c = refl
    or-joins false b c = refl

    same : (q : Bytes) → is_member ((done ++ more) ++ rest) q ≡ is_member (done ++ (set ++ rest)) q
    same q =
        list_any-append (bytes_eq q) (done ++ more) rest
        ∙ ap (λ b. b || is_member rest q) (list_any-append (bytes_eq q) done more)
        ∙ or-joins (is_member done q) (is_member more q) (is_member rest q)
        ∙ ap (λ b. is_member done q || (b || is_member rest q)) (sym (member-of_all more q) ∙ ap (λ ms. is_member ms q) e)
        ∙ ap (λ b. is_member done q || b) (sym (list_any-append (bytes_eq q) set rest))
        ∙ sym (list_any-append (bytes_eq q) done (set ++ rest))

-- two texts are the same
abbrev pub same_text : Bor Bytes → Bor Bytes → Bool
same_text x y = bytes_eq x.now y.now

-- a text is one of these
abbrev is_among : Bytes → List (Bor Bytes) → Bool
is_among q texts = is_member (lent_texts texts) q

-- what stands twice in a row is there as when it stands once
any-dedup_from : (q : Bytes) (k : Bor Bytes) (xs : List (Bor Bytes)) → is_among q (dedup_from same_text k xs) ≡ is_among q (k ∷ xs)
any-dedup_from q k [] = refl
any-dedup_from q k (x ∷ xs) = by (same_text x k) refl (any-dedup_from q k xs) (any-dedup_from q x xs)
  where
    twice : (a c : Bool) → (a || c) ≡ (a || (a || c))
    twice true c = refl
    twice false c = refl

    by : (b : Bool) → same_text x k ≡ b → is_among q (dedup_from same_text k xs) ≡ is_among q (k ∷ xs)
        → is_among q (dedup_from same_text x xs) ≡ is_among q (x ∷ xs)
        → is_among q (cond b (dedup_from same_text k xs) (k ∷ dedup_from same_text x xs)) ≡ is_among q (k ∷ x ∷ xs)
    by true e old new =
        old ∙ twice (bytes_eq q k.now) (is_among q xs)
        ∙ ap (λ t. bytes_eq q k.now || (bytes_eq q t || is_among q xs)) (sym ((bytes_eq-Decides x.now k.now).0 e))
    by false e old new = ap (λ b. bytes_eq q k.now || b) new

any-dedup : (q : Bytes) (xs : List (Bor Bytes)) → is_among q (dedup same_text xs) ≡ is_among q xs
any-dedup q [] = refl
any-dedup q (x ∷ xs) = any-dedup_from q x xs

-- texts that are sorted, and of which each is kept once
pub sorted-once : (texts sorted once : List (Bor Bytes)) → IsPermutation texts sorted
    → IsSorted (λ x y. slice_cmp nat_cmp x.now y.now) sorted → once ≡ dedup same_text sorted
    → lent_texts once ≡ with_members [] (lent_texts texts)
sorted-once texts sorted once p up is =
    ap lent_texts is
    ∙ ascending-alike (lent_texts (dedup same_text sorted)) (with_members [] (lent_texts texts))
    (strictly-mapped (λ t. t.now) (dedup same_text sorted)
    (IsStrictlySortedBy-dedup (on_total (λ t. t.now) nat_list_cmp_total) (λ x y. sym (is_eq-slice_cmp x.now y.now)) sorted up))
    (ascending-all (lent_texts texts))
    (λ q.
    any-dedup q sorted
    ∙ sym (list_any-IsPermutation (bytes_eq q) (lent_texts texts) (lent_texts sorted) (IsPermutation-map (λ t. t.now) texts sorted p))
    ∙ sym (member-of_all (lent_texts texts) q))

pub ruleset kept = (ascending-kept, nothing-ascends)
