-- What the calls of a list leave.
use Rattle.std.specs.Prelude.{ℕ, zero, suc, ◌-◌, Bool, cond, List, [], ◌∷◌, ◌++◌, length, take, drop, reverse}
use Rattle.std.specs.Prelude.{Option, Some, None}
use Rattle.std.specs.Str.{bytes_eq}
use Rattle.texts.specs.Texts.{Bytes}
use Rattle.texts.specs.declared.text_list.End.{End}
use Rattle.texts.specs.declared.text_list.End.TheVariants.{Head, Tail}

-- the list, if it has an item
abbrev pub nonempty : {A : Type 0} → List A → Option (List A)
nonempty [] = None
nonempty (x ∷ xs) = Some (x ∷ xs)

-- the list with these items pushed at this end, one after another
abbrev pub pushed : {A : Type 0} → End → List A → List A → List A
pushed Head xs items = reverse items ++ xs
pushed Tail xs items = xs ++ items

-- the item at this end, as a list of one
abbrev pub end_item : {A : Type 0} → End → List A → List A
end_item Head xs = take 1 xs
end_item Tail xs = drop (length xs - 1) xs

-- the list without the item at this end
abbrev pub popped : {A : Type 0} → End → List A → List A
popped Head xs = drop 1 xs
popped Tail xs = take (length xs - 1) xs

-- the list with `more`, in its order, put before it or behind it
abbrev pub joined : {A : Type 0} → End → List A → List A → List A
joined Head xs more = more ++ xs
joined Tail xs more = xs ++ more

-- the list without the first items that pass the test, at most so many
abbrev pub without_first : {A : Type 0} → (A → Bool) → ℕ → List A → List A
without_first test zero xs = xs
without_first test (suc most) [] = []
without_first test (suc most) (x ∷ xs) = cond (test x) (without_first test most xs) (x ∷ without_first test (suc most) xs)

-- the list without the items that are equal to this one, at most so many of them, counted from this end
abbrev pub without_equal : End → Bytes → ℕ → List Bytes → List Bytes
without_equal Head item most xs = without_first (bytes_eq item) most xs
without_equal Tail item most xs = reverse (without_first (bytes_eq item) most (reverse xs))
