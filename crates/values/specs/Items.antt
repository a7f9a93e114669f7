-- What an iterator over a value has left.
use Rattle.std.specs.Prelude.{List, [], ◌∷◌, map, Option, Some, None}
use Rattle.std.specs.Borrow.{Bor}
use Rattle.std.specs.Vec.Iter.{into_iter_items}
use Rattle.std.specs.VecDeque.Iter.{deque_iter_rest}
use Rattle.texts.specs.Texts.{Bytes, texts_of, by_turns}
use Rattle.values.specs.HashValue.{pairs_seen}
use Rattle.values.specs.SetValue.{members_after, members_seen}
use Rattle.values.specs.declared.items.Rest.{Rest}
use Rattle.values.specs.declared.items.Rest.TheVariants as rest

-- the string that is lent, if one is
abbrev pub lent : Option (Bor Bytes) → List Bytes
lent None = []
lent (Some text) = text.now ∷ []

-- the strings that are still to come
abbrev pub left : Rest → List Bytes
left (rest.Texts texts) = texts_of (deque_iter_rest texts)
left (rest.Fields pairs) = map (λ pair. pair.0) (pairs_seen pairs)
left (rest.Values pairs) = map (λ pair. pair.1) (pairs_seen pairs)
left (rest.Both pairs) = by_turns (pairs_seen pairs)
left (rest.Members members) = map (λ member. member.now) (into_iter_items members)
left (rest.Keys keys) = keys
left (rest.Least least) = members_after least.after (members_seen least.keys.now)
