-- Several keys at once: those that are missing, and what the pairs leave.
use Rattle.std.proofs.Common.{◌≡◌, ℕ, suc, ◌+◌, ◌<◌, ◌++◌, ◌||◌, List, [], ◌∷◌, length, drop, reverse, Bool, true, false, cond, not, Option}
use Rattle.std.proofs.Common.{Some, None, is_some, Result, Ok, Err, OnErr, IsTrue, IsSome, All, Bor, add-one, refl, sym, ap}
use Rattle.std.proofs.Common.{subst, ◌∙◌, arith}
use Rattle.std.proofs.Math.Seq.{drop-cons}
use Rattle.std.proofs.lemmas.List.{reverse-reverse}
use Rattle.std.proofs.lemmas.Option.{slice_get_within, get_or_from_slice_get}
use Rattle.std.specs.FinMap.{get, insert}
use Rattle.std.specs.List.{list_any, slice_get}
use Rattle.std.specs.Option.{option_copied}
use Rattle.std.specs.Str.{bytes_eq}
use Rattle.std.specs.Global.{Vec}
use Rattle.command_cases.specs.Shapes.{values_at}
use Rattle.keyspace.proofs.Gets.{same_bytes, get-insert}
use Rattle.keyspace.proofs.Parts.{among-first}
use Rattle.keyspace.specs.Map.{Map, among}
use Rattle.string_commands.specs.StringCommand.{missing_among}
use Rattle.texts.specs.Texts.{Bytes, firsts, by_turns, pairs_of, texts_of}
use Rattle.values.proofs.Mapped.{map-reverse, reverse-map_pushed}
use Rattle.values.specs.declared.Value.{Value}

-- what holds of all keys holds of each among them
pub all-among : (covered : Bytes → Bool) (keys : List Bytes) → All (λ key. IsTrue (covered key)) keys
    → (q : Bytes) → among keys q ≡ true → IsTrue (covered q)
all-among covered [] all q h = absurd cc
all-among covered (k ∷ ks) all q h =
    elim (bytes_eq q k) as (λ b. bytes_eq q k ≡ b → (b || among ks q) ≡ true → IsTrue (covered q)) [
      | true ↦ λ e _. subst (λ x. IsTrue (covered x)) (sym (same_bytes q k e)) (all 0 k (omega arith))
      | false ↦ λ e m. all-among covered ks (λ i d w. all (suc i) d (omega (arith, w))) q m
    ] refl h

or_later : (b c : Bool) → c ≡ true → (b || c) ≡ true
or_later true c h = refl
or_later false c h = h

-- what holds in any case holds of an error
pub on_err-always : {A E P : Type 0} (r : Result A E) → P → OnErr r P
on_err-always (Ok x) p = tt
on_err-always (Err e) p = p

-- whether a value was found
pub looked : {A : Type 0} (found : Option (Bor A)) (value : Option A) (there : Bool) → option_copied found ≡ value → there ≡ is_some found
    → is_some value ≡ there
looked None value there is test = ap is_some (sym is) ∙ sym test
looked (Some v) value there is test = ap is_some (sym is) ∙ sym test

pub missed : {A : Type 0} (found : Option (Bor A)) (value : Option A) (none : Bool) → option_copied found ≡ value
    → is_some found ≡ not none → is_some value ≡ not none
missed None value none is test = ap is_some (sym is) ∙ test
missed (Some v) value none is test = ap is_some (sym is) ∙ test

-- the key of a turn, and what is left from it on
pub covered_at : (covered : Bytes → Bool) (keys : List Bytes) (i : ℕ) (key : Bytes) → slice_get keys i ≡ Some key
    → All (λ k. IsTrue (covered k)) keys → IsTrue (covered key)
covered_at covered keys i key at all =
    subst (λ k. IsTrue (covered k)) (get_or_from_slice_get keys i key key at) (all i key (slice_get_within keys i key at))

pub drop_item : {A : Type 0} (xs : List A) (i : ℕ) (x : A) → slice_get xs i ≡ Some x → drop i xs ≡ x ∷ drop (i + 1) xs
drop_item xs i x at =
    drop-cons xs i x (slice_get_within xs i x at) ∙ ap (λ y. y ∷ drop (suc i) xs) (get_or_from_slice_get xs i x x at)
    ∙ ap (λ n. x ∷ drop n xs) (sym (add-one i))

-- whether one of the keys from here on is there
pub one_there : (m : Map) (keys : List Bytes) (i : ℕ) (key : Bytes) (there : Bool)
    → slice_get keys i ≡ Some key → is_some (get m key) ≡ there
    → list_any is_some (values_at m (drop i keys)) ≡ (there || list_any is_some (values_at m (drop (i + 1) keys)))
one_there m keys i key there at is =
    ap (λ ks. list_any is_some (values_at m ks)) (drop_item keys i key at)
    ∙ ap (λ b. b || list_any is_some (values_at m (drop (i + 1) keys))) is

-- the missing keys from one that is there on, and from one that isn't
pub missing_later : (m : Map) (keys : List Bytes) (i : ℕ) (key : Bytes) → slice_get keys i ≡ Some key → is_some (get m key) ≡ true
    → missing_among m (drop i keys) ≡ missing_among m (drop (i + 1) keys)
missing_later m keys i key at there =
    let later = missing_among m (drop (i + 1) keys) in
    ap (missing_among m) (drop_item keys i key at) ∙ ap (λ b. cond (not b) (key ∷ later) later) there

pub missing_here : (m : Map) (keys : List Bytes) (i : ℕ) (key : Bytes) → slice_get keys i ≡ Some key → is_some (get m key) ≡ false
    → missing_among m (drop i keys) ≡ missing_among m keys → 0 < length (missing_among m keys)
missing_here m keys i key at none before =
    let later = missing_among m (drop (i + 1) keys) in
    let here : missing_among m (drop i keys) ≡ key ∷ later =
    ap (missing_among m) (drop_item keys i key at) ∙ ap (λ b. cond (not b) (key ∷ later) later) none in
    omega (arith, ap length before, ap length here)

-- a key that isn't there is missing; where none is missing each is there
missing-among : (m : Map) (keys : List Bytes) (q : Bytes) → among keys q ≡ true → get m q ≡ None → among (missing_among m keys) q ≡ true
missing-among m [] q h none = absurd cc
missing-among m (k ∷ ks) q h none =
    elim (bytes_eq q k)
    as (λ c. bytes_eq q k ≡ c → (c || among ks q) ≡ true → among (missing_among m (k ∷ ks)) q ≡ true) [
      | true ↦ λ e _.
          let gone : get m k ≡ None = ap (get m) (sym (same_bytes q k e)) ∙ none in
          ap (λ o. among (cond (not (is_some o)) (k ∷ missing_among m ks) (missing_among m ks)) q) gone
          ∙ ap (λ b. b || among (missing_among m ks) q) e
      | false ↦ λ _ a.
          let later = missing-among m ks q a none in
          elim (not (is_some (get m k))) as (λ b. among (cond b (k ∷ missing_among m ks) (missing_among m ks)) q ≡ true) [
            | true ↦ elim (bytes_eq q k) as (λ c. (c || among (missing_among m ks) q) ≡ true) [ true ↦ refl | false ↦ later ]
            | false ↦ later
          ]
    ] refl h

among-some : (keys : List Bytes) (q : Bytes) → among keys q ≡ true → 0 < length keys
among-some [] q h = absurd cc
among-some (k ∷ ks) q h = omega arith

pub some_missing : (m : Map) (keys : List Bytes) (q : Bytes) → among keys q ≡ true → get m q ≡ None → 0 < length (missing_among m keys)
some_missing m keys q h none = among-some (missing_among m keys) q (missing-among m keys q h none)

pub none_missing : (m : Map) (keys : List Bytes) → missing_among m keys ≡ [] → (q : Bytes) → among keys q ≡ true → IsSome (get m q)
none_missing m keys none q h =
    elim (get m q) as (λ o. get m q ≡ o → IsSome o) [
      | None ↦ λ absent.
          let more : 0 < length (missing_among m keys) = some_missing m keys q h absent in
          absurd (omega (arith, more, ap length none))
      | Some v ↦ λ _. cc
    ] refl

some_either : (b : Bool) (v : Value) (o : Option Value) → IsSome o → IsSome (cond b (Some v) o)
some_either true v o there = cc
some_either false v o there = there

-- a key that is there stays there where another is put
pub still_there : (m n : Map) (k : Bytes) (v : Value) (q : Bytes) → n ≡ insert m k v → IsSome (get m q) → IsSome (get n q)
still_there m n k v q put there =
    subst IsSome (sym (ap (λ a. get a q) put ∙ get-insert m k v q)) (some_either (bytes_eq k q) v (get m q) there)

-- pairs by turns are these pairs
pairs_of-by_turns : (pairs : List (Bytes × Bytes)) → pairs_of (by_turns pairs) ≡ pairs
pairs_of-by_turns [] = refl
pairs_of-by_turns (p ∷ ps) = ap (λ l. p ∷ l) (pairs_of-by_turns ps)

-- the turns of pairs, last first, as they are popped: all of them, and the first pair of those that are left
pub all_turns : (turns reversed : List (Vec ℕ)) (pairs : List (Bytes × Bytes)) → reversed ≡ reverse turns → texts_of turns ≡ by_turns pairs
    → pairs_of (reverse (texts_of reversed)) ≡ pairs
all_turns turns reversed pairs is seen =
    ap pairs_of (ap (λ l. reverse (texts_of l)) is ∙ ap reverse (map-reverse (λ t. t.items) turns) ∙ reverse-reverse (texts_of turns) ∙ seen)
    ∙ pairs_of-by_turns pairs

pub next_turn : (turns behind after : List (Vec ℕ)) (key value : Vec ℕ) → turns ≡ behind ++ key ∷ [] → behind ≡ after ++ value ∷ []
    → pairs_of (reverse (texts_of turns)) ≡ (key.items, value.items) ∷ pairs_of (reverse (texts_of after))
next_turn turns behind after key value first second =
    ap pairs_of (ap (λ l. reverse (texts_of l)) first ∙ reverse-map_pushed (λ t. t.items) behind key
    ∙ ap (λ l. key.items ∷ reverse (texts_of l)) second ∙ ap (λ l. key.items ∷ l) (reverse-map_pushed (λ t. t.items) after value))

-- its key is among those that are left, and so is each later one
pub next_key : (turns behind after : List (Vec ℕ)) (key value : Vec ℕ) → turns ≡ behind ++ key ∷ [] → behind ≡ after ++ value ∷ []
    → among (firsts (pairs_of (reverse (texts_of turns)))) key.items ≡ true
next_key turns behind after key value first second =
    ap (λ ps. among (firsts ps) key.items) (next_turn turns behind after key value first second)
    ∙ among-first key.items (firsts (pairs_of (reverse (texts_of after))))

pub later_key : (turns behind after : List (Vec ℕ)) (key value : Vec ℕ) (q : Bytes) → turns ≡ behind ++ key ∷ []
    → behind ≡ after ++ value ∷ [] → among (firsts (pairs_of (reverse (texts_of after)))) q ≡ true
    → among (firsts (pairs_of (reverse (texts_of turns)))) q ≡ true
later_key turns behind after key value q first second h =
    ap (λ ps. among (firsts ps) q) (next_turn turns behind after key value first second)
    ∙ or_later (bytes_eq q key.items) (among (firsts (pairs_of (reverse (texts_of after)))) q) h
