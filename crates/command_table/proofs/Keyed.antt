-- That each command that is read names keys, or is one that looks at none.
use Rattle.std.proofs.Common.{◌≡◌, ℕ, zero, suc, ◌+◌, ◌-◌, ◌<◌, ◌≤◌, ◌++◌, ◌&&◌, nat_le, nat_lt, Bool, true, false, List, [], ◌∷◌}
use Rattle.std.proofs.Common.{length, take, drop, Some, Ok, Err, IfOk, unwrap_or, option_map, if◌then◌else◌, inl, inr, refl, sym, ap, subst}
use Rattle.std.proofs.Common.{arith}
use Rattle.std.proofs.lemmas.Bool.{and_parts}
use Rattle.std.proofs.lemmas.Bool.Decides.{nat_tests}
use Rattle.std.proofs.lemmas.List.{length-drop}
use Rattle.std.specs.List.{list_all}
use Rattle.std.specs.Str.{bytes_eq}
use Rattle.command_table.specs.Arity.{admits}
use Rattle.command_table.specs.Command.{told_of}
use Rattle.command_table.specs.HashCommands.{hash_rows}
use Rattle.command_table.specs.KeyCommands.{key_rows}
use Rattle.command_table.specs.ListCommands.{list_rows}
use Rattle.command_table.specs.Keyed.{IsKeyed, NamesKeys}
use Rattle.command_table.specs.KeySpan.{KeySpan, NoKeys, AllThereAre, Between, ToLastWord, stepped, keys_in}
use Rattle.command_table.specs.LocalCommands.{local_rows, ping_row}
use Rattle.command_table.specs.Reading.{rows, reading}
use Rattle.command_table.specs.CommandRow.{CommandRow, Reading, row_told, row_reading, reading_among, row_of}
use Rattle.command_table.specs.SetCommands.{set_rows}
use Rattle.command_table.specs.StringCommands.{string_rows}
use Rattle.command_table.specs.Telling.{KeysTold, All, These, named, is_all}
use Rattle.command_table.specs.Words.{Word, lower}
use Rattle.command_table.specs.declared.arity.Arity.{Arity}
use Rattle.command_table.specs.declared.arity.Arity.TheVariants.{Exactly, AtLeast}
use Rattle.command_table.specs.declared.command.Command.{Command}
use Rattle.command_table.specs.declared.command.Command.TheVariants as variant
use Rattle.command_table.specs.declared.command.Command.TheVariants.{Key, Str, Local}
use Rattle.command_table.specs.declared.local_commands.LocalCommand.TheVariants.{Ping, Echo}
use Rattle.command_table.specs.declared.refusal.Refusal.TheVariants as refusal
use Rattle.command_table.proofs.Tells.{Tells, AllTell, key_tell, string_tell, list_tell, hash_tell, set_tell}

nat_le_is : (a b : ℕ) → nat_le a b ≡ true → a ≤ b
nat_le_is a b h = grind (arith, nat_tests)

nat_lt_is : (a b : ℕ) → nat_lt a b ≡ true → a < b
nat_lt_is a b h = grind (arith, nat_tests)

-- the least number of words that are admitted
abbrev least : Arity → ℕ
least (Exactly n) = n
least (AtLeast n) = n

least-admitted : (a : Arity) (n : ℕ) → admits a n ≡ true → least a ≤ n
least-admitted (Exactly m) n h = grind (arith, nat_tests)
least-admitted (AtLeast m) n h = grind (arith, nat_tests)

-- a span takes a key of any so many words, or all keys
abbrev takes_a_key : KeySpan → ℕ → Bool
takes_a_key NoKeys n = false
takes_a_key AllThereAre n = true
takes_a_key (Between first last) n = nat_le first last && nat_lt first n
takes_a_key (ToLastWord first step) n = nat_lt first n

-- that of a row, by the least number of words that it admits
abbrev takes_keys : CommandRow → Bool
takes_keys r = takes_a_key r.keys (least r.arity)

-- all keys, or one at least
abbrev AreSome : KeysTold → Type 0
AreSome All = Unit {0}
AreSome (These keys) = 0 < length keys

stepped-some : (step : ℕ) (ws : List Word) → 0 < length ws → 0 < length (stepped step 0 ws)
stepped-some step [] h = absurd (omega arith)
stepped-some step (w ∷ ws) h = omega arith

length-drop_some : (n : ℕ) (ws : List Word) → n < length ws → 0 < length (drop n ws)
length-drop_some n ws h = search (arith, length-drop)

take-some : (n : ℕ) (ws : List Word) → 0 < n → 0 < length ws → 0 < length (take n ws)
take-some n [] some h = absurd (omega arith)
take-some zero (w ∷ ws) some h = absurd (omega arith)
take-some (suc n) (w ∷ ws) some h = omega arith

some-keys : (span : KeySpan) (n : ℕ) (ws : List Word) → takes_a_key span n ≡ true → n ≤ length ws → AreSome (keys_in span ws)
some-keys NoKeys n ws h within = absurd cc
some-keys AllThereAre n ws h within = tt
some-keys (Between first last) n ws h within =
    let parts = and_parts (nat_le first last) (nat_lt first n) h in
    let ordered = nat_le_is first last parts.0 in
    let there = nat_lt_is first n parts.1 in
    take-some (last + 1 - first) (drop first ws) (omega arith) (length-drop_some first ws (omega arith))
some-keys (ToLastWord first step) n ws h within =
    let there = nat_lt_is first n h in
    stepped-some step (drop first ws) (length-drop_some first ws (omega arith))

names-keys : (c : Command) (keys : KeysTold) → (told_of c).keys ≡ keys → AreSome keys → NamesKeys c
names-keys c All e some = inl (ap is_all e)
names-keys c (These keys) e some = inr (subst (λ t. 0 < length (named t)) (sym e) some)

names-told : (c : Command) → AreSome (told_of c).keys → NamesKeys c
names-told c some = names-keys c (told_of c).keys refl some

-- a command of which some keys are told names keys; one that looks at no key is told of none
keyed-told : (c : Command) → AreSome (told_of c).keys → IsKeyed c
keyed-told (Local (Ping word)) some = absurd (omega arith)
keyed-told (Local (Echo word)) some = absurd (omega arith)
keyed-told (Key c) some = names-told (Key c) some
keyed-told (Str c) some = names-told (Str c) some
keyed-told (variant.List c) some = names-told (variant.List c) some
keyed-told (variant.Hash c) some = names-told (variant.Hash c) some
keyed-told (variant.Set c) some = names-told (variant.Set c) some

keyed-read : (r : CommandRow) (ws : List Word) (read : Reading) → IfOk read (λ c. told_of c ≡ row_told r ([] ∷ ws)) →
    AreSome (keys_in r.keys ([] ∷ ws))
    → IfOk read IsKeyed
keyed-read r ws (Ok c) told some = keyed-told c (subst (λ t. AreSome t.keys) (sym told) some)
keyed-read r ws (Err refused) told some = tt

-- each command that the row reads is keyed
abbrev Keys : CommandRow → Type 0
Keys r = (ws : List Word) → admits r.arity (length ws + 1) ≡ true → IfOk (r.reading ws) IsKeyed

keys_of_row : (r : CommandRow) → Tells r → takes_keys r ≡ true → Keys r
keys_of_row r tells takes ws a = keyed-read r ws (r.reading ws) (tells [] ws a)
    (some-keys r.keys (least r.arity) ([] ∷ ws) takes (omega (arith, least-admitted r.arity (length ws + 1) a)))

abbrev AllKeyed : List CommandRow → Type 0
AllKeyed [] = Unit {0}
AllKeyed (r ∷ rs) = Keys r × AllKeyed rs

all_take_keys : (rs : List CommandRow) → AllTell rs → list_all takes_keys rs ≡ true → AllKeyed rs
all_take_keys [] tell takes = tt
all_take_keys (r ∷ rs) tell takes =
    let parts = and_parts (takes_keys r) (list_all takes_keys rs) takes in
    (keys_of_row r tell.0 parts.0, all_take_keys rs tell.1 parts.1)

-- the rows of commands that look at no key read such commands
ping_keyed : Keys ping_row
ping_keyed [] a = (refl, refl)
ping_keyed (w ∷ []) a = (refl, refl)
ping_keyed (w ∷ v ∷ ws) a = tt

AllKeyed-append : (rs qs : List CommandRow) → AllKeyed rs → AllKeyed qs → AllKeyed (rs ++ qs)
AllKeyed-append [] qs a b = b
AllKeyed-append (r ∷ rs) qs a b = (a.0, AllKeyed-append rs qs a.1 b)

all_keyed : AllKeyed rows
all_keyed =
    AllKeyed-append local_rows (key_rows ++ string_rows ++ list_rows ++ hash_rows ++ set_rows) (ping_keyed, ((λ ws a. (refl, refl)), tt))
    (AllKeyed-append key_rows (string_rows ++ list_rows ++ hash_rows ++ set_rows) (all_take_keys key_rows key_tell refl)
    (AllKeyed-append string_rows (list_rows ++ hash_rows ++ set_rows) (all_take_keys string_rows string_tell refl)
    (AllKeyed-append list_rows (hash_rows ++ set_rows) (all_take_keys list_rows list_tell refl)
    (AllKeyed-append hash_rows set_rows (all_take_keys hash_rows hash_tell refl) (all_take_keys set_rows set_tell refl)))))

keyed_by_row : (r : CommandRow) → Keys r → (ws : List Word) → IfOk (row_reading r ws) IsKeyed
keyed_by_row r keys ws =
    elim (admits r.arity (length ws + 1))
    as (λ b. admits r.arity (length ws + 1) ≡ b → IfOk (if b then r.reading ws else Err (refusal.Arity r.name)) IsKeyed)
    [ true ↦ λ a. keys ws a | false ↦ λ a. tt ] refl

keyed_among : (rs : List CommandRow) → AllKeyed rs → (n : Word) (ws : List Word) →
    IfOk (unwrap_or (reading_among rs n ws) (Err refusal.Unknown)) IsKeyed
keyed_among [] keys n ws = tt
keyed_among (r ∷ rs) keys n ws =
    elim (bytes_eq n r.name)
    as (λ b. IfOk (unwrap_or (option_map (λ x. row_reading x ws) (if b then Some r else row_of rs n)) (Err refusal.Unknown)) IsKeyed)
    [ true ↦ keyed_by_row r keys.0 ws | false ↦ keyed_among rs keys.1 n ws ]

-- the table reads keyed commands
keyed : (words : List Word) → IfOk (reading words) IsKeyed
keyed [] = tt
keyed (name ∷ ws) = keyed_among rows all_keyed (lower name) ws

pub keyed_if : (words : List Word) (read : Reading) → read ≡ reading words → IfOk read IsKeyed
keyed_if words read e = subst (λ r. IfOk r IsKeyed) (sym e) (keyed words)
