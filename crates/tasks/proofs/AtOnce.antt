-- A batch that looks at no key: its members do not either, and leave a map without keys.
use Rattle.std.proofs.Common.{◌≡◌, inl, inr, ℕ, suc, ◌||◌, Bool, true, false, List, [], ◌∷◌, ◌++◌, length}
use Rattle.std.proofs.Common.{refl, ap, ◌∙◌, arith}
use Rattle.std.proofs.lemmas.Bool.{both_ways}
use Rattle.std.specs.FinMap.{empty}
use Rattle.std.specs.List.{flat_map, list_any}
use Rattle.tasks.proofs.Effects.{effect-case}
use Rattle.tasks.specs.Command.{effect_of}
use Rattle.command_table.specs.Command.{keys_of, is_whole}
use Rattle.command_table.specs.Keyed.{NamesKeys}
use Rattle.command_table.specs.Words.{Word}
use Rattle.command_table.specs.declared.command.Command.{Command}
use Rattle.command_table.specs.declared.command.Command.TheVariants as command
use Rattle.sessions.specs.Member.{IsKeyedMember, AreKeyed}
use Rattle.sessions.specs.declared.member.Member.{Member}
use Rattle.sessions.specs.declared.member.Member.TheVariants.{Runs, Refused}
use Rattle.tasks.specs.AtOnce.{IsKeylessCommand, IsKeylessMember, AreKeyless, replies_at_once}
use Rattle.tasks.specs.Batch.{members_from}
use Rattle.tasks.specs.Keys.{member_keys, member_whole, names_some}
use Rattle.tasks.specs.Member.{member_case}

neither : (a b : Bool) → (a || b) ≡ false → (a ≡ false) × (b ≡ false)
neither true b h = absurd (let k = h in cc)
neither false b h = (refl, h)

none_named : (keys : List Word) → names_some keys ≡ false → keys ≡ []
none_named [] none = refl
none_named (key ∷ keys) none = absurd (let k = none in cc)

-- where some keys and others are none, each are
none_in_both : (keys others : List Word) → names_some (keys ++ others) ≡ false → (keys ≡ []) × (names_some others ≡ false)
none_in_both [] others none = (refl, none)
none_in_both (key ∷ keys) others none = absurd (let k = none in cc)

keyless_member : (member : Member) → member_whole member ≡ false → member_keys member ≡ [] → IsKeyedMember member → IsKeylessMember member
keyless_member (Runs c) part none keyed = record { none = none; part = part; keyed = keyed }
keyless_member (Refused misread) part none keyed = tt

pub keyless_members : (members : List Member) → list_any member_whole members ≡ false
    → names_some (flat_map member_keys members) ≡ false → AreKeyed members → AreKeyless members
keyless_members [] part none keyed = tt
keyless_members (member ∷ members) part none keyed =
    let whole = neither (member_whole member) (list_any member_whole members) part in
    let keys = none_in_both (member_keys member) (flat_map member_keys members) none in
    (keyless_member member whole.0 keys.0 keyed.0, keyless_members members whole.1 keys.1 keyed.1)

-- so of an EXEC
pub keyless-exec : (members : List Member) → (list_any member_whole members || names_some (flat_map member_keys members)) ≡ false
    → AreKeyed members → AreKeyless members
keyless-exec members keyless keyed =
    let both = neither (list_any member_whole members) (names_some (flat_map member_keys members)) keyless in
    keyless_members members both.0 both.1 keyed

-- a command of another family names keys or is for all
names_none : (c : Command) → NamesKeys c → keys_of c ≡ [] → is_whole c ≡ false → ⊥
names_none c (inl whole) none part = both_ways _ part whole
names_none c (inr some) none part = let e = ap length none in omega (arith, e, some)

left_empty : (c : Command) → IsKeylessCommand c → (effect_of c empty).0 ≡ empty
left_empty (command.Local c) keyless = ap (λ v. v.0) (effect-case (command.Local c) empty)
left_empty (command.Key c) keyless = absurd (names_none (command.Key c) keyless.keyed keyless.none keyless.part)
left_empty (command.Str c) keyless = absurd (names_none (command.Str c) keyless.keyed keyless.none keyless.part)
left_empty (command.List c) keyless = absurd (names_none (command.List c) keyless.keyed keyless.none keyless.part)
left_empty (command.Hash c) keyless = absurd (names_none (command.Hash c) keyless.keyed keyless.none keyless.part)
left_empty (command.Set c) keyless = absurd (names_none (command.Set c) keyless.keyed keyless.none keyless.part)

member_leaves : (member : Member) → IsKeylessMember member → (member_case member empty).0 ≡ empty
member_leaves (Runs c) keyless = left_empty c keyless
member_leaves (Refused misread) keyless = refl

-- each answers what it answers alone
pub answered_at_once : (n : ℕ) (members : List Member) → AreKeyless members → (members_from [] n members empty).1 ≡ replies_at_once members
answered_at_once n [] keyless = refl
answered_at_once n (member ∷ members) keyless =
    ap (λ m. (member_case member empty).1 ∷ (members_from [] (suc n) members m).1) (member_leaves member keyless.0)
    ∙ ap (λ replies. (member_case member empty).1 ∷ replies) (answered_at_once (suc n) members keyless.1)
