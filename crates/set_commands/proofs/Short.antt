-- That each command on sets answers short, but for those that answer an array.
use Rattle.std.proofs.Common.{◌≡◌, Bool, List, Option, Some, None, refl}
use Rattle.std.specs.FinMap.{get}
use Rattle.std.specs.Option.{option_map}
use Rattle.std.specs.Str.{bytes_eq}
use Rattle.command_cases.proofs.Short.{short-truth, short-wrong_type, short-chosen}
use Rattle.command_cases.specs.Shapes.{values_at}
use Rattle.command_table.specs.declared.set_commands.SetCommand.{SetCommand}
use Rattle.command_table.specs.declared.set_commands.SetCommand.TheVariants.{Sadd, Srem, Sismember, Smismember, Scard, Smembers, Smove}
use Rattle.command_table.specs.declared.set_commands.SetCommand.TheVariants.{Sinter, Sunion, Sdiff, Sinterstore, Sunionstore, Sdiffstore}
use Rattle.keyspace.specs.Map.{Map}
use Rattle.resp.specs.Content.{Content}
use Rattle.resp.specs.LongText.{IsShort}
use Rattle.set_commands.specs.Combination.{Members, combined}
use Rattle.set_commands.specs.SetCommand.{at_set, looks_at_set, changes_set, scard_answer, sismember_answer, sadd_change, srem_change}
use Rattle.set_commands.specs.SetCommand.{members_there, move_member, smove_step, sets_at, stored, stored_step, set_command_case}
use Rattle.set_commands.specs.declared.combine.Combination.{Combination}
use Rattle.set_commands.specs.declared.combine.Combination.TheVariants.{Intersection, Union, Difference}
use Rattle.texts.specs.Texts.{Bytes}
use Rattle.values.specs.SetValue.{is_member}
use Rattle.values.specs.Value.{set_value}
use Rattle.values.specs.declared.Value.{Value}
use Rattle.values.specs.declared.Value.TheVariants as kind

short-at_set : (step : Members → Option Value → Option Value × Content)
    → ((members : Members) (before : Option Value) → IsShort (step members before).1) → (there : Option Value)
    → IsShort (at_set step there).1
short-at_set step short None = short _ None
short-at_set step short (Some (kind.Set members)) = short members _
short-at_set step short (Some (kind.Str text)) = short-wrong_type
short-at_set step short (Some (kind.List items)) = short-wrong_type
short-at_set step short (Some (kind.Hash pairs)) = short-wrong_type

short-looks : (answer : Members → Content) → ((members : Members) → IsShort (answer members)) → (there : Option Value)
    → IsShort (looks_at_set answer there).1
short-looks answer short = short-at_set (λ members before. (before, answer members)) (λ members before. short members)

short-changes : (change : Members → Members × Content) → ((members : Members) → IsShort (change members).1) → (there : Option Value)
    → IsShort (changes_set change there).1
short-changes change short =
    short-at_set (λ members before. (set_value (change members).0, (change members).1)) (λ members before. short members)

short-moved : (same : Bool) (member : Bytes) (members : Members) (target : Option Value) (others : Option Members)
    → IsShort (move_member same member members target others).1
short-moved same member members target None = short-wrong_type
short-moved same member members target (Some others) = short-chosen (is_member members member) _ _ tt tt

short-smove : (same : Bool) (member : Bytes) (from to : Option Value) → IsShort (smove_step same member from to).1
short-smove same member None target = tt
short-smove same member (Some (kind.Set members)) target = short-moved same member members target (members_there target)
short-smove same member (Some (kind.Str text)) target = short-wrong_type
short-smove same member (Some (kind.List items)) target = short-wrong_type
short-smove same member (Some (kind.Hash pairs)) target = short-wrong_type

short-stored : (target : Option Value) (members : Option Members) → IsShort (stored target members).1
short-stored target None = short-wrong_type
short-stored target (Some members) = tt

short-combined : (how : Combination) (target : Option Value) (values : List (Option Value)) → IsShort (stored_step how target values).1
short-combined how target values = short-stored target (option_map (combined how) (sets_at values))

-- every command that isn't one of these five
pub answers_short : (c : SetCommand) (m : Map) → ((key : Bytes) (members : List Bytes) → c ≡ Smismember key members → ⊥)
    → ((key : Bytes) → c ≡ Smembers key → ⊥) → ((keys : List Bytes) → c ≡ Sinter keys → ⊥)
    → ((keys : List Bytes) → c ≡ Sunion keys → ⊥)
    → ((keys : List Bytes) → c ≡ Sdiff keys → ⊥) → IsShort (set_command_case c m).1
answers_short (Smismember key members) m smismember _ _ _ _ = absurd (smismember key members refl)
answers_short (Smembers key) m _ smembers _ _ _ = absurd (smembers key refl)
answers_short (Sinter keys) m _ _ sinter _ _ = absurd (sinter keys refl)
answers_short (Sunion keys) m _ _ _ sunion _ = absurd (sunion keys refl)
answers_short (Sdiff keys) m _ _ _ _ sdiff = absurd (sdiff keys refl)
answers_short (Sadd key members) m _ _ _ _ _ = short-changes (sadd_change members) (λ there. tt) (get m key)
answers_short (Srem key members) m _ _ _ _ _ = short-changes (srem_change members) (λ there. tt) (get m key)
answers_short (Sismember key member) m _ _ _ _ _ =
    short-looks (sismember_answer member) (λ there. short-truth (is_member there member)) (get m key)
answers_short (Scard key) m _ _ _ _ _ = short-looks scard_answer (λ there. tt) (get m key)
answers_short (Smove from to member) m _ _ _ _ _ = short-smove (bytes_eq from to) member (get m from) (get m to)
answers_short (Sinterstore target sources) m _ _ _ _ _ = short-combined Intersection (get m target) (values_at m sources)
answers_short (Sunionstore target sources) m _ _ _ _ _ = short-combined Union (get m target) (values_at m sources)
answers_short (Sdiffstore target sources) m _ _ _ _ _ = short-combined Difference (get m target) (values_at m sources)
