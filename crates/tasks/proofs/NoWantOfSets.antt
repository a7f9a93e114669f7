-- No command on sets says that there was no memory.
use Rattle.std.proofs.Common.{Bool, List, [], Option, Some, None, refl}
use Rattle.std.specs.FinMap.{get}
use Rattle.std.specs.Option.{option_map}
use Rattle.std.specs.Str.{bytes_eq}
use Rattle.command_cases.specs.Shapes.{values_at}
use Rattle.command_table.specs.declared.set_commands.SetCommand.{SetCommand}
use Rattle.command_table.specs.declared.set_commands.SetCommand.TheVariants.{Sadd, Srem, Sismember, Smismember, Scard, Smembers, Smove}
use Rattle.command_table.specs.declared.set_commands.SetCommand.TheVariants.{Sinter, Sunion, Sdiff, Sinterstore, Sunionstore, Sdiffstore}
use Rattle.keyspace.specs.Map.{Map}
use Rattle.resp.specs.Content.{Content}
use Rattle.set_commands.specs.Combination.{Members, intersection, union, difference}
use Rattle.set_commands.specs.SetCommand.{at_set, sismember_answer, move_member, smove_step, members_there, members_or_wrong}
use Rattle.set_commands.specs.SetCommand.{stored, sets_at}
use Rattle.set_commands.specs.SetCommand.{looks_at_set, changes_set, sadd_change, srem_change, smismember_answer, scard_answer}
use Rattle.set_commands.specs.SetCommand.{smembers_answer, set_command_case}
use Rattle.texts.specs.Texts.{Bytes}
use Rattle.values.specs.SetValue.{is_member}
use Rattle.values.specs.Value.{set_value}
use Rattle.values.specs.declared.Value.{Value}
use Rattle.values.specs.declared.Value.TheVariants as kind
use Rattle.tasks.proofs.NoWant.{IsNoWant, no_want-truth, no_want-chosen}

at_set_none : (step : Members → Option Value → Option Value × Content)
    → ((members : Members) (before : Option Value) → IsNoWant (step members before).1)
    → (there : Option Value) → IsNoWant (at_set step there).1
at_set_none step none None = none [] None
at_set_none step none (Some (kind.Set members)) = none members (Some (kind.Set members))
at_set_none step none (Some (kind.Str text)) = refl
at_set_none step none (Some (kind.List items)) = refl
at_set_none step none (Some (kind.Hash pairs)) = refl

move_member_none : (same : Bool) (member : Bytes) (members : Members) (target : Option Value) (others : Option Members)
    → IsNoWant (move_member same member members target others).1
move_member_none same member members target None = refl
move_member_none same member members target (Some others) = no_want-chosen (is_member members member) _ _ refl refl

move_none : (same : Bool) (member : Bytes) (from target : Option Value) → IsNoWant (smove_step same member from target).1
move_none same member None target = refl
move_none same member (Some (kind.Set members)) target = move_member_none same member members target (members_there target)
move_none same member (Some (kind.Str text)) target = refl
move_none same member (Some (kind.List items)) target = refl
move_none same member (Some (kind.Hash pairs)) target = refl

members_none : (members : Option Members) → IsNoWant (members_or_wrong members)
members_none None = refl
members_none (Some members) = refl

looks_none : (answer : Members → Content) → ((members : Members) → IsNoWant (answer members)) → (there : Option Value)
    → IsNoWant (looks_at_set answer there).1
looks_none answer none there = at_set_none (λ members before. (before, answer members)) (λ members before. none members) there

changes_none : (change : Members → Members × Content) → ((members : Members) → IsNoWant (change members).1) → (there : Option Value)
    → IsNoWant (changes_set change there).1
changes_none change none there =
    at_set_none (λ members before. (set_value (change members).0, (change members).1)) (λ members before. none members) there

combined_none : (combine : List Members → Members) (values : List (Option Value))
    → IsNoWant (members_or_wrong (option_map combine (sets_at values)))
combined_none combine values = members_none (option_map combine (sets_at values))

stored_none : (target : Option Value) (members : Option Members) → IsNoWant (stored target members).1
stored_none target None = refl
stored_none target (Some members) = refl

stored_step_none : (combine : List Members → Members) (target : Option Value) (values : List (Option Value))
    → IsNoWant (stored target (option_map combine (sets_at values))).1
stored_step_none combine target values = stored_none target (option_map combine (sets_at values))

pub no_want-set_command : (c : SetCommand) (m : Map) → IsNoWant (set_command_case c m).1
no_want-set_command (Sadd key members) m = changes_none (sadd_change members) (λ there. refl) (get m key)
no_want-set_command (Srem key members) m = changes_none (srem_change members) (λ there. refl) (get m key)
no_want-set_command (Sismember key member) m =
    looks_none (sismember_answer member) (λ members. no_want-truth (is_member members member)) (get m key)
no_want-set_command (Smismember key members) m = looks_none (smismember_answer members) (λ there. refl) (get m key)
no_want-set_command (Scard key) m = looks_none scard_answer (λ members. refl) (get m key)
no_want-set_command (Smembers key) m = looks_none smembers_answer (λ members. refl) (get m key)
no_want-set_command (Smove from to member) m = move_none (bytes_eq from to) member (get m from) (get m to)
no_want-set_command (Sinter keys) m = combined_none intersection (values_at m keys)
no_want-set_command (Sunion keys) m = combined_none union (values_at m keys)
no_want-set_command (Sdiff keys) m = combined_none difference (values_at m keys)
no_want-set_command (Sinterstore target sources) m = stored_step_none intersection (get m target) (values_at m sources)
no_want-set_command (Sunionstore target sources) m = stored_step_none union (get m target) (values_at m sources)
no_want-set_command (Sdiffstore target sources) m = stored_step_none difference (get m target) (values_at m sources)
