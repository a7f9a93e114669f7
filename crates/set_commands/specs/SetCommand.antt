-- What the commands on sets do, by the Redis command reference. A set is the ascending list of its members; a key that
-- is missing counts as a set with no members.
use Rattle.std.specs.Prelude.{◌-◌, ◌<◌, Bool, true, false, List, [], ◌∷◌, map, length, Option, Some, None, IsSome, IsTrue, ⊤, if◌then◌else◌}
use Rattle.std.specs.FinMap.{get}
use Rattle.std.specs.Option.{option_map}
use Rattle.std.specs.Str.{bytes_eq}
use Rattle.command_cases.specs.Case.{Case, Step, at_key}
use Rattle.command_cases.specs.Replies.{count, truth, wrong_type}
use Rattle.command_cases.specs.Shapes.{StepOfTwo, at_two, at_each, at_target}
use Rattle.command_table.specs.declared.set_commands.SetCommand.{SetCommand}
use Rattle.command_table.specs.declared.set_commands.SetCommand.TheVariants.{Sadd, Srem, Sismember, Smismember, Scard, Smembers, Smove}
use Rattle.command_table.specs.declared.set_commands.SetCommand.TheVariants.{Sinter, Sunion, Sdiff, Sinterstore, Sunionstore, Sdiffstore}
use Rattle.keyspace.specs.Map.{Map}
use Rattle.resp.specs.Content.{Content, BulkText, Several, contents}
use Rattle.set_commands.specs.Combination.{Members, found_members, combined}
use Rattle.set_commands.specs.declared.combine.Combination.{Combination}
use Rattle.set_commands.specs.declared.combine.Combination.TheVariants.{Intersection, Union, Difference}
use Rattle.texts.specs.Texts.{Bytes}
use Rattle.values.specs.SetValue.{is_member, with_member, with_members, without_member, without_members}
use Rattle.values.specs.Value.{set_value}
use Rattle.values.specs.declared.Value.{Value}
use Rattle.values.specs.declared.Value.TheVariants as kind

-- a command that wants a set: what it does is by the members, and by what the key has, which it may keep. A value of
-- another kind stays, and the answer is that it is of the wrong kind
abbrev pub at_set : (Members → Option Value → Option Value × Content) → Step
at_set step None = step [] None
at_set step (Some (kind.Set members)) = step members (Some (kind.Set members))
at_set step (Some (kind.Str text)) = (Some (kind.Str text), wrong_type)
at_set step (Some (kind.List items)) = (Some (kind.List items), wrong_type)
at_set step (Some (kind.Hash pairs)) = (Some (kind.Hash pairs), wrong_type)

-- a command that looks at a set: the key keeps what it has, and the answer is by the members
abbrev pub looks_at_set : (Members → Content) → Step
looks_at_set answer = at_set (λ members before. (before, answer members))

-- a command that leaves other members; where none are left the key goes
abbrev pub changes_set : (Members → Members × Content) → Step
changes_set change = at_set (λ members before. (set_value (change members).0, (change members).1))

-- several texts
abbrev pub bulk_texts : List Bytes → Content
bulk_texts texts = Several (contents (map BulkText texts))

-- SCARD: how many members there are
abbrev pub scard_answer : Members → Content
scard_answer members = count (length members)

-- SISMEMBER: whether it is a member
abbrev pub sismember_answer : Bytes → Members → Content
sismember_answer member members = truth (is_member members member)

-- SMISMEMBER: whether each of these is a member, in order of the words
abbrev pub smismember_answer : List Bytes → Members → Content
smismember_answer asked members = Several (contents (map (λ member. sismember_answer member members) asked))

-- SMEMBERS: the members, ascending
abbrev pub smembers_answer : Members → Content
smembers_answer members = bulk_texts members

-- SADD: the members with these, and how many are new
abbrev pub sadd_change : List Bytes → Members → Members × Content
sadd_change more members = (with_members members more, count (length (with_members members more) - length members))

-- SREM: the members without these, and how many were removed
abbrev pub srem_change : List Bytes → Members → Members × Content
srem_change gone members = (without_members members gone, count (length members - length (without_members members gone)))

-- the members at a key, where it is missing or holds a set
abbrev pub members_there : Option Value → Option Members
members_there None = Some []
members_there (Some (kind.Set members)) = Some members
members_there (Some (kind.Str text)) = None
members_there (Some (kind.List items)) = None
members_there (Some (kind.Hash pairs)) = None

-- the members at a key; none where it holds a value of another kind
abbrev pub some_members : Option Value → Members
some_members before = found_members (members_there before)

-- whether there is a set
abbrev pub is_set : Option Value → Bool
is_set None = false
is_set (Some (kind.Set members)) = true
is_set (Some (kind.Str text)) = false
is_set (Some (kind.List items)) = false
is_set (Some (kind.Hash pairs)) = false

-- SMOVE from a set with these members, by the members at the target, unless it holds a value of another kind: the
-- member goes from the one to the other, where both are one key it stays; whether it was there
abbrev pub move_member : Bool → Bytes → Members → Option Value → Option Members → (Option Value × Option Value) × Content
move_member same member members target None = ((Some (kind.Set members), target), wrong_type)
move_member same member members target (Some others) =
    if is_member members member then (
      (if same then (Some (kind.Set members), target)
          else (set_value (without_member members member), Some (kind.Set (with_member others member)))),
      truth true,
    )
    else ((Some (kind.Set members), target), truth false)

-- SMOVE: the source is looked at first, and where it is missing the target isn't looked at
abbrev pub smove_step : Bool → Bytes → StepOfTwo
smove_step same member None target = ((None, target), truth false)
smove_step same member (Some (kind.Set members)) target = move_member same member members target (members_there target)
smove_step same member (Some (kind.Str text)) target = ((Some (kind.Str text), target), wrong_type)
smove_step same member (Some (kind.List items)) target = ((Some (kind.List items), target), wrong_type)
smove_step same member (Some (kind.Hash pairs)) target = ((Some (kind.Hash pairs), target), wrong_type)

-- the members of one set before those of others, where no key holds a value of another kind
abbrev pub before_sets : Option Members → Option (List Members) → Option (List Members)
before_sets None sets = None
before_sets (Some members) None = None
before_sets (Some members) (Some sets) = Some (members ∷ sets)

-- the sets at some keys; none where one of them holds a value of another kind
abbrev pub sets_at : List (Option Value) → Option (List Members)
sets_at [] = Some []
sets_at (value ∷ values) = before_sets (members_there value) (sets_at values)

-- members as an array, or that a key holds a value of another kind
abbrev pub members_or_wrong : Option Members → Content
members_or_wrong None = wrong_type
members_or_wrong (Some members) = bulk_texts members

-- SINTER, SUNION, SDIFF: the members of the combination
abbrev pub combined_answer : Combination → List (Option Value) → Content
combined_answer how values = members_or_wrong (option_map (combined how) (sets_at values))

-- members stored at a target, which goes where there are none; it stays where a key holds a value of another kind
abbrev pub stored : Option Value → Option Members → Option Value × Content
stored target None = (target, wrong_type)
stored target (Some members) = (set_value members, count (length members))

-- SINTERSTORE, SUNIONSTORE, SDIFFSTORE: the combination of the sources is at the target, whatever was there; how many
-- members it has
abbrev pub stored_step : Combination → Option Value → List (Option Value) → Option Value × Content
stored_step how target values = stored target (option_map (combined how) (sets_at values))

abbrev pub set_command_case : SetCommand → Case
set_command_case (Sadd key members) = at_key key (changes_set (sadd_change members))
set_command_case (Srem key members) = at_key key (changes_set (srem_change members))
set_command_case (Sismember key member) = at_key key (looks_at_set (sismember_answer member))
set_command_case (Smismember key members) = at_key key (looks_at_set (smismember_answer members))
set_command_case (Scard key) = at_key key (looks_at_set scard_answer)
set_command_case (Smembers key) = at_key key (looks_at_set smembers_answer)
set_command_case (Smove from to member) = at_two from to (smove_step (bytes_eq from to) member)
set_command_case (Sinter keys) = at_each keys (combined_answer Intersection)
set_command_case (Sunion keys) = at_each keys (combined_answer Union)
set_command_case (Sdiff keys) = at_each keys (combined_answer Difference)
set_command_case (Sinterstore target sources) = at_target target sources (stored_step Intersection)
set_command_case (Sunionstore target sources) = at_target target sources (stored_step Union)
set_command_case (Sdiffstore target sources) = at_target target sources (stored_step Difference)

-- where a command on sets takes memory: for a set that grows, for an array of replies, for copies of the members that
-- it answers, for a list of the sets that are combined
abbrev pub SetCommandTakesMemory : SetCommand → Map → Type 0
SetCommandTakesMemory (Sadd key members) m = IsSome (members_there (get m key))
SetCommandTakesMemory (Srem key members) m = ⊥
SetCommandTakesMemory (Sismember key member) m = ⊥
SetCommandTakesMemory (Smismember key members) m = IsSome (members_there (get m key))
SetCommandTakesMemory (Scard key) m = ⊥
SetCommandTakesMemory (Smembers key) m = 0 < length (some_members (get m key))
SetCommandTakesMemory (Smove from to member) m = IsTrue (is_set (get m from))
SetCommandTakesMemory (Sinter keys) m = ⊤
SetCommandTakesMemory (Sunion keys) m = ⊤
SetCommandTakesMemory (Sdiff keys) m = ⊤
SetCommandTakesMemory (Sinterstore target sources) m = ⊤
SetCommandTakesMemory (Sunionstore target sources) m = ⊤
SetCommandTakesMemory (Sdiffstore target sources) m = ⊤
