-- A command's effect is its case, since a case looks at the command's own keys alone; and what follows for two
-- commands.
use Rattle.std.proofs.Common.{◌≡◌, ℕ, List, Bool, true, false, cond, refl, ap, sym, ◌∙◌}
use Rattle.tasks.specs.Command.{case_of, effect_of, AnswersCommute, ContentsCommute}
use Rattle.tasks.specs.LocalCommand.{local_reply}
use Rattle.command_cases.proofs.Apart.{answers_commute, contents_commute}
use Rattle.command_cases.proofs.Local.{local-constant}
use Rattle.command_cases.specs.Case.{Case, IsLocal, one}
use Rattle.command_table.specs.Command.{keys_of, is_whole}
use Rattle.command_table.specs.declared.command.Command.{Command}
use Rattle.command_table.specs.declared.command.Command.TheVariants.{Key, Str, Hash, Local}
use Rattle.command_table.specs.declared.command.Command.TheVariants as variant
use Rattle.hash_commands.proofs.Local.{local-hash_command}
use Rattle.key_commands.proofs.Local.{local-key_command}
use Rattle.keyspace.specs.Map.{Map}
use Rattle.list_commands.proofs.Local.{local-list_command}
use Rattle.set_commands.proofs.Local.{local-set_command}
use Rattle.string_commands.proofs.Local.{local-string_command}

-- a case is taken on the whole map, or on the keys that it alone looks at
effect_of-local : (whole : Bool) (keys : List (List ℕ)) (case : Case) (m : Map) → (whole ≡ false → IsLocal keys case)
    → cond whole (case m) (one keys case m) ≡ case m
effect_of-local true keys case m local = refl
effect_of-local false keys case m local = local refl m

pub effect-case : (command : Command) (m : Map) → effect_of command m ≡ case_of command m
effect-case (Key c) m = effect_of-local (is_whole (Key c)) (keys_of (Key c)) (case_of (Key c)) m (local-key_command c)
effect-case (Str c) m = effect_of-local (is_whole (Str c)) (keys_of (Str c)) (case_of (Str c)) m (λ _. local-string_command c)
effect-case (variant.List c) m =
    effect_of-local (is_whole (variant.List c)) (keys_of (variant.List c)) (case_of (variant.List c)) m (λ _. local-list_command c)
effect-case (Hash c) m = effect_of-local (is_whole (Hash c)) (keys_of (Hash c)) (case_of (Hash c)) m (λ _. local-hash_command c)
effect-case (variant.Set c) m =
    effect_of-local (is_whole (variant.Set c)) (keys_of (variant.Set c)) (case_of (variant.Set c)) m (λ _. local-set_command c)
effect-case (Local c) m = effect_of-local (is_whole (Local c)) (keys_of (Local c)) (case_of (Local c)) m
    (λ _. local-constant (keys_of (Local c)) (local_reply c))

-- a command that is not for all keys takes its part
effect_part : (command : Command) (m : Map) → is_whole command ≡ false → effect_of command m ≡ one (keys_of command) (case_of command) m
effect_part command m h = ap (λ b. cond b (case_of command m) (one (keys_of command) (case_of command) m)) h

pub commands_answer : AnswersCommute
commands_answer a b m not_a not_b apart =
    let part_b = one (keys_of b) (case_of b) in
    ap (λ r. r.1) (effect_part b (effect_of a m).0 not_b)
    ∙ ap (λ r. (part_b r.0).1) (effect_part a m not_a)
    ∙ answers_commute (keys_of a) (keys_of b) (case_of a) (case_of b) m apart
    ∙ ap (λ r. r.1) (sym (effect_part b m not_b))

pub commands_leave : ContentsCommute
commands_leave a b m not_a not_b apart =
    let part_a = one (keys_of a) (case_of a) in
    let part_b = one (keys_of b) (case_of b) in
    ap (λ r. r.0) (effect_part b (effect_of a m).0 not_b)
    ∙ ap (λ r. (part_b r.0).0) (effect_part a m not_a)
    ∙ contents_commute (keys_of a) (keys_of b) (case_of a) (case_of b) m apart
    ∙ ap (λ r. (part_a r.0).0) (sym (effect_part b m not_b))
    ∙ ap (λ r. r.0) (sym (effect_part a (effect_of b m).0 not_a))
