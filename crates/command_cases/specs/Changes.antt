-- What a body does to a value that it changes where it lies.
use Rattle.std.specs.Prelude.{◌≡◌, Option, Some, Result, MatchResult}
use Rattle.command_cases.specs.Case.{Step}
use Rattle.resp.specs.Content.{Content, content}
use Rattle.resp.specs.declared.reply.Reply.{Reply}
use Rattle.values.specs.declared.Value.{Value}

-- the value is what the step leaves, and the answer what it says; or nothing was answered, and the value stayed
abbrev pub Changes : {E : Type 0} → Step → Value → Value → Result Reply E → Type 0
Changes step old new result = MatchResult result
    (λ reply. ◌≡◌ {A = Option Value × Content} (Some new, content reply) (step (Some old))) (λ _. new ≡ old)
