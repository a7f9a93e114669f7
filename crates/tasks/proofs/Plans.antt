-- A command that is run by a plan for its text: the plan is one for its effect, and what follows where it starves and where
-- its text is written.
use Rattle.std.proofs.Common.{◌≡◌, ℕ, ◌<◌, ◌≤◌, length, Result, Ok, Err, IsErr, arith, ap, subst, sym, ◌∙◌}
use Rattle.tasks.proofs.Effects.{effect-case}
use Rattle.tasks.specs.CommandAnswer.{reply_of}
use Rattle.tasks.specs.Command.{case_of, effect_of}
use Rattle.command_cases.specs.Case.{Case, Does}
use Rattle.command_cases.specs.TextPlan.{IsPlanFor}
use Rattle.command_cases.specs.declared.text_plan.TextPlan.{TextPlan}
use Rattle.command_cases.specs.declared.text_plan.TextPlan.TheVariants.{Never, After, Before}
use Rattle.command_table.specs.declared.command.Command.{Command}
use Rattle.keyspace.specs.Map.{Map}
use Rattle.resp.specs.Content.{content}
use Rattle.resp.specs.LongText.{IsLong, IsShort}
use Rattle.resp.specs.Text.{text, reply_text}
use Rattle.resp.specs.declared.answered.Answered.{Answered}
use Rattle.resp.specs.declared.answered.TheConstants.{LONG}
use Rattle.resp.specs.declared.reply.Reply.{Reply}

pub plan-effect : (command : Command) (m : Map) (plan : TextPlan) → IsPlanFor (case_of command) m plan
    → IsPlanFor (effect_of command) m plan
plan-effect command m Never short = subst (λ r. IsShort r.1) (sym (effect-case command m)) short
plan-effect command m After leaves = ap (λ r. r.0) (effect-case command m) ∙ leaves
plan-effect command m (Before size) has = ap (λ r. length (text r.1)) (effect-case command m) ∙ has

-- where nothing was answered the map is as it was
pub starved-does : {E : Type 0} (case : Case) (old new : Map) (result : Result Answered E) → IsErr result → new ≡ old
    → Does case old new (reply_of result)
starved-does case old new (Ok answered) none same = absurd (let f = none in cc)
starved-does case old new (Err fault) none same = same

pub unanswered-does : {E : Type 0} (case : Case) (old new : Map) (result : Result Reply E) → IsErr result → new ≡ old
    → Does case old new result
unanswered-does case old new (Ok reply) none same = absurd (let f = none in cc)
unanswered-does case old new (Err fault) none same = same

-- what is answered by a plan for no text is short
pub answer-short : (case : Case) (old new : Map) (reply : Reply) → IsShort (case old).1 → (new, content reply) ≡ case old
    → IsShort (content reply)
answer-short case old new reply short done = subst IsShort (sym (ap (λ r. r.1) done)) short

-- a text of the planned size is long where that size is
pub planned-long : (case : Case) (m : Map) (size : ℕ) → length (text (case m).1) ≡ size → LONG < size → IsLong (case m).1
planned-long case m size has long = omega (arith, has, long)

-- what is answered by a plan for a text of this size has it
pub planned-size : (case : Case) (old new : Map) (size : ℕ) (reply : Reply) → length (text (case old).1) ≡ size
    → (new, content reply) ≡ case old → length (reply_text reply) ≡ size
planned-size case old new size reply has done = ap (λ r. length (text r.1)) done ∙ has

-- a block of the planned size has room for the text
pub text-fits : (case : Case) (old new : Map) (size room : ℕ) (reply : Reply) → length (text (case old).1) ≡ size
    → (new, content reply) ≡ case old → (LONG < size → size ≤ room) → LONG < length (reply_text reply)
    → length (reply_text reply) ≤ room
text-fits case old new size room reply has done has_room long =
    let same : length (reply_text reply) ≡ length (text (case old).1) = ap (λ r. length (text r.1)) done in
    let room_is : size ≤ room = has_room (omega (arith, same, has, long)) in
    omega (arith, same, has, room_is)
