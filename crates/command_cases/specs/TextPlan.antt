-- When the memory for a reply's text is taken, so that a request that finds none has not happened.
use Rattle.std.specs.Prelude.{◌≡◌, length}
use Rattle.command_cases.specs.Case.{Case}
use Rattle.command_cases.specs.declared.text_plan.TextPlan.{TextPlan}
use Rattle.command_cases.specs.declared.text_plan.TextPlan.TheVariants.{Never, After, Before}
use Rattle.keyspace.specs.Map.{Map}
use Rattle.resp.specs.LongText.{IsShort}
use Rattle.resp.specs.Text.{text}

-- a case that is run by this plan keeps a long text, and can starve for it: never, since its reply is short; after it,
-- since it leaves the map; before it, since its text has just this number of bytes
abbrev pub IsPlanFor : Case → Map → TextPlan → Type 0
IsPlanFor case m Never = IsShort (case m).1
IsPlanFor case m After = (case m).0 ≡ m
IsPlanFor case m (Before size) = length (text (case m).1) ≡ size
