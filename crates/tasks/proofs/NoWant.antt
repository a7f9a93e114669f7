-- Replies that don't say that there was no memory.
use Rattle.std.proofs.Common.{◌≡◌, Bool, true, false, if◌then◌else◌, List, Option, Some, None, refl}
use Rattle.command_cases.specs.Replies.{truth}
use Rattle.resp.specs.Content.{Content, text_or_null}
use Rattle.tasks.specs.Starved.{is_want}

abbrev pub IsNoWant : Content → Type 0
IsNoWant reply = is_want reply ≡ false

pub no_want-truth : (so : Bool) → IsNoWant (truth so)
no_want-truth true = refl
no_want-truth false = refl

pub no_want-text : (text : Option (List _)) → IsNoWant (text_or_null text)
no_want-text None = refl
no_want-text (Some text) = refl

-- whichever of two answers is given
pub no_want-chosen : {A : Type 0} (which : Bool) (one other : A × Content) → IsNoWant one.1 → IsNoWant other.1
    → IsNoWant (if which then one else other).1
no_want-chosen true one other first second = first
no_want-chosen false one other first second = second
