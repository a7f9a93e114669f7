-- Replies that many commands give are short by their kind. A count is so by computation, and a case of one key where what
-- its step answers is.
use Rattle.std.proofs.Common.{Bool, true, false, if◌then◌else◌, arith}
use Rattle.command_cases.specs.Replies.{ok, truth, wrong_type, no_such_key, would_overflow}
use Rattle.resp.specs.Content.{Content}
use Rattle.resp.specs.LongText.{IsShort}

pub short-ok : IsShort ok
short-ok = omega arith

pub short-truth : (so : Bool) → IsShort (truth so)
short-truth true = tt
short-truth false = tt

pub short-wrong_type : IsShort wrong_type
short-wrong_type = omega arith

pub short-no_such_key : IsShort no_such_key
short-no_such_key = omega arith

pub short-would_overflow : IsShort would_overflow
short-would_overflow = omega arith

-- whichever of two answers is given
pub short-chosen : {A : Type 0} (which : Bool) (one other : A × Content) → IsShort one.1 → IsShort other.1
    → IsShort (if which then one else other).1
short-chosen true one other first second = first
short-chosen false one other first second = second
