-- A trace that may be kept, or none: it stays that of the steps.
use Rattle.std.proofs.Common.{◌≡◌, ℕ, ◌+◌, ◌≤◌, List, [], ◌∷◌, ◌++◌, length, Option, Some, None, refl, sym, ap, ◌∙◌, arith, append_assoc}
use Rattle.std.proofs.Common.{append-nil, length-append}
use Rattle.std.proofs.lemmas.List.{nil_from_length}
use mathlib.Core.List.{IsPrefix}
use Rattle.cluster.proofs.Numbers.{same_begin}
use Rattle.cluster.specs.Traces.{AreBehind, IsTraceOf, HasRoom, SameTrace, IsPushed, LeavesRoom, IsHandedOn}
use Rattle.cluster.specs.declared.tape.Tape.{Tape}
use Rattle.journal.specs.Codes.{step_size}
use Rattle.journal.specs.Views.{TraceView}
use Rattle.journal.specs.declared.step.Step.{Step}

pub trace_pushed : (old new : Option Tape) (steps : List Step) (step : Step) (most now : ℕ) → IsPushed old step new → now ≡ most →
    IsTraceOf old steps most → IsTraceOf new (steps ++ step ∷ []) now
trace_pushed None None steps step most now pushed same is = tt
trace_pushed (Some old) (Some new) steps step most now pushed same is = (
  record {
    before = is.0.before;
    split = ap (λ s. s ++ step ∷ []) is.0.split ∙ append_assoc is.0.before old.rest.steps (step ∷ []) ∙ ap (λ s. is.0.before ++ s)
        (sym pushed.1);
    counted = pushed.2 ∙ is.0.counted;
  },
  pushed.0 ∙ is.1 ∙ sym same,
)
trace_pushed old new steps step most now pushed same is = absurd pushed

pub trace_still : (old new : Option Tape) (steps steps' : List Step) (most most' : ℕ) → SameTrace old new → steps' ≡ steps →
    most' ≡ most → IsTraceOf old steps most → IsTraceOf new steps' most'
trace_still None None steps steps' most most' still same also is = tt
trace_still (Some old) (Some new) steps steps' most most' still same also is = (
  record {
    before = is.0.before;
    split = same ∙ is.0.split ∙ ap (λ s. is.0.before ++ s) (sym still.1);
    counted = still.2 ∙ is.0.counted;
  },
  still.0 ∙ is.1 ∙ sym also,
)
trace_still old new steps steps' most most' still same also is = absurd still

-- once they are handed on none is kept behind all that were made
pub trace_handed : (old new : Option Tape) (steps piece : List Step) (most from : ℕ) → IsHandedOn (length steps) old from piece new →
    IsTraceOf old steps most → IsTraceOf new steps most
trace_handed (Some old) (Some new) steps piece most from handed is = (
  record {
    before = steps;
    split = sym (append-nil steps) ∙ ap (λ s. steps ++ s) (sym handed.3);
    counted = handed.2;
  },
  handed.4 ∙ is.1,
)
trace_handed old new steps piece most from handed is = absurd handed

pub same_trace : (trace : Option Tape) → SameTrace trace trace
same_trace None = tt
same_trace (Some t) = (refl, refl, refl)

-- less room is there where more is
pub room_less : (trace : Option Tape) (few many : ℕ) → few ≤ many → HasRoom many trace → HasRoom few trace
room_less None few many less is = tt
room_less (Some t) few many less is = omega (arith, less, is)

-- room for nothing is always there
pub no_room : (trace : Option Tape) → HasRoom 0 trace
no_room None = tt
no_room (Some t) = omega arith

-- taking the last step back gives its room back
pub room_back : (t : Tape) (new : TraceView) (step : Step) (before : Option Tape) → IsPushed before step (Some t) →
    LeavesRoom before step (Some t) → (bytes : ℕ) → HasRoom bytes before →
    ((front : List Step) (last : Step) → t.rest.steps ≡ front ++ last ∷ [] → t.rest.room + step_size last ≤ new.room) → bytes ≤ new.room
room_back t new step None pushed leaves bytes has more = absurd pushed
room_back t new step (Some old) pushed leaves bytes has more = omega (arith, leaves, has, more old.rest.steps step pushed.1)

-- what lies behind nothing is all
pub behind_none : (from : ℕ) (rest steps : List Step) → AreBehind from rest steps → from ≡ 0 → steps ≡ rest
behind_none from rest steps is none = is.split ∙ ap (λ b. b ++ rest) (nil_from_length is.before (sym is.counted ∙ none))

-- what lies behind as many as were seen is the rest behind these
pub behind_long : (from : ℕ) (rest steps seen : List Step) → AreBehind from rest steps → length seen ≡ from → length seen ≤ length steps
behind_long from rest steps seen is number =
    omega (arith, number, is.counted, ap length is.split, length-append is.before rest)

pub behind_seen : (from : ℕ) (rest steps seen : List Step) → AreBehind from rest steps → length seen ≡ from → IsPrefix seen steps →
    steps ≡ seen ++ rest
behind_seen from rest steps seen is number begins =
    is.split ∙ ap (λ b. b ++ rest)
    (same_begin is.before seen steps (rest, sym is.split) begins (sym is.counted ∙ sym number))
