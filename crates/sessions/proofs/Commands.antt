-- A session that gives a command to be run stays as it is: it has no open list.
use Rattle.std.proofs.Common.{◌≡◌, ◌==◌, true, false, cond, ℕ, List, [], ◌∷◌, Option, Some, None, length, ap, ◌∙◌, subst, refl}
use Rattle.command_table.specs.CommandRow.{Reading}
use Rattle.command_table.specs.Reading.{reading}
use Rattle.command_table.specs.declared.command.Command.{Command}
use Rattle.command_table.specs.declared.refusal.Refusal.TheVariants.{Arity}
use Rattle.sessions.specs.Control.{control_in, control_name}
use Rattle.sessions.specs.Replies.{refused}
use Rattle.sessions.specs.Session.{Answer, Now, Go, obey, spoilt, take_up, asked, asks}
use Rattle.sessions.specs.declared.batch.Batch.TheVariants.{Plain, Exec}
use Rattle.sessions.specs.declared.control.Control.{Control}
use Rattle.sessions.specs.declared.control.Control.TheVariants as control
use Rattle.sessions.specs.declared.session.Session.{Session}
use Rattle.sessions.specs.declared.session.Session.TheVariants.{Free, Listing, Spoilt}

IsCommand : Answer → Type 0
IsCommand (Now answer) = ⊥
IsCommand (Go (Plain command)) = Unit {0}
IsCommand (Go (Exec members)) = ⊥

obey_stays : (held : Session) (which : Control) → IsCommand (obey held which).1 → (obey held which).0 ≡ held
unfolding IsCommand
obey_stays Free control.Multi is = absurd is
obey_stays Free control.Exec is = absurd is
obey_stays Free control.Discard is = absurd is
obey_stays (Listing members) control.Multi is = absurd is
obey_stays (Listing []) control.Exec is = absurd is
obey_stays (Listing (m ∷ ms)) control.Exec is = absurd is
obey_stays (Listing members) control.Discard is = absurd is
obey_stays Spoilt control.Multi is = absurd is
obey_stays Spoilt control.Exec is = absurd is
obey_stays Spoilt control.Discard is = absurd is

take_up_stays : (held : Session) (read : Reading) → IsCommand (take_up held read).1 → (take_up held read).0 ≡ held
unfolding IsCommand
take_up_stays Free read is = refl
take_up_stays (Listing members) read is = absurd is
take_up_stays Spoilt read is = absurd is

asked_stays : (held : Session) (words : List (List ℕ)) (which : Option Control) → IsCommand (asked held words which).1
    → (asked held words which).0 ≡ held
unfolding IsCommand
asked_stays held words None is = take_up_stays held (reading words) is
asked_stays held words (Some which) is =
    elim (length words == 1) as (λ b. IsCommand (cond b (obey held which) (spoilt held, Now (refused (Arity (control_name which))))).1
    → (cond b (obey held which) (spoilt held, Now (refused (Arity (control_name which))))).0 ≡ held) [
      | true ↦ λ h. obey_stays held which h
      | false ↦ λ h. absurd h
    ] is

pub command-stays : (held left : Session) (words : List (List ℕ)) (command : Command)
    → (left, Go (Plain command)) ≡ asks held words → left ≡ held
unfolding IsCommand
command-stays held left words command is =
    ap (λ a. a.0) is ∙ asked_stays held words (control_in words) (subst (λ a. IsCommand a.1) is tt)
