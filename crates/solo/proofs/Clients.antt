-- What comes of a client's request, by what its session makes of it.
use Rattle.std.proofs.Common.{◌≡◌, ℕ, List, [], Ok, Err, ap, sym, ◌∙◌, subst, refl}
use Rattle.command_table.specs.CommandRow.{Reading}
use Rattle.command_table.specs.Reading.{reading}
use Rattle.command_table.specs.declared.command.Command.{Command}
use Rattle.keyspace.specs.Map.{Map}
use Rattle.resp.specs.Content.{Content}
use Rattle.serving.specs.Answers.{Answer}
use Rattle.serving.specs.declared.door.DoorFault.TheVariants.{Memory, Ended}
use Rattle.sessions.proofs.Commands.{command-stays}
use Rattle.sessions.specs.Session as session
use Rattle.sessions.specs.declared.batch.Batch.TheVariants.{Plain, Exec}
use Rattle.sessions.specs.declared.member.Member.{Member}
use Rattle.sessions.specs.declared.session.Session.{Session}
use Rattle.solo.specs.Connection.{Asks, AsksCommand, AsksPlain, Comes, answer_by}
use Rattle.solo.specs.Solo.{IsRunOrStarves}
use Rattle.solo.specs.declared.fault.ConnectionFault.{ConnectionFault}

-- ---- outside a list

plain_comes : (read : Reading) (old new : Map) (reply : Content) → (new, reply) ≡ answer_by read old
    → Comes (session.plain read) old reply new
plain_comes (Ok command) old new reply run = run
plain_comes (Err refusal) old new reply run = (ap (λ v. v.0) run, ap (λ v. v.1) run)

pub asks-plain : (held : Session) (words : List (List ℕ)) (old new : Map) (answer : Answer ConnectionFault)
    → session.asks held words ≡ (held, session.plain (reading words)) → AsksPlain old words answer new
    → Asks (held, old) words answer (held, new)
asks-plain held words old new (Ok reply) is run =
    subst (λ a. (held ≡ a.0) × Comes a.1 old reply new) (sym is) (refl, plain_comes (reading words) old new reply run)
asks-plain held words old new (Err Memory) is run =
    ((run.0, is ∙ ap (λ r. (held, session.plain r)) run.1, run.2), ap (λ m. (held, m)) run.3)
asks-plain held words old new (Err (Ended reason)) is run = absurd run

-- ---- by what the session says

pub asks-now : (held left : Session) (words : List (List ℕ)) (m : Map) (reply : Content)
    → (left, session.Now reply) ≡ session.asks held words → Asks (held, m) words (Ok reply) (left, m)
asks-now held left words m reply is = subst (λ a. (left ≡ a.0) × Comes a.1 m reply m) is (refl, (refl, refl))

pub asks-command : (held left : Session) (words : List (List ℕ)) (old new : Map) (command : Command) (answer : Answer ConnectionFault)
    → (left, session.Go (Plain command)) ≡ session.asks held words → AsksCommand old command answer new
    → Asks (held, old) words answer (left, new)
asks-command held left words old new command (Ok reply) is run = subst (λ a. (left ≡ a.0) × Comes a.1 old reply new) is (refl, run)
asks-command held left words old new command (Err Memory) is run =
    let stays = command-stays held left words command is in (
      (command, sym is ∙ ap (λ s. (s, session.Go (Plain command))) stays, run.0),
      ap (λ s. (s, new)) stays ∙ ap (λ m. (held, m)) run.1,
    )
asks-command held left words old new command (Err (Ended reason)) is run = absurd run

pub asks-exec : (held left : Session) (words : List (List ℕ)) (old new : Map) (members : List Member) (reply : Content)
    → (left, session.Go (Exec members)) ≡ session.asks held words → IsRunOrStarves [] (Exec members) old reply new
    → Asks (held, old) words (Ok reply) (left, new)
asks-exec held left words old new members reply is run = subst (λ a. (left ≡ a.0) × Comes a.1 old reply new) is (refl, run)
