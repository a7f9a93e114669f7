use Rattle.std.proofs.Common.{refl}
use Rattle.resp.specs.Content.{content}
use Rattle.serving.specs.Answers.{answer_of}
use Rattle.solo.proofs.Clients.{asks-plain, asks-now, asks-command, asks-exec}
use Rattle.solo.proofs.client.ClientDoor.ask.Goals as goal

pub returns-then-is_plain : goal.returns-then-is_plain
returns-then-is_plain g c = (
  refl,
  asks-plain c.args.self.now.session.now c.args.request c.args.self.now.solo.now c.ask_plain.new.self (answer_of c.ask_plain.result)
      (c.is_plain.ensures c.if-is_plain.true) c.ask_plain.ensures,
)

pub returns-in-Ok-Now : goal.returns-in-Ok-Now
returns-in-Ok-Now g c = (
  refl,
  asks-now c.args.self.now.session.now c.take.new.self c.args.request c.args.self.now.solo.now (content c.in-Ok-Now.reply)
      (rw c.in-Ok-Now.field-0-is at c.in-Ok-Now.ensures.asks),
)

pub returns-in-Ok-Go-Plain : goal.returns-in-Ok-Go-Plain
returns-in-Ok-Go-Plain g c = (
  refl,
  asks-command c.args.self.now.session.now c.take.new.self c.args.request c.args.self.now.solo.now c.ask_command.new.self
      c.in-Ok-Go-Plain.command (answer_of c.ask_command.result)
      (rw c.in-Ok-Go-Plain.field-0-0-is at (rw c.in-Ok-Go-Plain.field-0-is at c.in-Ok-Go-Plain.ensures.asks)) c.ask_command.ensures,
)

pub returns-in-Ok-Go-Exec : goal.returns-in-Ok-Go-Exec
returns-in-Ok-Go-Exec g c = (
  refl,
  asks-exec c.args.self.now.session.now c.take.new.self c.args.request c.args.self.now.solo.now c.run_batch.new.self
      c.in-Ok-Go-Exec.members (content c.run_batch.result)
      (rw c.in-Ok-Go-Exec.field-0-0-is at (rw c.in-Ok-Go-Exec.field-0-is at c.in-Ok-Go-Exec.ensures.asks)) c.run_batch.ensures,
)
