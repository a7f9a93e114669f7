use Rattle.hash_commands.specs.HashCommand.{hget_answer, hmget_answer, hkeys_answer, hvals_answer, hgetall_answer}
use Rattle.hash_commands.proofs.Leaves.{leaves-looks_at_hash}
use Rattle.hash_commands.proofs.Short.{answers_short}
use Rattle.hash_commands.proofs.text_plan.hash_text_plan.Goals as goal

pub returns-in-Hget : goal.returns-in-Hget
returns-in-Hget c = rw c.in-Hget.is (leaves-looks_at_hash c.in-Hget.key (hget_answer c.in-Hget.field))

pub returns-in-Hmget : goal.returns-in-Hmget
returns-in-Hmget c = rw c.in-Hmget.is (leaves-looks_at_hash c.in-Hmget.key (hmget_answer c.in-Hmget.fields))

pub returns-in-Hkeys : goal.returns-in-Hkeys
returns-in-Hkeys c = rw c.in-Hkeys.is (leaves-looks_at_hash c.in-Hkeys.key hkeys_answer)

pub returns-in-Hvals : goal.returns-in-Hvals
returns-in-Hvals c = rw c.in-Hvals.is (leaves-looks_at_hash c.in-Hvals.key hvals_answer)

pub returns-in-Hgetall : goal.returns-in-Hgetall
returns-in-Hgetall c = rw c.in-Hgetall.is (leaves-looks_at_hash c.in-Hgetall.key hgetall_answer)

pub returns-in_default : goal.returns-in_default
returns-in_default c =
    let d = c.in_default in
    λ m. answers_short c.args.command.now m d.not-Hget d.not-Hmget d.not-Hkeys d.not-Hvals d.not-Hgetall
