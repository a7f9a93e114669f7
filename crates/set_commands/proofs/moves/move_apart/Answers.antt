use Rattle.std.proofs.Common.{◌≡◌, ap, ◌∙◌}
use Rattle.std.specs.FinMap as map
use Rattle.keyspace.specs.Map.{set}
use Rattle.set_commands.proofs.Apart.{set-still, moved-apart}
use Rattle.set_commands.specs.SetCommand.{some_members}
use Rattle.values.specs.SetValue.{with_member, without_member}
use Rattle.values.specs.Value.{set_value}
use Rattle.values.specs.declared.Value.TheVariants as kind
use Rattle.set_commands.proofs.moves.move_apart.Goals as goal

pub remove_member-requires-clause-there : goal.remove_member-requires-clause-there
remove_member-requires-clause-there g c =
    let m = g.K.Keyspace.contents c.args.keyspace.now in
    set-still m (g.K.Keyspace.contents c.put_member.new.keyspace) c.args.from.now c.args.to
    (kind.Set (with_member (some_members (map.get m c.args.to)) c.in_ok-copy.copy)) c.requires.apart c.in_ok-put_member.ensures.ok
    c.requires.there

pub returns-clause-ok : goal.returns-clause-ok
returns-clause-ok g c =
    let m = g.K.Keyspace.contents c.args.keyspace.now in
    let n = g.K.Keyspace.contents c.put_member.new.keyspace in
    let others = some_members (map.get m c.args.to) in
    let text = c.as_slice-text.result.now in
    let put : n ≡ map.insert m c.args.to (kind.Set (with_member others text)) =
    c.in_ok-put_member.ensures.ok
    ∙ ap (λ t. map.insert m c.args.to (kind.Set (with_member others t))) c.in_ok-copy.ensures.copied in
    let source = some_members (map.get m c.args.from.now) in
    moved-apart m n (g.K.Keyspace.contents c.remove_member.new.keyspace) c.args.from.now c.args.to text
    (kind.Set (with_member others text)) c.requires.apart put c.remove_member.ensures.removed
    ∙ ap (λ t. map.insert (set m c.args.from.now (set_value (without_member source t))) c.args.to (kind.Set (with_member others t)))
    c.as_slice-text.ensures
