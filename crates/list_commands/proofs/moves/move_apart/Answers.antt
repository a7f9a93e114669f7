use Rattle.std.proofs.Common.{◌≡◌, ap, ◌∙◌}
use Rattle.std.specs.FinMap as map
use Rattle.command_cases.specs.Case.{at_key}
use Rattle.list_commands.proofs.Apart.{moved, put_there}
use Rattle.list_commands.specs.ListCommand.{at_list, items_there, pop_step}
use Rattle.values.specs.ListValue.{joined}
use Rattle.values.specs.declared.Value.TheVariants as kind
use Rattle.list_commands.proofs.moves.move_apart.Goals as goal

pub returns : goal.returns
returns g c =
    let m = g.K.Keyspace.contents c.args.keyspace.now in
    let from = c.args.from.now in
    let to = c.args.to in
    let both : g.K.Keyspace.contents c.put_item.new.keyspace
    ≡ map.insert m to (put_there c.args.taken c.args.put (map.get m from) (map.get m to)) =
    c.in_ok-put_item.ensures.ok
    ∙ ap (λ l. map.insert m to (kind.List (joined c.args.put (items_there (map.get m to)) l))) c.in_ok-copy.ensures in
    record {
      done = c.pop.ensures.done ∙ ap (at_key from (at_list (pop_step c.args.taken))) both
          ∙ moved m from to c.args.taken c.args.put c.requires.apart c.requires.there c.requires.target;
    }
