use Rattle.std.proofs.Common.{◌≡◌, [], Some, w64, option_map, ap, ◌∙◌}
use Rattle.std.proofs.lemmas.Int.{to_z-of_z}
use mir.Val.{to_z, of_z}
use Rattle.integers.specs.Range.{range_items}
use Rattle.list_commands.proofs.Apart.{left_at}
use Rattle.list_commands.specs.ListCommand.{at_list, trim_step}
use Rattle.resp.specs.Content.{content}
use Rattle.values.specs.ListValue.{nonempty}
use Rattle.values.specs.declared.Value.TheVariants as kind
use Rattle.list_commands.proofs.items.trim.Goals as goal

pub returns : goal.returns
returns g c =
    let contents = g.K.Keyspace.contents in
    let items = c.take_list-list.result in
    let kept : c.keep_range.result ≡ nonempty (range_items c.args.start c.args.end items) =
    c.keep_range.ensures
    ∙ ap (λ s. nonempty (range_items s (to_z w64 (of_z w64 c.args.end)) items)) (to_z-of_z w64 c.args.start c.ranges.start)
    ∙ ap (λ e. nonempty (range_items c.args.start e items)) (to_z-of_z w64 c.args.end c.ranges.end) in
    record {
      done = left_at (contents c.args.keyspace.now) (contents c.take_list-list.new.keyspace) (contents c.leave_list.new.keyspace) c.args.key.now
          (at_list (trim_step c.args.start c.args.end)) (kind.Str []) (Some (kind.List items)) (option_map kind.List c.keep_range.result)
          (content c.ok_reply-2.result) c.take_list-list.ensures.list c.take_list-list.ensures.held c.leave_list.ensures.left
          (ap (option_map kind.List) kept) c.ok_reply-2.ensures;
    }
