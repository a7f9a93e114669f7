use Rattle.std.proofs.Common.{map, ap, ◌∙◌}
use Rattle.std.proofs.lemmas.List.{take_all}
use Rattle.std.specs.Option.{option_copied}
use Rattle.hash_commands.proofs.Replies.{content-values}
use Rattle.hash_commands.specs.HashCommand.{found_pairs}
use Rattle.resp.specs.Content.{content}
use Rattle.resp.specs.declared.reply.Reply.TheVariants.{Bulks}
use Rattle.texts.specs.Texts.{texts_of}
use Rattle.values.specs.HashValue.{field_value}
use Rattle.hash_commands.proofs.arrays.each_value_reply.Goals as goal

pub returns : goal.returns
returns c =
    let pairs = found_pairs (option_copied c.args.hash) in
    let read = take_all c.loop-field.field-index c.as_slice-field-items.result.now c.loop-field-test.false in
    let texts = c.in_ok-copy_of.ensures ∙ ap (map option_copied) c.as_slice-2.ensures.value ∙ c.loop-field.invariant
    ∙ ap (λ xs. map (λ field. field_value pairs field) (texts_of xs)) read
    ∙ ap (map (λ field. field_value pairs field)) c.as_slice-field-items.ensures in
    ap (λ ts. content (Bulks ts)) texts ∙ content-values pairs c.args.fields.now
