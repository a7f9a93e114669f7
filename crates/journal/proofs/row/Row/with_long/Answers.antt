use Rattle.std.proofs.Common.{ap, ◌∙◌, refl}
use Rattle.journal.specs.LongRows.{text_or}
use Rattle.journal.proofs.CodeLaws.{RowWords-read, words-read}
use Rattle.journal.proofs.row.Row.with_long.Goals as goal

pub invariant_of-result : goal.invariant_of-result
invariant_of-result c =
    RowWords-read c.args.long.now.words _ c.as_bytes-words.ensures.code c.as_bytes-words.ensures.fit

pub returns : goal.returns
returns c =
    let text = ap (λ t. text_or t c.self.inside.reply.now) c.as_slice.ensures.value in
    let kept = ap (λ v. text_or c.args.long.now.text.items v.reply) c.self.view_is in
    rw (
      words-read c.args.long.now.words _ c.as_bytes-words.ensures.code c.as_bytes-words.ensures.fit,
      c.text_or-reply.ensures ∙ text ∙ kept,
      ← c.self.view_is,
    ) refl
