use Rattle.journal.proofs.CodeLaws.{empty-word}
use Rattle.journal.proofs.packed_rows.PackedRows.push_without_words.Goals as goal

pub push-requires-clause-words : goal.push-requires-clause-words
push-requires-clause-words c = rw c.as_slice.ensures empty-word

pub push_without_reply-requires-clause-words : goal.push_without_reply-requires-clause-words
push_without_reply-requires-clause-words c = rw c.as_slice-else-is_empty.ensures empty-word
