use Rattle.std.proofs.Common.{◌++◌, ◌∷◌, [], ap, sym, ◌∙◌, arith}
use Rattle.std.proofs.lemmas.List.{append-nil}
use Rattle.packing.specs.Codes.{words_at}
use Rattle.journal.specs.Views.{row_view}
use Rattle.journal.specs.Codes.{rows_in}
use Rattle.journal.proofs.Kept.{IsAdded, row-put}
use Rattle.journal.proofs.packed_rows.PackedRows.push_without_reply.Goals as goal
use Rattle.journal.proofs.packed_rows.PackedRows.push_without_reply.Goals.{After-push_reserved}

added : (c : After-push_reserved) → IsAdded (rows_in c.self.inside.bytes.items c.self.inside.ends.items)
    (row_view c.args.id c.args.stamp.now (words_at c.args.words.now).0 []) c.put_request.new.out.items c.push_reserved.new.self.items
added c =
    let room = ap (λ v. v.bytes) c.self.view_is in
    row-put _ c.args.id c.args.stamp.now _ c.args.words.now [] c.self.inside.bytes.items c.self.inside.ends.items _ _ c.len.result
    c.self.invariant c.put_request.ensures.fits c.requires.words (omega arith)
    (c.put_request.ensures.items ∙ sym (append-nil _))
    c.push_reserved.ensures.items (c.len.ensures ∙ c.put_request.new.out.ok.0)

pub invariant_of-self : goal.invariant_of-self
invariant_of-self c = (added c).kept

pub returns-clause-pushed : goal.returns-clause-pushed
returns-clause-pushed c =
    (added c).seen ∙ ap (λ v. v.rows ++ row_view c.args.id c.args.stamp.now (words_at c.args.words.now).0 [] ∷ []) c.self.view_is
