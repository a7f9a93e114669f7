use Rattle.std.proofs.Common.{rules, refl, sym, ◌∙◌, Ok, Err}
use Rattle.std.proofs.lemmas.List.Sorted.{answers_always}
use Rattle.std.proofs.lemmas.Option.{slice_get_read}
use Rattle.journal.proofs.LongRows.{searched}
use Rattle.journal.proofs.long_rows.long_at.Goals as goal

pub returns-in-Ok : goal.returns-in-Ok
returns-in-Ok c =
    let facts = c.in-Ok.ensures in
    let by_place = facts.position (λ long. long.place) (answers_always _ _ _ (λ f a r g called. search rules)) in
    let found = searched c.args.longs.now c.requires.0 c.args.place c.requires.1 (Ok c.in-Ok.found) facts.bound by_place in
    sym (slice_get_read c.args.longs.now _ c.in-Ok.found c.index-longs-found.result refl facts.bound c.index-longs-found.is) ∙ found

pub returns-in-Err : goal.returns-in-Err
returns-in-Err c =
    let facts = c.in-Err.ensures in
    let by_place = facts.position (λ long. long.place) (answers_always _ _ _ (λ f a r g called. search rules)) in
    sym (searched c.args.longs.now c.requires.0 c.args.place c.requires.1 (Err c.in-Err.field-0) facts.bound by_place)
