use Rattle.std.proofs.Common.{length, arith, ap, ◌∙◌, length-append}
use Rattle.packing.specs.Codes.{words_code}
use Rattle.journal.proofs.CodeLaws.{row_read, words-left, words-read, RowWords-read, row-same}
use Rattle.journal.specs.Codes.{row_of}
use Rattle.journal.proofs.row.row_of.Goals as goal

pub split_at-requires : goal.split_at-requires
split_at-requires c =
    let bytes = c.args.bytes.now in let row = row_of bytes in
    let read = row_read row bytes _ _ _ _ _ _ _ _ c.requires.coded c.requires.fit c.take_id.ensures.id c.take_id.ensures.rest
    c.take_number-clock.ensures.number c.take_number-clock.ensures.rest c.take_number-group.ensures.number
    c.take_number-group.ensures.rest c.take_number-size.ensures.number c.take_number-size.ensures.rest in
    omega (arith, read.same_size, ap length read.left, length-append (words_code row.words) row.reply)

pub overflow_cast-group : goal.overflow_cast-group
overflow_cast-group c =
    let bytes = c.args.bytes.now in let row = row_of bytes in
    let read = row_read row bytes _ _ _ _ _ _ _ _ c.requires.coded c.requires.fit c.take_id.ensures.id c.take_id.ensures.rest
    c.take_number-clock.ensures.number c.take_number-clock.ensures.rest c.take_number-group.ensures.number
    c.take_number-group.ensures.rest c.take_number-size.ensures.number c.take_number-size.ensures.rest in
    record { fits = omega (arith, read.same_group, c.requires.fit.head.group) }

pub new-requires : goal.new-requires
new-requires c =
    let bytes = c.args.bytes.now in let row = row_of bytes in
    let read = row_read row bytes _ _ _ _ _ _ _ _ c.requires.coded c.requires.fit c.take_id.ensures.id c.take_id.ensures.rest
    c.take_number-clock.ensures.number c.take_number-clock.ensures.rest c.take_number-group.ensures.number
    c.take_number-group.ensures.rest c.take_number-size.ensures.number c.take_number-size.ensures.rest in
    omega (arith, read.same_group, c.requires.fit.head.group)

pub invariant_of-result : goal.invariant_of-result
invariant_of-result c =
    let bytes = c.args.bytes.now in let row = row_of bytes in
    let read = row_read row bytes _ _ _ _ _ _ _ _ c.requires.coded c.requires.fit c.take_id.ensures.id c.take_id.ensures.rest
    c.take_number-clock.ensures.number c.take_number-clock.ensures.rest c.take_number-group.ensures.number
    c.take_number-group.ensures.rest c.take_number-size.ensures.number c.take_number-size.ensures.rest in
    let left = words-left row _ _ _ _ read.same_size read.left c.split_at.ensures.front c.split_at.ensures.back in
    RowWords-read row.words _ left.0 c.requires.fit.words

pub returns : goal.returns
returns c =
    let bytes = c.args.bytes.now in let row = row_of bytes in
    let read = row_read row bytes _ _ _ _ _ _ _ _ c.requires.coded c.requires.fit c.take_id.ensures.id c.take_id.ensures.rest
    c.take_number-clock.ensures.number c.take_number-clock.ensures.rest c.take_number-group.ensures.number
    c.take_number-group.ensures.rest c.take_number-size.ensures.number c.take_number-size.ensures.rest in
    let left = words-left row _ _ _ _ read.same_size read.left c.split_at.ensures.front c.split_at.ensures.back in
    row-same row _ _ _ _ _ read.same_id read.same_clock (c.new.ensures ∙ read.same_group)
    (words-read row.words _ left.0 c.requires.fit.words) left.1
