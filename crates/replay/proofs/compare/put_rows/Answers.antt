use Rattle.std.proofs.Common.{◌≡◌, ◌++◌, ◌&&◌, None, slice_get, sym, ap, ◌∙◌, subst}
use Rattle.std.specs.List.{flat_map}
use Rattle.execution_order.specs.Entries.{rows_by_stamp}
use Rattle.replay.proofs.Comparing.{Whole, next_row, row_there}
use Rattle.replay.specs.Report.{row_line, replies_agree, left_by}
use Rattle.replay.proofs.compare.put_rows.Goals as goal

pub returns-in_default-row : goal.returns-in_default-row
returns-in_default-row g c = λ executed are.
    let names = c.args.starved.now in
    let all = c.args.out.now.items ++ flat_map row_line (rows_by_stamp executed) in
    let last = left_by names c.args.solo.now (rows_by_stamp executed) in
    let agree = replies_agree names c.args.solo.now (rows_by_stamp executed) in
    let whole = subst (λ ks. Whole names executed ks c.loop-key.out.items all c.loop-key.solo last c.loop-key.same agree)
    c.in-Some.ensures.steps (c.loop-key.invariant executed are) in
    let there = row_there names executed c.args.rows.now.rows c.in-Some.key.now c.next.new.self c.loop-key.out.items all c.loop-key.solo
    last c.loop-key.same agree are whole in
    let gone : slice_get c.args.rows.now.rows c.in-Some.key.now.2 ≡ None = sym c.row.ensures ∙ c.in_default-row.is in
    let never = sym there.1 ∙ gone in cc

pub loop-key-preserved-then-same : goal.loop-key-preserved-then-same
loop-key-preserved-then-same g c = λ executed are.
    let names = c.args.starved.now in
    let all = c.args.out.now.items ++ flat_map row_line (rows_by_stamp executed) in
    let last = left_by names c.args.solo.now (rows_by_stamp executed) in
    let agree = replies_agree names c.args.solo.now (rows_by_stamp executed) in
    let as_it_was = c.in_ok-as_it_was.as_it_was in
    next_row names executed c.args.rows.now.rows c.in-Some.key.now c.next.new.self c.in-Some-row.row c.loop-key.out.items
    c.put_row.new.out.items all c.loop-key.solo c.put_row.new.solo last c.loop-key.same as_it_was as_it_was agree are
    (sym c.row.ensures ∙ c.in-Some-row.is) (ap (λ b. b && as_it_was) (sym c.if-same.true)) c.in_ok-as_it_was.ensures
    (subst (λ ks. Whole names executed ks c.loop-key.out.items all c.loop-key.solo last c.loop-key.same agree) c.in-Some.ensures.steps
    (c.loop-key.invariant executed are))

pub loop-key-preserved : goal.loop-key-preserved
loop-key-preserved g c = λ executed are.
    let names = c.args.starved.now in
    let all = c.args.out.now.items ++ flat_map row_line (rows_by_stamp executed) in
    let last = left_by names c.args.solo.now (rows_by_stamp executed) in
    let agree = replies_agree names c.args.solo.now (rows_by_stamp executed) in
    let as_it_was = c.in_ok-as_it_was.as_it_was in
    next_row names executed c.args.rows.now.rows c.in-Some.key.now c.next.new.self c.in-Some-row.row c.loop-key.out.items
    c.put_row.new.out.items all c.loop-key.solo c.put_row.new.solo last c.loop-key.same as_it_was c.loop-key.same agree are
    (sym c.row.ensures ∙ c.in-Some-row.is) (c.if-same.false ∙ ap (λ b. b && as_it_was) (sym c.if-same.false)) c.in_ok-as_it_was.ensures
    (subst (λ ks. Whole names executed ks c.loop-key.out.items all c.loop-key.solo last c.loop-key.same agree) c.in-Some.ensures.steps
    (c.loop-key.invariant executed are))
