use Rattle.std.proofs.Common.{◌≡◌, ◌∙◌, ◌<◌, false, [], ◌∷◌, ◌++◌, ap, sym, length, map, take, arith}
use Rattle.std.proofs.lemmas.List.{map-append}
use Rattle.picture.specs.Ran.{Ran}
use Rattle.picture.specs.Words.{word_of}
use Rattle.replay.proofs.Making.{none_left, next_none, next_some, fault_at, made_count, one_more_made}
use Rattle.picture.proofs.Recording.{stands}
use Rattle.system.specs.Reads.{table_of}
use Rattle.picture.proofs.making.make_all.Goals as goal

pub unreachable-requires : goal.unreachable-requires
unreachable-requires g c =
    let few : c.loop-index.index < length c.args.steps =
    let more = c.loop-index-test.true in let count = c.len-count.ensures in omega arith in
    none_left c.args.steps c.loop-index.steps c.loop-index.index c.loop-index.invariant.0
    (next_none c.in_ok-step.field-0 c.loop-index.steps c.next.new.self c.in_default.is c.in_ok-step.ensures.next) few

pub returns-in-Err-clause-fault : goal.returns-in-Err-clause-fault
returns-in-Err-clause-fault g c =
    fault_at false (table_of c.args.system.now) c.args.system.now.max_steps c.args.steps
    c.loop-index.steps c.next.new.self c.loop-index.index c.in-Some.step c.loop-index.system c.make.new.system c.in-Err.fault
    c.loop-index.invariant.0
    (next_some c.in_ok-step.field-0 c.loop-index.steps c.next.new.self c.in-Some.step c.in-Some.is c.in_ok-step.ensures.next)
    (stands c.loop-index.invariant.1) c.in-Err.ensures.fault

pub loop-index-preserved : goal.loop-index-preserved
loop-index-preserved g c =
    let t = table_of c.args.system.now in
    let most = c.args.system.now.max_steps in
    let n = c.loop-index.index in
    let next =
    next_some c.in_ok-step.field-0 c.loop-index.steps c.next.new.self c.in-Some.step c.in-Some.is c.in_ok-step.ensures.next in
    let count = made_count c.args.steps c.loop-index.steps c.next.new.self n c.in-Some.step c.loop-index.invariant.0 next in
    let made = one_more_made (λ made. Ran t most made c.make.new.system c.make.new.flights c.make.new.recorder) c.args.steps
    c.loop-index.steps c.next.new.self n c.in-Some.step c.loop-index.invariant.0 next
    (c.in_default-make.ensures.made t most (take n c.args.steps) count c.loop-index.invariant.1) in
    let words = one_more_made (λ made. c.put_word.new.words.items ≡ map word_of made) c.args.steps c.loop-index.steps c.next.new.self n
    c.in-Some.step c.loop-index.invariant.0 next
    (c.in_ok-put_word.ensures ∙ ap (λ l. l ++ word_of c.in-Some.step ∷ []) c.loop-index.invariant.2
    ∙ sym (map-append word_of (take n c.args.steps) (c.in-Some.step ∷ []))) in
    (made.0, made.1, words.1)
