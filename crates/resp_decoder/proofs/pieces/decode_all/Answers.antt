use Rattle.std.proofs.Common.{◌+◌, List, ℕ, take, drop, None, sym, subst}
use Rattle.std.proofs.lemmas.List.{take_all}
use Rattle.resp_decoder.specs.Texts.{Decodes}
use Rattle.resp_decoder.specs.Pieces.{whole}
use Rattle.resp_decoder.proofs.Taking.{Gathered, gathered_none, gathered_more, gathered_all, decoding_more, none_from_test, whole_more}
use Rattle.resp_decoder.proofs.Taking.{whole_cut}
use Rattle.resp_decoder.proofs.pieces.decode_all.Goals as goal

pub loop-piece-init : goal.loop-piece-init
loop-piece-init c = rw (c.new-decoder.ensures.held, c.new-requests.ensures.items) (gathered_none c.args.limits)

pub loop-piece-preserved : goal.loop-piece-preserved
loop-piece-preserved c =
    let takes = c.in_ok-fault.ensures in
    let behind = gathered_more c.args.limits (whole (take c.loop-piece.piece-index c.args.pieces.now)) c.loop-piece.decoder.held
    c.loop-piece.requests.items _ c.feed.new.self.held c.take_all.new.decoder.held takes.0 c.take_all.new.requests.items
    c.in_ok-fault.fault c.loop-piece.invariant c.in_ok-feed.ensures.ok takes.1 takes.2 in
    subst (λ (so_far : List ℕ). Gathered c.args.limits so_far c.take_all.new.decoder.held c.take_all.new.requests.items)
    (sym (whole_more c.args.pieces.now c.loop-piece.piece-index _ c.loop-piece-test.true))
    (behind.goes_on (none_from_test c.in_ok-fault.fault c.if-is_some.ensures))

pub returns-then-is_some : goal.returns-then-is_some
returns-then-is_some c =
    let k = c.loop-piece.piece-index in
    let pieces = c.args.pieces.now in
    let takes = c.in_ok-fault.ensures in
    let behind = gathered_more c.args.limits (whole (take k pieces)) c.loop-piece.decoder.held c.loop-piece.requests.items _
    c.feed.new.self.held c.take_all.new.decoder.held takes.0 c.take_all.new.requests.items c.in_ok-fault.fault c.loop-piece.invariant
    c.in_ok-feed.ensures.ok takes.1 takes.2 in
    let so_far = subst (λ (b : List ℕ). Decodes c.args.limits b c.take_all.new.requests.items c.in_ok-fault.fault)
    (sym (whole_more pieces k _ c.loop-piece-test.true)) behind.decodes in
    subst (λ (b : List ℕ). Decodes c.args.limits b c.take_all.new.requests.items c.in_ok-fault.fault) (sym (whole_cut pieces (k + 1)))
    (decoding_more c.args.limits (whole (take (k + 1) pieces)) (whole (drop (k + 1) pieces)) c.take_all.new.requests.items
    c.in_ok-fault.fault c.if-is_some.ensures so_far)

pub returns : goal.returns
returns c =
    subst (λ pieces. Decodes c.args.limits (whole pieces) c.loop-piece.requests.items None)
    (take_all c.loop-piece.piece-index c.args.pieces.now c.loop-piece-test.false)
    (gathered_all c.args.limits (whole (take c.loop-piece.piece-index c.args.pieces.now)) c.loop-piece.decoder.held
    c.loop-piece.requests.items c.loop-piece.invariant)
