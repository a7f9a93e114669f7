use Rattle.std.proofs.Common.{◌≡◌, ◌++◌, ap, sym, ◌∙◌, subst}
use Rattle.cluster.specs.Pieces.{PieceView}
use Rattle.cluster.proofs.Tapes.{behind_long, behind_seen}
use Rattle.cluster.proofs.sealed.Piece.follows.Goals as goal

pub begins-requires : goal.begins-requires
begins-requires g c =
    let in' = c.self.inside in
    behind_long in'.from in'.steps.steps in'.told c.args.seen.now c.self.invariant.0
    (c.requires ∙ sym (ap (λ (p : PieceView). p.from) c.self.view_is))

pub returns : goal.returns
returns g c =
    let in' = c.self.inside in
    subst (λ (p : PieceView). p.told ≡ c.args.seen.now ++ p.steps) c.self.view_is
    (behind_seen in'.from in'.steps.steps in'.told c.args.seen.now c.self.invariant.0
    (c.requires ∙ sym (ap (λ (p : PieceView). p.from) c.self.view_is)) c.begins.ensures)
