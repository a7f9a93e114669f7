use Rattle.std.proofs.Common.{◌≡◌, ap, ◌∙◌, subst}
use Rattle.cluster.specs.Pieces.{PieceView}
use Rattle.cluster.proofs.Tapes.{behind_none}
use Rattle.cluster.proofs.sealed.Piece.is_first.Goals as goal

pub returns : goal.returns
returns g c =
    let in' = c.self.inside in
    subst (λ (p : PieceView). p.told ≡ p.steps) c.self.view_is
    (behind_none in'.from in'.steps.steps in'.told c.self.invariant.0 (ap (λ (p : PieceView). p.from) c.self.view_is ∙ c.requires))
