use Rattle.std.proofs.Common.{◌≡◌, sym, ◌∙◌}
use Rattle.std.proofs.lemmas.Slice.Eq.{slice_eq-Decides}
use Rattle.example_transport.proofs.Same.{same-Decides}
use Rattle.example_transport.specs.Agreement.{shared}
use Rattle.example_transport.proofs.agreement.agree.Goals as goal

pub returns : goal.returns
returns c =
    let tells = slice_eq-Decides same-Decides _ _ _ c.eq.ensures in
    let mine : c.as_slice.result.now ≡ shared c.args.one.now c.args.other.now = c.as_slice.ensures.value ∙ c.in_ok-mine.ensures in
    let others : c.as_slice-2.result.now ≡ shared c.args.other.now c.args.one.now =
    c.as_slice-2.ensures.value ∙ c.in_ok-others.ensures in
    (λ t. sym mine ∙ tells.0 t ∙ others, λ a. tells.1 (mine ∙ a ∙ sym others))
