use Rattle.std.proofs.Common.{refl, ◌≡◌, ◌∙◌}
use Rattle.solo.proofs.Served.{runs-keep, serves-seen, served_within}
use Rattle.solo.proofs.connection.serve_client.Goals as goal

pub returns-clause-same_reference : goal.returns-clause-same_reference
returns-clause-same_reference g c =
    runs-keep _ (λ s t. t.solo.ghost_name ≡ s.solo.ghost_name) (λ s. refl) (λ s m t first second. second ∙ first)
    (λ old words answer new asked. asked.0) _ _ c.serve.ensures.answered.requests c.serve.ensures.answers c.serve.ensures.answered.run

pub returns-clause-serves : goal.returns-clause-serves
returns-clause-serves g c =
    served_within _ _ _ _ _ _ _ _ refl refl
    (serves-seen _ _ (λ client. (client.session.now, client.solo.now)) (λ old words answer new asked. asked.1) _ _ _ _ _ _ _ _
    c.serve.ensures)
