-- That commands with no key in common can change places.
use Rattle.std.proofs.Common.{sym, ap, ◌∙◌}
use Rattle.keyspace.proofs.Parts.{restrict-put_back_apart, put_back-put_back_apart, AreApart-swap}
use Rattle.keyspace.specs.Map.{restrict, put_back}
use Rattle.command_cases.specs.Commute.{AnswersCommute, ContentsCommute}

pub answers_commute : AnswersCommute
answers_commute keys others case other m apart =
    ap (λ part. (other part).1) (restrict-put_back_apart m keys others (case (restrict m keys)).0 apart)

pub contents_commute : ContentsCommute
contents_commute keys others case other m apart =
    let part = (case (restrict m keys)).0 in
    let beside = (other (restrict m others)).0 in
    ap (λ p. put_back (put_back m keys part) others (other p).0) (restrict-put_back_apart m keys others part apart)
    ∙ put_back-put_back_apart m keys others part beside apart
    ∙ ap (λ p. put_back (put_back m others beside) keys (case p).0)
    (sym (restrict-put_back_apart m others keys beside (AreApart-swap keys others apart)))
