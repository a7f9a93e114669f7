-- How a reply stands in a longer history, and what ended there.
use Rattle.std.proofs.Common.{◌≡◌, ℕ, suc, List, [], ◌∷◌, ◌++◌, inl, inr, Option, Some, None, refl, sym, ap, ◌∙◌}
use Rattle.std.proofs.Common.{subst, append_assoc}
use mathlib.Core.List.{IsPrefix}
use Rattle.answer_laws.proofs.Words.{task_of_words, not_at_once}
use Rattle.answer_laws.specs.Laws.{OneHistory}
use Rattle.answer_laws.specs.Standing.{HasEnded, HasNotEnded, StandsIn, row_of, IsOfOneThread}
use Rattle.cluster.proofs.Submits.{said_later}
use Rattle.cluster.specs.Clusters.{SeatView}
use Rattle.cluster.specs.Outcomes.{IsOfEnded, IsAtOnce, ComesFrom}
use Rattle.cluster.specs.Submits.{submits_by, IsSaid, session_met}
use Rattle.groups.proofs.Lists.{In-left}
use Rattle.groups.specs.Order.{In}
use Rattle.groups.specs.declared.request.ConnId.{ConnId}
use Rattle.groups.specs.declared.request.RequestId.{RequestId}
use Rattle.journal.specs.declared.step.Step.{Step}
use Rattle.journal.specs.declared.step.Step.TheVariants.{Submit, Collect}
use Rattle.order_laws.proofs.RunLaws.{ended_grows}
use Rattle.placement.specs.Layout.{Layout}
use Rattle.resp.specs.Content.{Content}
use Rattle.shared_cluster.specs.Asks.{IsReplied}
use Rattle.world.specs.Steps.{opening, Leads}
use Rattle.world.specs.World.{World, Outcome, Ended}
use Rattle.world_laws.proofs.HeadlineLaws.{holds_in_order_of_execution, headline_holds}
use Rattle.world_laws.specs.Headline.{with_row, rows_of}
use Rattle.world_laws.specs.Sessions.{all_free, sessions_from}

-- what begins a beginning begins the list
pub begins_more : {A : Type 0} (xs ys zs : List A) → IsPrefix (xs ++ ys) zs → IsPrefix xs zs
begins_more xs ys zs p = (ys ++ p.0, sym (append_assoc xs ys p.0) ∙ p.1)

module _ (t : Layout) (old new : SeatView) (words : List (List ℕ)) (answer : Content) (r : IsReplied t old words answer new)
    (all : List Step) (w : World) (leads : Leads t opening all w) (begins : IsPrefix new.seen all) where
  -- the steps behind which it was collected begin the list
  pub steps_begin : IsPrefix r.steps all
  steps_begin = begins_more r.steps (Collect old.conn ∷ []) all (subst (λ l. IsPrefix l all) (ap (λ (s : SeatView). s.seen) r.seat) begins)

  pub leads_on : Leads t opening (r.steps ++ steps_begin.0) w
  leads_on = subst (λ l. Leads t opening l w) (sym steps_begin.1) leads

  own_conn : r.outcome.id.conn ≡ old.conn
  own_conn = ap (λ (i : RequestId). i.conn) r.id

  abbrev said_then : IsSaid r.steps r.outcome.id words
  said_then = record {
    before = r.before;
    behind = r.behind.0;
    split = sym r.behind.1 ∙ append_assoc r.before (Submit old.conn words ∷ []) r.behind.0
        ∙ ap (λ c. r.before ++ Submit c words ∷ r.behind.0) (sym own_conn);
    number = ap (λ (i : RequestId). i.seq) r.id ∙ ap (λ (c : ConnId). suc (submits_by c.0 r.before)) (sym own_conn);
  }

  abbrev said_on : IsSaid (r.steps ++ steps_begin.0) r.outcome.id words
  said_on = said_later r.steps steps_begin.0 r.outcome.id words said_then

  abbrev said : IsSaid all r.outcome.id words
  said = record {
    before = r.before;
    behind = said_on.behind;
    split = sym steps_begin.1 ∙ said_on.split;
    number = said_on.number;
  }

  from_then : ComesFrom t r.world (session_met said) words r.outcome
  from_then = subst (λ (c : ConnId). ComesFrom t r.world (sessions_from all_free r.before c.0) words r.outcome) (sym own_conn) r.from

  ended_still : IsOfEnded r.world r.outcome → HasEnded w (session_met said) words r.outcome
  ended_still ran =
      let grown = ended_grows t r.steps steps_begin.0 r.world w r.leads leads_on in
      let there : In ran.0 w.ended = subst (λ l. In ran.0 l) (sym grown.1) (In-left ran.0 r.world.ended grown.0 ran.1) in
      record {
        ended = ran.0;
        there = there;
        outcome = ran.2;
        task = task_of_words t all w leads ran.0 there r.outcome.id words (sym (ap (λ (o : Outcome). o.id) ran.2)) said;
      }

  never_ended : IsAtOnce t (session_met said) words r.outcome → HasNotEnded t w (session_met said) words r.outcome
  never_ended once = record {
    at_once = once;
    not_run = λ e there same. not_at_once t all w leads e there r.outcome.id words r.outcome.reply same said once.reply;
  }

  pub stands : StandsIn t all w words r.outcome
  stands = record {
    said = said;
    from = elim from_then [
      | inl ended ↦ inl (ended_still ended)
      | inr once ↦ inr (never_ended once)
    ];
  }

-- ---- what ended

-- each that has ended with a reply has its row
has_row : (es : List Ended) (e : Ended) (reply : Content) → In e es → e.reply ≡ Some reply → In (row_of e reply) (rows_of es)
has_row [] e reply there is = absurd there
has_row (f ∷ es) e reply (inl same) is =
    subst (λ (x : Ended). In (row_of e reply) (with_row x x.reply (rows_of es))) same
    (subst (λ r. In (row_of e reply) (with_row e r (rows_of es))) (sym is) (inl refl))
has_row (f ∷ es) e reply (inr there) is = by_reply f.reply (has_row es e reply there is)
  where
    by_reply : (r : Option Content) → In (row_of e reply) (rows_of es) → In (row_of e reply) (with_row f r (rows_of es))
    by_reply None rest = rest
    by_reply (Some other) rest = inr rest

of_one_thread : (t : Layout) (all : List Step) (w : World) → Leads t opening all w → IsOfOneThread t w
of_one_thread t all w leads = record {
  rows = has_row w.ended;
  by_execution = holds_in_order_of_execution t all w leads;
  by_stamp = λ table. headline_holds t all w table leads;
}

pub one_history : OneHistory
one_history t all w leads = record {
  stands = λ old new words answer replied begins. stands t old new words answer replied all w leads begins;
  one_thread = of_one_thread t all w leads;
}
