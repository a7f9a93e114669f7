-- A seat collects what came of its last request as that is settled.
use Rattle.std.proofs.Common.{◌≡◌, ℕ, List, [], ◌∷◌, Some, refl, sym, ap, ◌∙◌, subst}
use Rattle.cluster.proofs.Collecting.{above, own, from}
use Rattle.cluster.proofs.Seats.{cluster_other, cluster_settled}
use Rattle.cluster.specs.Clusters.{ClusterView, SeatView, IsCluster, CanCollect}
use Rattle.cluster.specs.Finishing.{HasFinished, IsFloorOf, Finishes}
use Rattle.cluster.specs.Histories.{HistoryView, IsMade}
use Rattle.front.specs.Connections.{outcome_shown}
use Rattle.front.specs.Finishing.{outcome_with}
use Rattle.groups.specs.declared.request.RequestId.{RequestId}
use Rattle.journal.specs.declared.step.Step.{Step}
use Rattle.journal.specs.declared.step.Step.TheVariants.{Collect}
use Rattle.layer_results.specs.declared.done.DoneRow.{DoneRow}
use Rattle.resp.specs.declared.reply.Reply.{Reply}
use Rattle.router.specs.Router.{waiting}
use Rattle.router.specs.declared.outcome.Outcome.{Outcome}
use Rattle.world.specs.Steps.{Collected}

same_row : (x y : DoneRow) → x ∷ [] ≡ y ∷ [] → x ≡ y
same_row x y same = let k = same in cc

-- none of its steps submits a request
pub cluster_finished : {all parts requests : ℕ} {c : ClusterView} → IsCluster all parts requests c → (h' : HistoryView)
    (done : List DoneRow) (seen : List Step) (reply : Reply) → HasFinished c.history done seen reply h' →
    IsCluster all parts requests (record c { history = h' })
cluster_finished is h' done seen reply has = cluster_other (cluster_settled is has.mid done has.settled) h' has.made refl

module _ (h h' : HistoryView) (s : SeatView) (done : List DoneRow) (reply : Reply) (floor : ℕ)
    (has : HasFinished h done s.seen reply h') (is : IsFloorOf s done floor) where
  abbrev outcome : Outcome
  outcome = outcome_with has.row reply

  same : is.row ≡ has.row
  same = same_row is.row has.row (sym is.only ∙ has.only)

  made : IsMade has.mid (Collect s.conn) (Collected (Some (outcome_shown outcome))) h'
  made = subst (λ (i : RequestId). IsMade has.mid (Collect i.conn) (Collected (Some (outcome_shown outcome))) h')
      (ap (λ (x : DoneRow). x.id) (sym same) ∙ is.own) has.made

  can : CanCollect has.mid s
  can = record {
    left = made.left;
    outcome = outcome;
    waits = subst (λ (i : RequestId). waiting has.mid.front.router i.conn.0 ≡ Some outcome)
        (ap (λ (x : DoneRow). x.id) (sym same) ∙ is.own) has.waits;
    own = ap (λ (x : DoneRow). x.id.seq) (sym same) ∙ ap (λ (i : RequestId). i.seq) is.own;
    above = subst (λ (x : DoneRow). Rattle.cluster.specs.Outcomes.IsAbove (Some x.stamp) s.floor) same is.above;
  }

  pub seat_finishes : (after : SeatView) → after ≡ record s { floor = floor; seen = h'.steps } → Finishes h done s reply h' after
  seat_finishes after seat = record {
    mid = has.mid;
    settled = has.settled;
    lawful = has.lawful;
    replied = record {
      outcome = outcome;
      reply = refl;
      made = made;
      id = own has.mid h' s can has.lawful outcome made;
      behind = has.behind;
      from = from has.mid h' s can has.lawful outcome made;
      above = above has.mid h' s can has.lawful outcome made;
      seat = seat ∙ ap (λ (n : ℕ). record s { floor = n; seen = h'.steps })
          (is.clock ∙ ap (λ (x : DoneRow). x.stamp.clock) same);
    };
  }
