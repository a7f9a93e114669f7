-- A layer of one request is settled and its outcome collected by the world, one after the other.
use Rattle.std.proofs.Common.{◌≡◌, ℕ, ◌+◌, List, [], ◌∷◌, Some, option_map, refl, sym, ap, ◌∙◌, subst, arith}
use Rattle.front.proofs.Connecting.{collect_makes}
use Rattle.front.proofs.Half.{half_starts, next_outcome, next_did, half_ends}
use Rattle.front.proofs.SettleMakes.{front_after, settles, once_settled}
use Rattle.front.proofs.Showing.{stepped, once_made}
use Rattle.front.specs.Connections.{outcome_shown}
use Rattle.front.specs.Finishing.{outcome_with, Finishes}
use Rattle.front.specs.Fronts.{FrontView, IsFront}
use Rattle.front.specs.Making.{Makes}
use Rattle.front.specs.Outcomes.{Gives, HaveGone}
use Rattle.front.specs.Settling.{IsTrueOf, Settles}
use Rattle.journal.specs.declared.step.Step.TheVariants.{Collect}
use Rattle.layer_results.specs.declared.done.DoneRow.{DoneRow}
use Rattle.resp.specs.Content.{content}
use Rattle.resp.specs.declared.reply.Reply.{Reply}
use Rattle.router.specs.Finishing as router
use Rattle.router.specs.Router.{RouterView, outcome_at, waiting}
use Rattle.router.specs.declared.outcome.Outcome.{Outcome}
use Rattle.skeen_core.specs.declared.packet.Delivered.{Delivered}
use Rattle.world.specs.Steps.{reply_of, Collected}

module _ (old : FrontView) (row : DoneRow) (reply : Reply) (replied : row.reply ≡ Some reply) (r : RouterView)
    (does : router.Finishes old.router row.stamp.clock (outcome_with row reply) r) where
  abbrev outcome : Outcome
  outcome = outcome_with row reply

  gives : Gives row outcome
  gives = record { id = refl; reply = ap (λ x. reply_of (option_map content x)) (sym replied); stamp = refl }

  gone : HaveGone (row ∷ []) old.router does.mid
  gone t w done es standing told settling =
      let half = half_starts t w done es standing (row ∷ []) old.router told settling in
      let next = next_outcome t w done es standing (row ∷ []) [] row old.router half refl in
      half_ends t w done es standing [] does.mid refl
      (next_did t w done es standing row [] old.router does.mid half.front next outcome row.stamp gives refl
      (does.was, does.kept, does.settles))

  -- the front that has settled it
  abbrev mid : FrontView
  mid = front_after old does.mid []

  settled : Settles old (row ∷ []) mid
  settled = settles old (row ∷ []) does.mid gone [] refl

  waits : waiting does.mid row.id.conn.0 ≡ Some outcome
  waits = ap outcome_at does.collects.kept ∙ sym does.collects.given

  -- and the front where the connection has collected it
  abbrev pub finished_front : List Delivered → FrontView
  finished_front out = record old { router = r; out = out; steps = old.steps + 2; layers = old.layers + 1 }

  -- its steps, counted at once
  counted : (old.steps + 1) + 1 ≡ old.steps + 2
  counted = omega arith

  collects : (out : List Delivered) → out ≡ [] →
      Makes mid (Collect row.id.conn) (Collected (Some (outcome_shown outcome))) (finished_front out)
  collects out none =
      subst (λ (n : ℕ). Makes mid (Collect row.id.conn) (Collected (Some (outcome_shown outcome)))
      (record (finished_front out) { steps = n })) counted
      (subst (λ (ds : List Delivered). Makes mid (Collect row.id.conn) (Collected (Some (outcome_shown outcome)))
      (record (stepped mid r mid.multicast) { out = ds })) (sym none) (collect_makes mid r row.id.conn (Some outcome) does.collects))

  pub finishes : (out : List Delivered) → out ≡ [] → Finishes old row (finished_front out)
  finishes out none = record {
    reply = reply;
    replied = replied;
    mid = mid;
    settles = settled;
    waits = waits;
    collects = collects out none;
  }

  pub once_finished : IsFront old → IsTrueOf old (row ∷ []) → (out : List Delivered) → out ≡ [] → IsFront (finished_front out)
  once_finished is truth out none =
      once_made mid (finished_front out) (once_settled old mid (row ∷ []) is truth settled) (Collect row.id.conn) tt
      (Collected (Some (outcome_shown outcome))) (collects out none)
