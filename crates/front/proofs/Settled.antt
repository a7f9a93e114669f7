-- A layer's outcomes, from the first to the last: then the router shows the world that has settled it.
use Rattle.std.proofs.Common.{◌≡◌, ℕ, List, [], ◌++◌, inl, inr, refl, sym, ap, ◌∙◌, subst, append-nil}
use Rattle.std.proofs.lemmas.Bool.{both_ways}
use Rattle.std.proofs.lemmas.List.{append_cancel_right}
use Rattle.front.specs.Outcomes.{half_settled, IsSettling}
use Rattle.groups.proofs.Lists.{In-right}
use Rattle.groups.specs.Order.{In}
use Rattle.groups.specs.declared.request.RequestId.{RequestId}
use Rattle.journal.specs.declared.step.Step.{Step}
use Rattle.placement.specs.Layout.{Layout}
use Rattle.router.specs.Router.{RouterView, connection}
use Rattle.skeen_core.specs.Group.{EachOnce}
use Rattle.front.proofs.WorldConnections.{Alike, connection_alike}
use Rattle.front.specs.Connections.{InLayer, id_of, IsSettled, ShowsConnections}
use Rattle.world.specs.Steps.{opening, settled, Leads}
use Rattle.world.specs.World.{World, Ended, Layer, NoneTaken, HasRun}
use Rattle.world_laws.proofs.OrderLaws.{ends_once}
use Rattle.world_laws.proofs.Worlds.{good_world}
use Rattle.world_laws.specs.Good.{Named, run_in}
use Rattle.world_laws.specs.Order.{ids_of}

module _ (t : Layout) (h : List Step) (w : World) (es : List Ended) (leads : Leads t opening h w) (has_run : w.layer ≡ HasRun es) where
  -- what was settled before
  abbrev pub before : List Ended
  before = (good_world t h w leads).connections.settled

  pub split : w.ended ≡ before ++ es
  split = (good_world t h w leads).connections.split ∙ ap (λ (l : Layer). before ++ run_in l) has_run

  once_ended : EachOnce (ids_of (before ++ es))
  once_ended = subst (λ l. EachOnce (ids_of l)) split (ends_once t h w leads)

  abbrev pub all_settled : World
  all_settled = record w { standing = settled es w.standing; layer = NoneTaken }

  -- ---- the first

  module _ (r : RouterView) (shows : ShowsConnections r w) where
    settled_so : (i : RequestId) → IsSettled w i → Named before i
    settled_so i done =
        let same = append_cancel_right done.0 before es
        (sym (done.1 ∙ ap (λ (l : Layer). done.0 ++ run_in l) has_run) ∙ split) in
        subst (λ l. Named l i) same done.2

    alike_first : (c : ℕ) → Alike w (half_settled w before es w.standing) c
    alike_first c = record {
      standing = refl;
      seq = refl;
      floor = λ free. refl;
      asked = λ seq. refl;
      layer = λ seq there. subst (λ (l : Layer). InLayer l (id_of c seq)) has_run there;
    }

    pub settle_starts : IsSettling t w before es w.standing r
    settle_starts = record {
      steps = h;
      leads = leads;
      layer = es;
      has_run = has_run;
      among = λ e there. there;
      run = λ e there. subst (λ l. In e l) (sym split) (In-right e before es there);
      once = once_ended;
      closed = λ c closed. closed;
      shows = record {
        opened = shows.opened;
        sessions = shows.sessions;
        each = λ c. connection_alike (connection r c) w (half_settled w before es w.standing) c (alike_first c) (shows.each c);
        under_way = λ i q asked. elim (shows.under_way i q asked) [
          | inl done ↦ inl (before, refl, settled_so i done)
          | inr kept ↦ inr kept
        ];
      };
    }

  -- ---- the last

  module _ (r : RouterView) (is : IsSettling t w (before ++ es) [] (settled es w.standing) r) where
    alike_last : (c : ℕ) → Alike (half_settled w (before ++ es) [] (settled es w.standing)) all_settled c
    alike_last c = record {
      standing = refl;
      seq = refl;
      floor = λ free. refl;
      asked = λ seq. refl;
      layer = λ seq there. absurd (both_ways _ refl there);
    }

    settled_last : (i : RequestId) → IsSettled (half_settled w (before ++ es) [] (settled es w.standing)) i → IsSettled all_settled i
    settled_last i done =
        let same = append_cancel_right done.0 (before ++ es) [] (sym done.1) ∙ sym split in
        (w.ended, sym (append-nil w.ended), subst (λ l. Named l i) same done.2)

    pub settle_ends : ShowsConnections r all_settled
    settle_ends = record {
      opened = is.shows.opened;
      sessions = is.shows.sessions;
      each = λ c. connection_alike (connection r c) (half_settled w (before ++ es) [] (settled es w.standing)) all_settled c (alike_last c)
          (is.shows.each c);
      under_way = λ i q asked. elim (is.shows.under_way i q asked) [
        | inl done ↦ inl (settled_last i done)
        | inr kept ↦ inr kept
      ];
    }
