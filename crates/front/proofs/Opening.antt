-- What a new front shows.
use Rattle.std.proofs.Common.{◌≡◌, ℕ, [], length, refl, sym, subst}
use Rattle.std.specs.BTreeMap.{is_at}
use Rattle.std.specs.Map.{lookup}
use Rattle.std.specs.Ordering.{nat_cmp}
use Rattle.delivery.specs.Queues.{queue_of}
use Rattle.front.specs.Fronts.{FrontView, FrontIsAt}
use Rattle.multicast.specs.Multicast.{group_of}
use Rattle.router.specs.Router.{RouterView, session_at}
use Rattle.sessions.specs.declared.session.Session.TheVariants.{Free}
use Rattle.skeen_core.specs.Group.{fresh}
use Rattle.front.specs.Connections.{ShowsConnections, ShowsConnection}
use Rattle.world.specs.Steps.{opening}

connections : (r : RouterView) → r.opened ≡ 0 → r.kept ≡ [] → ((c : ℕ) → session_at r c ≡ Free) → ShowsConnections r opening
connections r opened none free = record {
  opened = opened;
  sessions = record { of_open = λ c live. free c; of_closed = λ c shut. free c };
  each = λ c. subst (λ kept. ShowsConnection (lookup (is_at (nat_cmp c)) kept) opening c) (sym none) refl;
  under_way = λ id q asked. absurd (let k = asked in cc);
}

-- what each part is when nothing has happened
pub record IsOpening (f : FrontView) : Type 0 where
  pub opened : f.router.opened ≡ 0
  pub kept : f.router.kept ≡ []
  pub sessions : (c : ℕ) → session_at f.router c ≡ Free
  pub count : length f.multicast.groups ≡ f.table.shards
  pub fresh : (g : ℕ) → group_of f.multicast.groups g ≡ fresh
  pub packets : f.multicast.packets ≡ []
  pub empty : (g : ℕ) → queue_of f.multicast.queues g ≡ []
  pub out : f.out ≡ []

pub opening_shown : (f : FrontView) → IsOpening f → FrontIsAt f [] opening
opening_shown f is = record {
  leads = ([], (refl, refl));
  shows = record {
    connections = connections f.router is.opened is.kept is.sessions;
    multicast = record { count = is.count; groups = is.fresh; packets = is.packets; queues = is.empty };
    out = is.out;
  };
}
