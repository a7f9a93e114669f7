-- An outcome that is settled and collected at once: the router between.
use Rattle.std.specs.Map.{set_value}
use Rattle.std.proofs.lemmas.Map.Steps.{set_value_same}
use Rattle.std.proofs.Common.{◌≡◌, ℕ, ◌==◌, ◌∷◌, Bool, true, false, cond, List, Option, Some, None, rules, refl, sym, ap, ◌∙◌}
use Rattle.std.specs.BTreeMap.{is_at}
use Rattle.std.specs.Ordering.{nat_cmp}
use Rattle.router.specs.Connection.{with_standing, settled_with}
use Rattle.router.specs.Finishing.{Finishes}
use Rattle.router.specs.Router.{RouterView, connection, Changes}
use Rattle.router.specs.declared.connection.Connection.{Connection}
use Rattle.router.specs.declared.connection.Standing.TheVariants.{Idle}
use Rattle.router.specs.declared.outcome.Outcome.{Outcome}

-- a connection that is written back as it was leaves all as it was
pub written_back : (old : RouterView) (kept : List (ℕ × Connection)) (n : ℕ) (was : Connection) → connection old n ≡ Some was
    → kept ≡ set_value (is_at (nat_cmp n)) old.kept was → record old { kept = kept } ≡ old
written_back old kept n was there written =
    ap (λ (ks : List (ℕ × Connection)). let r : RouterView = record old { kept = ks } in r)
    (written ∙ set_value_same (is_at (nat_cmp n)) old.kept was there)

-- what stands there is written over
over : (b : Bool) (x y z : Option Connection) → cond b x z ≡ cond b x (cond b y z)
over true x y z = refl
over false x y z = refl

module _ (old new : RouterView) (clock : ℕ) (outcome : Outcome) (was : Connection) where
  abbrev c : ℕ
  c = outcome.id.conn.0

  abbrev settled : Connection
  settled = settled_with was clock outcome

  -- the connection has its outcome
  abbrev mid : RouterView
  mid = record { opened = old.opened; kept = (c, settled) ∷ old.kept; lists = old.lists }

  mid_at : (d : ℕ) → connection mid d ≡ cond (d == c) (Some settled) (connection old d)
  mid_at d = search rules

  pub finishes : connection old c ≡ Some was → was.is_open ≡ true → Changes old new c (Some (with_standing settled Idle))
      → Finishes old clock outcome new
  finishes kept live changes = record {
    was = was;
    kept = kept;
    mid = mid;
    settles = record {
      opened = refl;
      at = λ d. mid_at d ∙ ap (λ b. cond (d == c) (cond b (Some settled) None) (connection old d)) (sym live);
      sessions = refl;
    };
    collects = record {
      was = settled;
      kept = mid_at c ∙ search rules;
      live = live;
      given = refl;
      after = record {
        opened = changes.opened;
        at = λ d. changes.at d ∙ over (d == c) (Some (with_standing settled Idle)) (Some settled) (connection old d)
            ∙ ap (cond (d == c) (Some (with_standing settled Idle))) (sym (mid_at d));
        sessions = changes.sessions;
      };
    };
  }
