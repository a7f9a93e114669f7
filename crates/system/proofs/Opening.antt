-- What a new system shows.
use Rattle.std.proofs.Common.{◌≡◌, ℕ, suc, [], None, refl, sym, ap, ◌∙◌, subst}
use Rattle.std.proofs.Math.ListN.{replicate}
use Rattle.back.specs.Backs.{BackState, new_back}
use Rattle.front.specs.Fronts as front
use Rattle.placement.specs.Layout.{Layout}
use Rattle.shard_exec.specs.Stamps.{last_of}
use Rattle.shards.proofs.Empty.{joined-empty}
use Rattle.system.proofs.Fronting.{is_at}
use Rattle.system.specs.Halves.{IsAt, ShowsStage}
use Rattle.system.specs.declared.halves.Halves.{Halves}
use Rattle.system.specs.declared.stage.Stage.TheVariants.{Free}
use Rattle.front.specs.Layers.{AreRows, ShowsStore}
use Rattle.world.specs.Steps.{opening}

none_last : (n shard : ℕ) → last_of (replicate n None) shard ≡ None
none_last (suc n) (suc shard) = none_last n shard
none_last n shard = refl

-- both halves are new
pub record IsOpening (t : Layout) (p : Halves) : Type 0 where
  pub front : front.IsNew t p.front
  pub back : p.back ≡ new_back t
  pub stage : p.stage ≡ Free
  pub starved : p.starved.items ≡ []

pub opening_shown : (t : Layout) (p : Halves) → IsOpening t p → IsAt p [] opening
opening_shown t p is =
    is_at p [] opening (is.front.table ∙ sym (ap (λ (b : BackState). b.store.table) is.back)) is.front.at
    (subst (λ (b : BackState). ShowsStore b.store.table b.store opening) (sym is.back) (record {
      table = refl;
      lives = refl;
      contents = joined-empty t.shards;
      lasts = λ g stamp last. absurd (let k = sym (none_last t.shards g) ∙ last in cc);
    }))
    (subst (λ s. ShowsStage s opening) (sym is.stage) refl)
    (subst (λ (b : BackState). AreRows [] b.rows) (sym is.back) tt) is.starved
