use Rattle.std.proofs.Common.{◌≡◌, Option, Some, None, MutBor, refl, sym, ap, subst, ◌∙◌}
use Rattle.std.specs.Option.{IsSome, OnSome, option_copied_mut}
use Rattle.keyspace.proofs.Entries.{get-map_of, map_of-inserted}
use Rattle.keyspace.specs.Plain.{map_of}
use Rattle.values.specs.declared.Value.{Value}
use Rattle.keyspace.proofs.plain.PlainKeyspace.look_mut.Goals as goal

-- what holds where a value is there holds where one is lent
where_lent : (lent : Option (MutBor Value)) (there : Option Value) (P : Type 0) → option_copied_mut lent ≡ there → (IsSome there → P)
    → OnSome lent P
where_lent None there P seen holds = tt
where_lent (Some x) there P seen holds = holds (subst IsSome seen refl)

pub returns : goal.returns
returns g c =
    let es = c.args.self.now.entries.entries in
    let kept = ap map_of (ap (λ m. m.entries) c.get_mut.follows.holds-at-none) in
    let seen = c.get_mut.ensures.value ∙ sym (get-map_of es c.args.key.now) in (
      (
        refl,
        (λ w. where_lent c.get_mut.result _ _ c.get_mut.ensures.value (λ there.
            let u = (c.get_mut.follows.holds w).3 there in map_of-inserted c.args.key.now es _ w u.1 u.3)),
        kept,
      ),
      record { writes_back = tt; value = seen },
    )
