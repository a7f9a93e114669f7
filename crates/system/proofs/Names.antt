-- What some names of requests and of their members name, and which of these stand among those of what starved.
use Rattle.std.proofs.Common.{◌≡◌, ℕ, true, ◌||◌, List, [], ◌∷◌, inl, inr, map, None, refl, sym, ap, subst, eqb-true, nat_eq}
use Rattle.std.proofs.lemmas.Bool.{or_cases, or_right}
use Rattle.tasks.specs.Starved.{has}
use Rattle.groups.proofs.Ids.{same_id-true, eq-same_id}
use Rattle.groups.proofs.Lists.{In-left, In-right}
use Rattle.groups.specs.Order.{In}
use Rattle.groups.specs.Request.{same_id}
use Rattle.groups.specs.Skips.{names_whole}
use Rattle.groups.specs.declared.request.RequestId.{RequestId}
use Rattle.groups.specs.declared.skip_id.SkipId.{SkipId}
use Rattle.groups.specs.declared.skip_id.SkipId.TheVariants.{Whole, Part}
use Rattle.tasks.specs.Tasks.{starved_names}
use Rattle.world.specs.Steps.{starved_among}
use Rattle.world.specs.World.{Ended}

-- ---- requests as wholes

pub whole_in : (names : List SkipId) (id : RequestId) → In (Whole id) names → names_whole names id ≡ true
whole_in [] id there = absurd there
whole_in (Whole i ∷ names) id (inl same) =
    let e : i ≡ id = cc in ap (λ b. b || names_whole names id) (eq-same_id i id e)
whole_in (Whole i ∷ names) id (inr there) = or_right (same_id i id) (names_whole names id) (whole_in names id there)
whole_in (Part i n ∷ names) id (inl same) = cc
whole_in (Part i n ∷ names) id (inr there) = whole_in names id there

pub in_whole : (names : List SkipId) (id : RequestId) → names_whole names id ≡ true → In (Whole id) names
in_whole [] id named = cc
in_whole (Whole i ∷ names) id named = elim (or_cases (same_id i id) (names_whole names id) named) [
  | inl here ↦ inl (ap Whole (sym (same_id-true i id here)))
  | inr later ↦ inr (in_whole names id later)
]
in_whole (Part i n ∷ names) id named = inr (in_whole names id named)

-- ---- members

pub in_numbers : (id : RequestId) (numbers : List ℕ) (n : ℕ) → has numbers n ≡ true → In (Part id n) (map (Part id) numbers)
in_numbers id [] n among = cc
in_numbers id (k ∷ ks) n among = elim (or_cases (nat_eq k n) (has ks n) among) [
  | inl this ↦ inl (ap (Part id) (sym (eqb-true k n this)))
  | inr later ↦ inr (in_numbers id ks n later)
]

-- ---- what starved

-- what starved of a request stands among what starved of all
pub in_starved : (es : List Ended) (e : Ended) (name : SkipId) → In e es → In name (starved_names e.id e.task e.reply) →
    In name (starved_among es)
in_starved [] e name there named = absurd there
in_starved (f ∷ fs) e name (inl same) named =
    In-left name (starved_names f.id f.task f.reply) (starved_among fs)
    (subst (λ (x : Ended). In name (starved_names x.id x.task x.reply)) same named)
in_starved (f ∷ fs) e name (inr later) named =
    In-right name (starved_names f.id f.task f.reply) (starved_among fs) (in_starved fs e name later named)

-- a request without a reply starved as a whole
pub whole_starved : (es : List Ended) (e : Ended) → In e es → e.reply ≡ None → In (Whole e.id) (starved_among es)
whole_starved es e there none =
    in_starved es e (Whole e.id) there (subst (λ o. In (Whole e.id) (starved_names e.id e.task o)) (sym none) (inl refl))
