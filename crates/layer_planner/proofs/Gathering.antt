-- What jobs that were seen leave to those that follow.
use Rattle.std.proofs.Common.{◌≡◌, ℕ, ◌<◌, ◌≤◌, ◌==◌, ◌||◌, Bool, true, false, List, [], ◌∷◌, Option, Some, None, length, slice_index_or}
use Rattle.std.proofs.Common.{slice_set, ◌↔◌, refl, sym, ap, ◌∙◌, subst, arith, inl, inr, eq-eqb, ne_eqb}
use Rattle.std.proofs.lemmas.Bool.{both_ways, or_parts, or_left, cases_eq, cases_Bool}
use Rattle.std.proofs.lemmas.List.{get_or-set_same, get_or-set_other}
use Rattle.groups.proofs.Stamps.{lt_trans}
use Rattle.groups.specs.GroupSet.{has, with_group}
use Rattle.groups.specs.GroupSetLaws.{has-with}
use Rattle.groups.specs.Order.{In}
use Rattle.groups.specs.Stamp.{stamp_lt}
use Rattle.groups.specs.declared.stamp.Stamp.{Stamp}
use Rattle.layer_planner.specs.Layers.{StandTogether}
use Rattle.layer_planner.specs.Seen.{MayStandBehind, MayJoin, HasJoined}
use Rattle.layer_planner.specs.declared.job.Job.{Job}
use Rattle.layer_planner.specs.declared.seen.Seen.{Seen}

pub eqb_sym : (a b : ℕ) → (a == b) ≡ (b == a)
eqb_sym a b = elim (cases_eq a b) [
  | inl e ↦ eq-eqb a b e ∙ sym (eq-eqb b a (sym e))
  | inr apart ↦ ne_eqb a b apart ∙ sym (ne_eqb b a (λ e. apart (sym e)))
]

-- ---- one more of the others' groups

or_moves : (a b c : Bool) → ((b || a) || c) ≡ (a || (b || c))
or_moves true true c = refl
or_moves true false c = refl
or_moves false true c = refl
or_moves false false c = refl

pub union_more : (all all' it rest : List ℕ) (g h : ℕ) → all' ≡ with_group all g → it ≡ g ∷ rest
    → (has all' h || has rest h) ≡ (has all h || has it h)
union_more all all' it rest g h e f =
    ap (λ l. has l h || has rest h) e ∙ ap (λ b. b || has rest h) (has-with all g h) ∙ or_moves (has all h) (g == h) (has rest h)
    ∙ sym (ap (λ l. has all h || has l h) f)

-- ---- a job that joins

-- who may stand behind some stamp may stand behind an earlier one of its own group
behind_earlier : (last : Option Stamp) (g : ℕ) (stamp : Stamp) (others : List ℕ) (after : Stamp) → MayStandBehind last g (g ∷ []) stamp
    → MayStandBehind (Some stamp) g others after → MayStandBehind last g others after
behind_earlier None g stamp others after a b = tt
behind_earlier (Some last) g stamp others after a b = (b.0, lt_trans last stamp after a.1 b.1)

only : (g h : ℕ) → has (g ∷ []) h ≡ true → g ≡ h
only g h e = elim (cases_eq g h) [
  | inl same ↦ same
  | inr apart ↦ absurd (both_ways _ (ap (λ b. b || false) (ne_eqb g h apart)) e)
]

itself : (g : ℕ) → has (g ∷ []) g ≡ true
itself g = or_left (g == g) false (eq-eqb g g refl)

pub joined_alone : (old new : Seen) (g : ℕ) (stamp : Stamp) → new.shared ≡ old.shared → new.lasts ≡ slice_set old.lasts g (Some stamp)
    → g < length old.lasts → MayJoin old (g ∷ []) stamp → HasJoined old (g ∷ []) stamp new
joined_alone old new g stamp shared lasts low may = record {
  fewer = λ others after join. (
    (λ h there. elim (cases_eq g h) [
      | inl same ↦ subst (λ n. (has old.shared n ≡ false) × MayStandBehind (slice_index_or old.lasts n None) n others after) same (
        ap (λ l. has l g) (sym shared) ∙ (join g (subst (λ n. has others n ≡ true) (sym same) there)).0,
        behind_earlier (slice_index_or old.lasts g None) g stamp others after (may g (itself g)).1
            (behind others after join (subst (λ n. has others n ≡ true) (sym same) there)),
      )
      | inr apart ↦ (
        ap (λ l. has l h) (sym shared) ∙ (join h there).0,
        subst (λ o. MayStandBehind o h others after) (elsewhere h apart) (join h there).1,
      )
    ]),
    (λ h here there. subst (λ n. (g ∷ [] ≡ n ∷ []) × (others ≡ n ∷ []) × (stamp_lt stamp after ≡ true)) (only g h here) (
        let b = behind others after join (subst (λ n. has others n ≡ true) (sym (only g h here)) there) in (refl, b.0, b.1)
        )),
  );
  still = λ others after join follow h there. elim (cases_eq g h) [
    | inl same ↦ subst (λ n. (has new.shared n ≡ false) × MayStandBehind (slice_index_or new.lasts n None) n others after) same (
        let f = follow g (itself g) (subst (λ n. has others n ≡ true) (sym same) there) in (
          ap (λ l. has l g) shared ∙ (join g (subst (λ n. has others n ≡ true) (sym same) there)).0,
          subst (λ o. MayStandBehind o g others after) (sym here_now) (f.1, f.2),
        )
        )
    | inr apart ↦ (
      ap (λ l. has l h) shared ∙ (join h there).0,
      subst (λ o. MayStandBehind o h others after) (sym (elsewhere h apart)) (join h there).1,
    )
  ];
}
  where
    here_now : slice_index_or new.lasts g None ≡ Some stamp
    here_now = ap (λ l. slice_index_or l g None) lasts ∙ get_or-set_same old.lasts g (Some stamp) None low

    elsewhere : (h : ℕ) → (g ≡ h → ⊥) → slice_index_or new.lasts h None ≡ slice_index_or old.lasts h None
    elsewhere h apart = ap (λ l. slice_index_or l h None) lasts ∙ get_or-set_other old.lasts g h (Some stamp) None (λ e. apart (sym e))

    behind : (others : List ℕ) (after : Stamp) → MayJoin new others after → has others g ≡ true → MayStandBehind (Some stamp) g others after
    behind others after join there = subst (λ o. MayStandBehind o g others after) here_now (join g there).1

pub joined_shared : (old new : Seen) (groups : List ℕ) (stamp : Stamp) → ((g : ℕ) → groups ≡ g ∷ [] → ⊥)
    → ((g : ℕ) → has new.shared g ≡ (has old.shared g || has groups g)) → new.lasts ≡ old.lasts → HasJoined old groups stamp new
joined_shared old new groups stamp several shared lasts = record {
  fewer = λ others after join. (
    (λ h there. (
      (or_parts (has old.shared h) (has groups h) (sym (shared h) ∙ (join h there).0)).0,
      subst (λ l. MayStandBehind (slice_index_or l h None) h others after) lasts (join h there).1,
    )),
    (λ h here there. absurd (both_ways _ (or_parts (has old.shared h) (has groups h) (sym (shared h) ∙ (join h there).0)).1 here)),
  );
  still = λ others after join follow h there. (
    shared h ∙ ap (λ b. b || has groups h) (join h there).0 ∙ elim (cases_Bool (has groups h)) [
      | inl here ↦ absurd (several h (follow h here there).0)
      | inr away ↦ away
    ],
    subst (λ l. MayStandBehind (slice_index_or l h None) h others after) (sym lasts) (join h there).1,
  );
}

-- ---- a job of several groups

-- the group has nothing of those that were seen
pub record IsFree (seen : Seen) (g : ℕ) : Type 0 where
  pub shared : has seen.shared g ≡ false
  pub last : slice_index_or seen.lasts g None ≡ None

pub may_join : (seen : Seen) (groups : List ℕ) (stamp : Stamp) → ((g : ℕ) → has groups g ≡ true → IsFree seen g) → MayJoin seen groups stamp
may_join seen groups stamp free g there =
    let f = free g there in (f.shared, subst (λ o. MayStandBehind o g groups stamp) (sym f.last) tt)

pub must_be_free : (seen : Seen) (groups : List ℕ) (stamp : Stamp) (g : ℕ) → ((g : ℕ) → groups ≡ g ∷ [] → ⊥) → has groups g ≡ true
    → MayJoin seen groups stamp → IsFree seen g
must_be_free seen groups stamp g several there join = record {
  shared = (join g there).0;
  last = elim (slice_index_or seen.lasts g None) as (λ o. MayStandBehind o g groups stamp → o ≡ None) [
    | None ↦ λ _. refl
    | Some t ↦ λ behind. absurd (several g behind.0)
  ] (join g there).1;
}

-- ---- what is left to gather

pub record Left (seen : Seen) (js : List Job) : Type 0 where
  pub join : (j : Job) → In j js → MayJoin seen j.groups j.stamp
  pub stand : StandTogether js

pub left_more : (seen new : Seen) (j : Job) (js : List Job) → MayJoin seen j.groups j.stamp → HasJoined seen j.groups j.stamp new
    → Left seen (j ∷ js) ↔ Left new js
left_more seen new j js may joined = (
  (λ left. record {
    join = λ k there. joined.still k.groups k.stamp (left.join k (inr there)) (left.stand.0 k there);
    stand = left.stand.1;
  }),
  (λ left. record {
    join = λ k. elim [
      | inl same ↦ subst (λ (i : Job). MayJoin seen i.groups i.stamp) (sym same) may
      | inr there ↦ (joined.fewer k.groups k.stamp (left.join k there)).0
    ];
    stand = ((λ k there. (joined.fewer k.groups k.stamp (left.join k there)).1), left.stand);
  }),
)

pub few_stand : (js : List Job) → length js ≤ 1 → StandTogether js
few_stand [] h = tt
few_stand (j ∷ []) h = ((λ k i. absurd i), tt)
few_stand (j ∷ k ∷ js) h = absurd (omega (arith, h))
