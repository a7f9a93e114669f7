-- The first places of units, found one after another and put in order of their stamps.
use Rattle.std.proofs.Common.{◌≡◌, ℕ, zero, suc, ◌+◌, ◌<◌, ◌≤◌, ◌==◌, ◌||◌, ◌⊎◌, Bool, true, false, not, cond, List, [], ◌∷◌, ◌++◌, length}
use Rattle.std.proofs.Common.{slice_index_or, refl, sym, ap, ◌∙◌, subst, arith, inl, inr, ne_eqb}
use Rattle.std.specs.List.{insert}
use Rattle.std.proofs.lemmas.Bool.{both_ways}
use Rattle.std.proofs.lemmas.List.{append-nil}
use Rattle.groups.proofs.Lists.{In-get}
use Rattle.groups.proofs.Stamps.{le_trans, lt_asym}
use Rattle.groups.specs.GroupSet.{has, chosen}
use Rattle.groups.specs.Order.{In}
use Rattle.groups.specs.Stamp.{stamp_lt}
use Rattle.layer_planner.specs.declared.job.Job.{Job}
use Rattle.layer_planner.specs.Firsts.{IsRising, HaveBegun, is_begun}
use Rattle.layer_planner.specs.Units.{groups_each, groups_at, stamp_at, line_up, has_begun, is_first, put_by_stamp, by_stamps}
use Rattle.layer_planner.specs.Units.{firsts, units}

-- ---- what is chosen of one number more

pub chosen-last : (test : ℕ → Bool) (a n : ℕ) → chosen test a (suc n) ≡ chosen test a n ++ cond (test (a + n)) ((a + n) ∷ []) []
unfolding chosen
chosen-last test a zero = let e : a ≡ a + 0 = omega arith in ap (λ k. cond (test k) (k ∷ []) []) e
chosen-last test a (suc n) =
    let e : suc a + n ≡ a + suc n = omega arith in
    front (test a) _ _ _ (chosen-last test (suc a) n ∙ ap (λ k. chosen test (suc a) n ++ cond (test k) (k ∷ []) []) e)
  where
    front : (b : Bool) (xs ys zs : List ℕ) → xs ≡ ys ++ zs → cond b (a ∷ xs) xs ≡ cond b (a ∷ ys) ys ++ zs
    front true xs ys zs e = ap (λ l. a ∷ l) e
    front false xs ys zs e = e

pub chosen_yes : (test : ℕ → Bool) (n m : ℕ) → m ≡ n + 1 → test n ≡ true → chosen test 0 m ≡ chosen test 0 n ++ n ∷ []
chosen_yes test n m e passes =
    let up : m ≡ suc n = omega (arith, e) in
    let z : 0 + n ≡ n = omega arith in
    ap (chosen test 0) up ∙ chosen-last test 0 n ∙ ap (λ k. chosen test 0 n ++ cond (test k) (k ∷ []) []) z
    ∙ ap (λ b. chosen test 0 n ++ cond b (n ∷ []) []) passes

pub chosen_no : (test : ℕ → Bool) (n m : ℕ) → m ≡ n + 1 → test n ≡ false → chosen test 0 m ≡ chosen test 0 n
chosen_no test n m e fails =
    let up : m ≡ suc n = omega (arith, e) in
    let z : 0 + n ≡ n = omega arith in
    ap (chosen test 0) up ∙ chosen-last test 0 n ∙ ap (λ k. chosen test 0 n ++ cond (test k) (k ∷ []) []) z
    ∙ ap (λ b. chosen test 0 n ++ cond b (n ∷ []) []) fails ∙ append-nil (chosen test 0 n)

-- ---- in order

In-put : (jobs : List Job) (i m : ℕ) (ks : List ℕ) → In m (put_by_stamp jobs i ks) → (m ≡ i) ⊎ In m ks
In-put jobs i m [] (inl e) = inl e
In-put jobs i m [] (inr h) = absurd h
In-put jobs i m (k ∷ ks) h = elim (stamp_lt (stamp_at jobs i) (stamp_at jobs k))
    as (λ b. In m (cond b (i ∷ k ∷ ks) (k ∷ put_by_stamp jobs i ks)) → (m ≡ i) ⊎ In m (k ∷ ks)) [
      | true ↦ elim [ inl e ↦ inl e | inr rest ↦ inr rest ]
      | false ↦ elim [
        | inl e ↦ inr (inl e)
        | inr rest ↦ elim (In-put jobs i m ks rest) [ inl e ↦ inl e | inr later ↦ inr (inr later) ]
      ]
    ] h

pub rising_put : (jobs : List Job) (i : ℕ) (ks : List ℕ) → IsRising jobs ks → IsRising jobs (put_by_stamp jobs i ks)
rising_put jobs i [] up = ((λ m h. absurd h), tt)
rising_put jobs i (k ∷ ks) up = elim (stamp_lt (stamp_at jobs i) (stamp_at jobs k))
    as (λ b. stamp_lt (stamp_at jobs i) (stamp_at jobs k) ≡ b → IsRising jobs (cond b (i ∷ k ∷ ks) (k ∷ put_by_stamp jobs i ks))) [
      | true ↦ λ e. (
        (λ m. elim [
          | inl same ↦ subst (λ n. stamp_lt (stamp_at jobs n) (stamp_at jobs i) ≡ false) (sym same)
              (lt_asym (stamp_at jobs i) (stamp_at jobs k) e)
          | inr later ↦ le_trans (stamp_at jobs i) (stamp_at jobs k) (stamp_at jobs m)
              (lt_asym (stamp_at jobs i) (stamp_at jobs k) e) (up.0 m later)
        ]),
        up,
      )
      | false ↦ λ e. (
        (λ m h. elim (In-put jobs i m ks h) [
          | inl same ↦ subst (λ n. stamp_lt (stamp_at jobs n) (stamp_at jobs k) ≡ false) (sym same) e
          | inr later ↦ up.0 m later
        ]),
        rising_put jobs i ks up.1,
      )
    ] refl

-- the place behind all that are not later, and in front of those that are
pub put_is : (jobs : List Job) (i : ℕ) (ks : List ℕ) (at : ℕ) → IsRising jobs ks → at ≤ length ks
    → ((n : ℕ) → at ≡ suc n → stamp_lt (stamp_at jobs i) (stamp_at jobs (slice_index_or ks n 0)) ≡ false)
    → (at < length ks → stamp_lt (stamp_at jobs i) (stamp_at jobs (slice_index_or ks at 0)) ≡ true)
    → insert ks at i ≡ put_by_stamp jobs i ks
put_is jobs i [] zero up within before behind = refl
put_is jobs i [] (suc at) up within before behind = absurd (omega (arith, within))
put_is jobs i (k ∷ ks) zero up within before behind =
    ap (λ b. cond b (i ∷ k ∷ ks) (k ∷ put_by_stamp jobs i ks)) (sym (behind (omega arith)))
put_is jobs i (k ∷ ks) (suc at) up within before behind =
    let inside : at ≤ length ks = omega (arith, within) in
    ap (λ l. k ∷ l) (put_is jobs i ks at up.1 inside
    (λ n e. before (suc n) (ap suc e)) (λ low. behind (omega (arith, low))))
    ∙ ap (λ b. cond b (i ∷ k ∷ ks) (k ∷ put_by_stamp jobs i ks)) (sym (not_before at inside before))
  where
    not_before : (n : ℕ) → n ≤ length ks
        → ((m : ℕ) → suc n ≡ suc m → stamp_lt (stamp_at jobs i) (stamp_at jobs (slice_index_or (k ∷ ks) m 0)) ≡ false)
        → stamp_lt (stamp_at jobs i) (stamp_at jobs k) ≡ false
    not_before zero h b = b 0 refl
    not_before (suc n) h b = le_trans (stamp_at jobs k) (stamp_at jobs (slice_index_or ks n 0)) (stamp_at jobs i)
        (up.0 (slice_index_or ks n 0) (In-get ks n 0 (omega (arith, h)))) (b (suc n) refl)

by_stamps-last : (jobs : List Job) (sorted is : List ℕ) (i : ℕ)
    → by_stamps jobs sorted (is ++ i ∷ []) ≡ put_by_stamp jobs i (by_stamps jobs sorted is)
by_stamps-last jobs sorted [] i = refl
by_stamps-last jobs sorted (k ∷ is) i = by_stamps-last jobs (put_by_stamp jobs k sorted) is i

by_stamps-rises : (jobs : List Job) (sorted is : List ℕ) → IsRising jobs sorted → IsRising jobs (by_stamps jobs sorted is)
by_stamps-rises jobs sorted [] up = up
by_stamps-rises jobs sorted (i ∷ is) up = by_stamps-rises jobs (put_by_stamp jobs i sorted) is (rising_put jobs i sorted up)

pub firsts_rise : (jobs : List Job) → IsRising jobs (firsts jobs)
firsts_rise jobs = by_stamps-rises jobs [] (chosen (is_first (groups_each jobs)) 0 (length jobs)) tt

-- ---- one place after another

-- the first places so far
pub record AreFirsts (jobs : List Job) (n : ℕ) (groups found : List ℕ) : Type 0 where
  pub begun : HaveBegun (groups_each jobs) n groups
  pub places : found ≡ by_stamps jobs [] (chosen (is_first (groups_each jobs)) 0 n)
  pub rising : IsRising jobs found
  pub inside : (k : ℕ) → In k found → k < n

pub no_line : (gs hs : List ℕ) → ((g : ℕ) → gs ≡ g ∷ [] → ⊥) → line_up gs hs ≡ false
no_line [] hs several = refl
no_line (g ∷ []) hs several = absurd (several g refl)
no_line (g ∷ h ∷ gs) hs several = refl

none_begun : (sets : List (List ℕ)) (gs : List ℕ) (n : ℕ) → ((g : ℕ) → gs ≡ g ∷ [] → ⊥) → has_begun sets gs n ≡ false
none_begun sets gs zero several = refl
none_begun sets gs (suc n) several = ap (λ b. b || has_begun sets gs n) (no_line gs (groups_at sets n) several)
    ∙ none_begun sets gs n several

begun_is : (sets : List (List ℕ)) (n : ℕ) (begun gs : List ℕ) → HaveBegun sets n begun → is_begun begun gs ≡ has_begun sets gs n
begun_is sets n begun [] have = sym (none_begun sets [] n (λ g e. cc))
begun_is sets n begun (g ∷ []) have = have g
begun_is sets n begun (g ∷ h ∷ gs) have = sym (none_begun sets (g ∷ h ∷ gs) n (λ k e. cc))

module _ (jobs : List Job) (n m : ℕ) (up : m ≡ n + 1) (begun begun' places : List ℕ) (gs : List ℕ)
    (is : gs ≡ groups_at (groups_each jobs) n)
    (so_far : AreFirsts jobs n begun places) (more : (g : ℕ) → has begun' g ≡ (line_up (g ∷ []) gs || has begun g)) where
  have : HaveBegun (groups_each jobs) m begun'
  have g = let e : suc n ≡ m = omega (arith, up) in
      more g ∙ ap (λ l. line_up (g ∷ []) l || has begun g) is
      ∙ ap (λ b. line_up (g ∷ []) (groups_at (groups_each jobs) n) || b) (so_far.begun g) ∙ ap (has_begun (groups_each jobs) (g ∷ [])) e

  first_is : not (is_begun begun gs) ≡ is_first (groups_each jobs) n
  first_is = ap not (begun_is (groups_each jobs) n begun gs so_far.begun) ∙ ap (λ l. not (has_begun (groups_each jobs) l n)) is

  pub first_more : not (is_begun begun gs) ≡ true → (places' : List ℕ) → places' ≡ put_by_stamp jobs n places
      → AreFirsts jobs m begun' places'
  first_more first places' put = record {
    begun = have;
    places = put ∙ ap (put_by_stamp jobs n) so_far.places
        ∙ sym (by_stamps-last jobs [] (chosen (is_first (groups_each jobs)) 0 n) n)
        ∙ ap (by_stamps jobs []) (sym (chosen_yes (is_first (groups_each jobs)) n m up (sym first_is ∙ first)));
    rising = subst (IsRising jobs) (sym put) (rising_put jobs n places so_far.rising);
    inside = λ k there. elim (In-put jobs n k places (subst (In k) put there)) [
      | inl e ↦ omega (arith, e, up)
      | inr before ↦ let low = so_far.inside k before in omega (arith, low, up)
    ];
  }

  pub first_none : not (is_begun begun gs) ≡ false → AreFirsts jobs m begun' places
  first_none later = record {
    begun = have;
    places = so_far.places ∙ ap (by_stamps jobs []) (sym (chosen_no (is_first (groups_each jobs)) n m up (sym first_is ∙ later)));
    rising = so_far.rising;
    inside = λ k there. let low = so_far.inside k there in omega (arith, low, up);
  }

pub no_firsts : (jobs : List Job) (begun : List ℕ) → begun ≡ [] → AreFirsts jobs 0 begun []
unfolding chosen
no_firsts jobs begun none = record {
  begun = λ g. ap (λ l. has l g) none;
  places = refl;
  rising = tt;
  inside = λ k there. absurd there;
}

-- ---- which places they are

by_stamps-In : (jobs : List Job) (sorted is : List ℕ) (k : ℕ) → In k (by_stamps jobs sorted is) → In k sorted ⊎ In k is
by_stamps-In jobs sorted [] k h = inl h
by_stamps-In jobs sorted (i ∷ is) k h = elim (by_stamps-In jobs (put_by_stamp jobs i sorted) is k h) [
  | inl there ↦ elim (In-put jobs i k sorted there) [ inl e ↦ inr (inl e) | inr before ↦ inl before ]
  | inr later ↦ inr (inr later)
]

pub In-chosen : (test : ℕ → Bool) (a n k : ℕ) → In k (chosen test a n) → k < a + n
unfolding chosen
In-chosen test a zero k h = absurd h
In-chosen test a (suc n) k h = elim (test a) as (λ b. In k (cond b (a ∷ chosen test (suc a) n) (chosen test (suc a) n)) → k < a + suc n) [
  | true ↦ elim [ inl e ↦ omega (arith, e) | inr later ↦ let low = In-chosen test (suc a) n k later in omega (arith, low) ]
  | false ↦ λ later. let low = In-chosen test (suc a) n k later in omega (arith, low)
] h

pub firsts_inside : (jobs : List Job) (k : ℕ) → In k (firsts jobs) → k < length jobs
firsts_inside jobs k h = elim (by_stamps-In jobs [] (chosen (is_first (groups_each jobs)) 0 (length jobs)) k h) [
  | inl none ↦ absurd none
  | inr there ↦ let low = In-chosen (is_first (groups_each jobs)) 0 (length jobs) k there in omega (arith, low)
]

chosen_passes : (test : ℕ → Bool) (a n k : ℕ) → In k (chosen test a n) → test k ≡ true
unfolding chosen
chosen_passes test a zero k h = absurd h
chosen_passes test a (suc n) k h = elim (test a)
    as (λ b. test a ≡ b → In k (cond b (a ∷ chosen test (suc a) n) (chosen test (suc a) n)) → test k ≡ true) [
      | true ↦ λ e. elim [ inl same ↦ ap test same ∙ e | inr later ↦ chosen_passes test (suc a) n k later ]
      | false ↦ λ e later. chosen_passes test (suc a) n k later
    ] refl h

pub firsts_are_first : (jobs : List Job) (k : ℕ) → In k (firsts jobs) → is_first (groups_each jobs) k ≡ true
firsts_are_first jobs k h = elim (by_stamps-In jobs [] (chosen (is_first (groups_each jobs)) 0 (length jobs)) k h) [
  | inl none ↦ absurd none
  | inr there ↦ chosen_passes (is_first (groups_each jobs)) 0 (length jobs) k there
]

-- ---- an empty layer

pub no_units : units [] ≡ []
unfolding chosen
no_units = refl

pub no_jobs : (jobs : List Job) → (length jobs == 0) ≡ true → jobs ≡ []
no_jobs [] e = refl
no_jobs (j ∷ js) e = absurd (both_ways _ (ne_eqb (length (j ∷ js)) 0 (λ same. omega (arith, same))) e)
