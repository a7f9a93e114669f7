-- The outcomes of a layer go to their connections, one after another.
use Rattle.std.proofs.Common.{◌≡◌, ℕ, ◌==◌, Bool, true, false, cond, ◌||◌, List, [], ◌∷◌, ◌++◌, inl, inr}
use Rattle.std.proofs.Common.{Some, None, refl, sym}
use Rattle.std.proofs.Common.{ap, ◌∙◌, subst, eqb-true, eq-eqb}
use Rattle.std.proofs.Math.Seq.{append_snoc}
use Rattle.std.proofs.lemmas.Bool.{both_ways, cases_Bool, cond-true, cond-false}
use Rattle.std.proofs.lemmas.List.{append_cancel_right}
use Rattle.front.proofs.Names.{in_ids}
use Rattle.front.specs.Outcomes.{half_settled, IsSettling}
use Rattle.groups.proofs.Ids.{same_id-true}
use Rattle.groups.proofs.Lists.{In-left, In-right}
use Rattle.groups.proofs.Options.{some_same}
use Rattle.groups.specs.Order.{In}
use Rattle.groups.specs.Request.{same_id}
use Rattle.groups.specs.declared.request.RequestId.{RequestId}
use Rattle.groups.specs.declared.stamp.Stamp.{Stamp}
use Rattle.placement.specs.Layout.{Layout}
use Rattle.router.specs.Connection.{is_under_way, settled_with}
use Rattle.router.specs.Router.{RouterView, connection, session_at, once_settled, Changes}
use Rattle.router.specs.declared.connection.Connection.{Connection}
use Rattle.router.specs.declared.outcome.Outcome as kept
use Rattle.skeen_core.specs.Group.{EachOnce, has_id}
use Rattle.front.proofs.WorldConnections.{Alike, each_of, kept_else, kept_at, StandsUnderWay, stands_under_way}
use Rattle.front.proofs.Sessions.{sessions_given}
use Rattle.front.specs.Connections.{outcome_shown, id_of, ShowsConnection, ShowsKept, ShowsSessions, IsSettled, IsKeptFor}
use Rattle.world.specs.Steps.{at, floor_of, given}
use Rattle.world.specs.World.{World, Outcome, Standing, Closed, Waiting, Answered, Ended}
use Rattle.world_laws.proofs.Floors.{floor_is_final, run_is_last}
use Rattle.world_laws.proofs.Values.{same_request, closed_not_waiting}
use Rattle.world_laws.proofs.Worlds.{good_world}
use Rattle.world_laws.specs.Good.{Named, all_delivered, WorldGood}
use Rattle.world_laws.specs.Order.{ids_of}

-- where connections stand once this outcome has gone to its own
abbrev pub once_given : Outcome → (ℕ → Standing) → ℕ → Standing
once_given o standing = at standing o.id.conn.0 (given o (standing o.id.conn.0))

-- the router has settled the outcome with its connection
abbrev pub WasSettled : RouterView → RouterView → ℕ → ℕ → kept.Outcome → Type 0
WasSettled r r' c clock o =
    (v : Connection) × (connection r c ≡ Some v) × Changes r r' c (once_settled v clock o)

-- where each request ends once, none has ended in both parts
pub ends_apart : (xs ys : List Ended) (e : Ended) → EachOnce (ids_of (xs ++ ys)) → Named xs e.id → In e ys → ⊥
ends_apart [] ys e once named there = absurd named.1
ends_apart (x ∷ xs) ys e once (d, inl same, id) there =
    let first : e.id ≡ x.id = sym id ∙ ap (λ (y : Ended). y.id) same in
    once.0 (subst (λ i. In i (ids_of (xs ++ ys))) first (in_ids (xs ++ ys) e (In-right e xs ys there)))
ends_apart (x ∷ xs) ys e once (d, inr later, id) there = ends_apart xs ys e once.1 (d, later, id) there

named_left : (xs ys : List Ended) (i : RequestId) → Named xs i → Named (xs ++ ys) i
named_left xs ys i named = (named.0, In-left named.0 xs ys named.1, named.2)

module _ (t : Layout) (w : World) (done : List Ended) (e : Ended) (back : List Ended) (standing : ℕ → Standing) (r : RouterView)
    (is : IsSettling t w done (e ∷ back) standing r) where
  good : WorldGood t w
  good = good_world t is.steps w is.leads

  in_layer : In e is.layer
  in_layer = is.among e (inl refl)

  has_ended : In e w.ended
  has_ended = is.run e in_layer

  -- the router keeps the connection for it
  kept_for : IsKeptFor r e.id
  kept_for =
      let asked = good.run.tasks e has_ended in
      elim (is.shows.under_way e.id asked.0 asked.1) [
        | inl settled ↦
            let front = append_cancel_right done settled.0 (e ∷ back) settled.1 in
            absurd (ends_apart done (e ∷ back) e is.once (subst (λ l. Named l e.id) (sym front) settled.2) (inl refl))
        | inr kept ↦ kept
      ]

  abbrev before : World
  before = half_settled w done (e ∷ back) standing

  module _ (o : Outcome) (id : o.id ≡ e.id) (stamp : o.stamp ≡ Some e.stamp) where
    abbrev after : World
    after = half_settled w (done ++ e ∷ []) back (once_given o standing)

    split_more : (xs : List Ended) → done ++ e ∷ back ≡ xs ++ e ∷ back → (done ++ e ∷ []) ++ back ≡ (xs ++ e ∷ []) ++ back
    split_more xs split = append_snoc done e back ∙ split ∙ sym (append_snoc xs e back)

    is_settled : IsSettled after e.id
    is_settled = (done ++ e ∷ [], refl, (e, In-right e done (e ∷ []) (inl refl), refl))

    still_settled : (i : RequestId) → IsSettled before i → IsSettled after i
    still_settled i settled =
        (settled.0 ++ e ∷ [], split_more settled.0 settled.1, named_left settled.0 (e ∷ []) i settled.2)

    -- another connection's request is still in the layer
    still_in : (c seq : ℕ) → (c == o.id.conn.0) ≡ false → has_id (all_delivered (e ∷ back)) (id_of c seq) ≡ true →
        has_id (all_delivered back) (id_of c seq) ≡ true
    still_in c seq other there = elim (cases_Bool (same_id e.id (id_of c seq))) [
      | inl same ↦ absurd (both_ways _ other
          (eq-eqb c o.id.conn.0 (sym (ap (λ (i : RequestId). i.conn.0) (id ∙ same_id-true e.id (id_of c seq) same)))))
      | inr differ ↦ sym (ap (λ b. b || has_id (all_delivered back) (id_of c seq)) differ) ∙ there
    ]

    alike_settled : (c : ℕ) → (c == o.id.conn.0) ≡ false → Alike before after c
    alike_settled c other = record {
      standing = cond-false (c == o.id.conn.0) (given o (standing o.id.conn.0)) (standing c) other;
      seq = refl;
      floor = λ free. refl;
      asked = λ seq. refl;
      layer = λ seq there. still_in c seq other there;
    }

    -- it gets its outcome, unless it was closed
    given_here : after.standing o.id.conn.0 ≡ given o (before.standing o.id.conn.0)
    given_here = cond-true (o.id.conn.0 == o.id.conn.0) (given o (standing o.id.conn.0)) (standing o.id.conn.0)
        (eq-eqb o.id.conn.0 o.id.conn.0 refl)

    floor_here : before.standing o.id.conn.0 ≡ Waiting → floor_of w o.id.conn.0 ≡ e.stamp.clock
    floor_here waits = elim (run_is_last t w is.layer is.has_run good e in_layer) [
      | inl closed ↦ absurd (closed_not_waiting (standing o.id.conn.0)
          (is.closed o.id.conn.0 (ap (λ (i : RequestId). w.standing i.conn.0) id ∙ closed)) waits)
      | inr last ↦ floor_is_final t w good o.id.conn.0 e has_ended (ap (λ (i : RequestId). w.last i.conn.0) id ∙ last)
    ]

    settled_here : (v : Connection) (k : kept.Outcome) (b : Bool) → v.is_open ≡ b → outcome_shown k ≡ o →
        v.seq ≡ w.seq o.id.conn.0 → StandsUnderWay v before o.id.conn.0 →
        ShowsConnection (cond b (Some (settled_with v e.stamp.clock k)) None) after o.id.conn.0
    settled_here v k true live same seq (inl waits) = (
      seq,
      inl (live, (given_here ∙ ap (given o) waits.1 ∙ sym (ap Answered same), sym (floor_here waits.1))),
    )
    settled_here v k true live same seq (inr shut) = absurd (both_ways _ shut.0 live)
    settled_here v k false live same seq (inl waits) = absurd (both_ways _ live waits.0)
    settled_here v k false live same seq (inr shut) = given_here ∙ ap (given o) shut.1

    once_closed : (c : ℕ) → w.standing c ≡ Closed → once_given o standing c ≡ Closed
    once_closed c closed = elim (cases_Bool (c == o.id.conn.0)) [
      | inl same ↦
          let here : standing o.id.conn.0 ≡ Closed =
          ap standing (sym (eqb-true c o.id.conn.0 same)) ∙ is.closed c closed in
          cond-true (c == o.id.conn.0) (given o (standing o.id.conn.0)) (standing c) same ∙ ap (given o) here
      | inr other ↦ cond-false (c == o.id.conn.0) (given o (standing o.id.conn.0)) (standing c) other ∙ is.closed c closed
    ]

    -- so much the router's settle asks
    pub settle_may : (k : kept.Outcome) → outcome_shown k ≡ o → (v : Connection) × (connection r k.id.conn.0 ≡ Some v)
    settle_may k same = (
      kept_for.v,
      ap (λ (x : Outcome). connection r x.id.conn.0) same
          ∙ ap (λ (i : RequestId). connection r i.conn.0) id ∙ kept_for.kept,
    )

    settle_next : (v : Connection) → connection r o.id.conn.0 ≡ Some v → (r' : RouterView) (k : kept.Outcome) →
        outcome_shown k ≡ o → Changes r r' o.id.conn.0 (once_settled v e.stamp.clock k) →
        IsSettling t w (done ++ e ∷ []) back (once_given o standing) r'
    settle_next v there r' k same changes = record {
      steps = is.steps;
      leads = is.leads;
      layer = is.layer;
      has_run = is.has_run;
      among = λ f later. is.among f (inr later);
      run = is.run;
      once = subst (λ l. EachOnce (ids_of l)) (sym (append_snoc done e back)) is.once;
      closed = once_closed;
      shows = record {
        opened = changes.opened ∙ is.shows.opened;
        sessions = subst (λ kept. ShowsSessions kept (once_given o standing) w.session) (sym changes.sessions)
            (sessions_given (session_at r) standing w.session o.id.conn.0 o is.shows.sessions);
        each = each_of r r' before after o.id.conn.0 (once_settled v e.stamp.clock k) changes.at alike_settled
            is.shows.each (settled_here v k v.is_open refl same here.0
            (stands_under_way v before o.id.conn.0 busy here));
        under_way = λ i q asked. elim (is.shows.under_way i q asked) [
          | inl settled ↦ inl (still_settled i settled)
          | inr kept ↦ elim (cases_Bool (i.conn.0 == o.id.conn.0)) [
            | inl at_e ↦ inl (subst (λ j. IsSettled after j) (sym (one_request i kept at_e)) is_settled)
            | inr other ↦ inr (kept_else r r' o.id.conn.0 (once_settled v e.stamp.clock k) i changes.at other kept)
          ]
        ];
      };
    }
      where
        here : ShowsKept v before o.id.conn.0
        here = kept_at r before o.id.conn.0 v there is.shows

        conns : connection r o.id.conn.0 ≡ Some kept_for.v
        conns = ap (λ (i : RequestId). connection r i.conn.0) id ∙ kept_for.kept

        busy : is_under_way v.standing ≡ true
        busy = subst (λ (u : Connection). is_under_way u.standing ≡ true)
            (some_same kept_for.v v (sym conns ∙ there)) kept_for.under_way

        -- a connection has one request under way
        one_request : (i : RequestId) → IsKeptFor r i → (i.conn.0 == o.id.conn.0) ≡ true → i ≡ e.id
        one_request i kept at_e =
            let same_conn = eqb-true i.conn.0 o.id.conn.0 at_e in
            let one : kept.v ≡ kept_for.v = some_same kept.v kept_for.v (sym kept.kept ∙ ap (connection r) same_conn ∙ conns) in
            same_request i e.id (same_conn ∙ ap (λ (j : RequestId). j.conn.0) id)
            (sym kept.seq ∙ ap (λ (u : Connection). u.seq) one ∙ kept_for.seq)

    -- and so much it does
    pub settle_did : (r' : RouterView) (k : kept.Outcome) (s : Stamp) → outcome_shown k ≡ o → s ≡ e.stamp →
        WasSettled r r' k.id.conn.0 s.clock k → IsSettling t w (done ++ e ∷ []) back (once_given o standing) r'
    settle_did r' k s same stamps did =
        let conns : k.id.conn.0 ≡ o.id.conn.0 = ap (λ (x : Outcome). x.id.conn.0) same in
        let here = subst (λ c. WasSettled r r' c s.clock k) conns did in
        let now = subst (λ (u : Stamp). WasSettled r r' o.id.conn.0 u.clock k) stamps here in
        settle_next now.0 now.1 r' k same now.2
