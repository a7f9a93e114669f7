-- Connections, at each step that touches them.
use Rattle.std.proofs.Common.{◌≡◌, ℕ, suc, ◌≤◌, ◌<◌, ◌==◌, false, List, [], ◌∷◌, ◌++◌, ◌⊎◌, inl, inr}
use Rattle.std.proofs.Common.{Option, Some, None, refl, sym, ap}
use Rattle.std.proofs.Common.{◌∙◌, subst, arith, eqb-true, eq-eqb, append-nil}
use Rattle.std.proofs.lemmas.Bool.{both_ways, cases_Bool}
use Rattle.groups.proofs.Ids.{same_id-true, eq-same_id}
use Rattle.groups.proofs.Lists.{In-left, In-right}
use Rattle.groups.specs.Order.{In}
use Rattle.groups.specs.Request.{same_id}
use Rattle.skeen_core.specs.declared.packet.Delivered.{Delivered}
use Rattle.groups.specs.declared.request.RequestId.{RequestId}
use Rattle.world.specs.Steps.{at, with_asked, outcome_of, given, settled}
use Rattle.world.specs.World.{Request, Outcome, Standing, Closed, Idle, Waiting, Answered, Ended, Layer, NoneTaken, Taken, HasRun}
use Rattle.world_laws.specs.Good.{Asked, run_in, Named, EarlierEnded, Pending, OutcomeGood, ConnectionsGood}
use Rattle.world_laws.proofs.Groups.{by_test}
use Rattle.std.proofs.lemmas.Bool.{cond-true, cond-false}
use Rattle.world_laws.proofs.Values.{same_request, idle_open, idle_not_waiting, answered_open, answered_not_waiting, idle_not_answered}
use Rattle.world_laws.proofs.Values.{waiting_not_answered, closed_not_answered, closed_not_waiting, same_outcome}

-- ---- standings

-- a connection that is idle, or has an outcome, waits for nothing
pub not_pending : (standing : ℕ → Standing) (seq : ℕ → ℕ) (i : RequestId) (s : Standing) → standing i.conn.0 ≡ s → (s ≡ Closed → ⊥) →
    (s ≡ Waiting → ⊥) → Pending standing seq i → ⊥
not_pending standing seq i s is lively not_waiting (inl e) = lively (sym is ∙ e)
not_pending standing seq i s is lively not_waiting (inr e) = not_waiting (sym is ∙ e.0)

-- another connection than the one that changes
pending_else : (standing : ℕ → Standing) (seq : ℕ → ℕ) (c : ℕ) (s : Standing) (n : ℕ) (i : RequestId) → (i.conn.0 == c) ≡ false →
    Pending standing seq i → Pending (at standing c s) (at seq c n) i
pending_else standing seq c s n i other (inl e) = inl (cond-false (i.conn.0 == c) s (standing i.conn.0) other ∙ e)
pending_else standing seq c s n i other (inr e) = inr (
  cond-false (i.conn.0 == c) s (standing i.conn.0) other ∙ e.0,
  e.1
      ∙ sym (cond-false (i.conn.0 == c) n (seq i.conn.0) other),
)

pending_else' : (standing : ℕ → Standing) (seq : ℕ → ℕ) (c : ℕ) (s : Standing) (i : RequestId) → (i.conn.0 == c) ≡ false →
    Pending standing seq i → Pending (at standing c s) seq i
pending_else' standing seq c s i other (inl e) = inl (cond-false (i.conn.0 == c) s (standing i.conn.0) other ∙ e)
pending_else' standing seq c s i other (inr e) = inr (cond-false (i.conn.0 == c) s (standing i.conn.0) other ∙ e.0, e.1)

-- where the connection that changes had nothing under way, what is pending stays so
pending_kept : (standing : ℕ → Standing) (seq : ℕ → ℕ) (c : ℕ) (s s' : Standing) (n : ℕ) (i : RequestId) → standing c ≡ s →
    (s ≡ Closed → ⊥) → (s ≡ Waiting → ⊥) →
    Pending standing seq i → Pending (at standing c s') (at seq c n) i
pending_kept standing seq c s s' n i is lively not_waiting p = elim (cases_Bool (i.conn.0 == c)) [
  | inl e ↦ absurd (not_pending standing seq i s (ap standing (eqb-true i.conn.0 c e) ∙ is) lively not_waiting p)
  | inr e ↦ pending_else standing seq c s' n i e p
]

-- ---- the steps

pub connections_open : (opened : ℕ) (standing : ℕ → Standing) (seq : ℕ → ℕ) (last : ℕ → Option RequestId) (asked : Asked)
    (ended : List Ended) (layer : Layer) →
    ((i : RequestId) (q : Request) → asked i ≡ Some q → (0 < i.seq) × (i.seq ≤ seq i.conn.0)) →
    ConnectionsGood opened standing seq last asked ended layer → ConnectionsGood (suc opened)
    (at standing (suc opened) Idle) seq last asked ended layer
connections_open opened standing seq last asked ended layer fresh good = record {
  unopened = λ c less. let before = good.unopened c (omega arith) in
      (cond-false (c == suc opened) Idle (standing c) (not_at c less) ∙ before.0, before.1, before.2);
  settled = good.settled;
  split = good.split;
  pending = λ i q named. elim (good.pending i q named) [
    | inl done ↦ inl done
    | inr p ↦ elim (cases_Bool (i.conn.0 == suc opened)) [
      | inl e ↦
          let some = fresh i q named in
          let none = (good.unopened (suc opened) (omega arith)).1 in
          let here = ap seq (eqb-true i.conn.0 (suc opened) e) in
          absurd (omega arith)
      | inr e ↦ inr (pending_else' standing seq (suc opened) Idle i e p)
    ]
  ];
  outcomes = λ c o is. elim (cases_Bool (c == suc opened)) [
    | inl e ↦ absurd (idle_not_answered o (sym (cond-true (c == suc opened) Idle (standing c) e) ∙ is))
    | inr e ↦ good.outcomes c o (sym (cond-false (c == suc opened) Idle (standing c) e) ∙ is)
  ];
}
  where
    not_at : (c : ℕ) → suc opened < c → (c == suc opened) ≡ false
    not_at c less = elim (cases_Bool (c == suc opened)) [ inl e ↦ let same = eqb-true c (suc opened) e in absurd (omega arith) | inr e ↦ e ]

-- a connection that was never opened isn't the one that changes
still_unopened : (opened : ℕ) (standing : ℕ → Standing) (c d : ℕ) (s : Standing) → (opened < d → standing d ≡ Closed) → standing c ≡ s →
    (s ≡ Closed → ⊥) → opened < d → (d == c) ≡ false
still_unopened opened standing c d s closed is lively less = elim (cases_Bool (d == c)) [
  | inl e ↦ absurd (lively (sym is ∙ ap standing (sym (eqb-true d c e)) ∙ closed less))
  | inr e ↦ e
]

pub connections_answered : (opened : ℕ) (standing : ℕ → Standing) (seq : ℕ → ℕ) (last : ℕ → Option RequestId) (asked : Asked)
    (ended : List Ended) (layer : Layer) (c : ℕ) (o : Outcome) →
    standing c ≡ Idle → o.id ≡ record { conn = record { 0 = c }; seq = suc (seq c) } → o.stamp ≡ None →
    ConnectionsGood opened standing seq last asked ended layer → ConnectionsGood opened (at standing c (Answered o))
    (at seq c (suc (seq c))) last asked ended layer
connections_answered opened standing seq last asked ended layer c o idle id none good = record {
  unopened = λ d less.
      let before = good.unopened d less in
      let other = still_unopened opened standing c d Idle (λ l. (good.unopened d l).0) idle idle_open less in (
        cond-false (d == c) (Answered o) (standing d) other ∙ before.0,
        cond-false (d == c) (suc (seq c)) (seq d) other
            ∙ before.1,
        before.2,
      );
  settled = good.settled;
  split = good.split;
  pending = λ i q named. elim (good.pending i q named) [
    | inl done ↦ inl done
    | inr p ↦ inr (pending_kept standing seq c Idle (Answered o) (suc (seq c)) i idle idle_open idle_not_waiting p)
  ];
  outcomes = λ d p is. elim (cases_Bool (d == c)) [
    | inl e ↦
        let same : o ≡ p = same_outcome o p (sym (cond-true (d == c) (Answered o) (standing d) e) ∙ is) in
        subst (λ x. OutcomeGood (at seq c (suc (seq c))) ended d x) same (record {
          conn = ap (λ i. i.conn.0) id ∙ sym (eqb-true d c e);
          latest = ap (λ i. i.seq) id ∙ sym (cond-true (d == c) (suc (seq c)) (seq d) e);
          from = inl none;
        })
    | inr e ↦
        let before = good.outcomes d p (sym (cond-false (d == c) (Answered o) (standing d) e) ∙ is) in
        record { conn = before.conn; latest = before.latest ∙ sym (cond-false (d == c) (suc (seq c)) (seq d) e); from = before.from }
  ];
}

pub connections_multicast : (opened : ℕ) (standing : ℕ → Standing) (seq : ℕ → ℕ) (last : ℕ → Option RequestId) (asked : Asked)
    (ended : List Ended) (layer : Layer) (c : ℕ) (q : Request) →
    standing c ≡ Idle → ConnectionsGood opened standing seq last asked ended layer →
    ConnectionsGood opened (at standing c Waiting) (at seq c (suc (seq c)))
    (at last c (Some (record { conn = record { 0 = c }; seq = suc (seq c) })))
    (with_asked asked (record { conn = record { 0 = c }; seq = suc (seq c) }) q) ended layer
connections_multicast opened standing seq last asked ended layer c q idle good = record {
  unopened = λ d less.
      let before = good.unopened d less in
      let other = still_unopened opened standing c d Idle (λ l. (good.unopened d l).0) idle idle_open less in (
        cond-false (d == c) Waiting (standing d) other ∙ before.0,
        cond-false (d == c) (suc (seq c)) (seq d) other
            ∙ before.1,
        cond-false (d == c) (Some id) (last d) other ∙ before.2,
      );
  settled = good.settled;
  split = good.split;
  pending = λ i r e. by_test (same_id i id) q (asked i) r (Named good.settled i
      ⊎ Pending (at standing c Waiting) (at seq c (suc (seq c))) i) e
      (λ p same. inr (subst (λ j. Pending (at standing c Waiting) (at seq c (suc (seq c))) j) (sym (same_id-true i id p))
      (inr (cond-true (c == c) Waiting (standing c) (eq-eqb c c refl), sym (cond-true (c == c) (suc (seq c)) (seq c) (eq-eqb c c refl))))))
      (λ p old. elim (good.pending i r old) [
        | inl done ↦ inl done
        | inr pend ↦ inr (pending_kept standing seq c Idle Waiting (suc (seq c)) i idle idle_open idle_not_waiting pend)
      ]);
  outcomes = λ d p is. elim (cases_Bool (d == c)) [
    | inl e ↦ absurd (waiting_not_answered p (sym (cond-true (d == c) Waiting (standing d) e) ∙ is))
    | inr e ↦
        let before = good.outcomes d p (sym (cond-false (d == c) Waiting (standing d) e) ∙ is) in
        record { conn = before.conn; latest = before.latest ∙ sym (cond-false (d == c) (suc (seq c)) (seq d) e); from = before.from }
  ];
}
  where
    id : RequestId
    id = record { conn = record { 0 = c }; seq = suc (seq c) }

pub connections_collect : (opened : ℕ) (standing : ℕ → Standing) (seq : ℕ → ℕ) (last : ℕ → Option RequestId) (asked : Asked)
    (ended : List Ended) (layer : Layer) (c : ℕ) (o : Outcome) →
    standing c ≡ Answered o → ConnectionsGood opened standing seq last asked ended layer →
    ConnectionsGood opened (at standing c Idle) seq last asked ended layer
connections_collect opened standing seq last asked ended layer c o is_answered good = record {
  unopened = λ d less.
      let before = good.unopened d less in
      let other = still_unopened opened standing c d (Answered o) (λ l. (good.unopened d l).0) is_answered (answered_open o) less in
      (cond-false (d == c) Idle (standing d) other ∙ before.0, before.1, before.2);
  settled = good.settled;
  split = good.split;
  pending = λ i q named. elim (good.pending i q named) [
    | inl done ↦ inl done
    | inr p ↦ elim (cases_Bool (i.conn.0 == c)) [
      | inl e ↦ absurd (not_pending standing seq i (Answered o) (ap standing (eqb-true i.conn.0 c e) ∙ is_answered) (answered_open o)
          (answered_not_waiting o) p)
      | inr e ↦ inr (pending_else' standing seq c Idle i e p)
    ]
  ];
  outcomes = λ d p is. elim (cases_Bool (d == c)) [
    | inl e ↦ absurd (idle_not_answered p (sym (cond-true (d == c) Idle (standing d) e) ∙ is))
    | inr e ↦ good.outcomes d p (sym (cond-false (d == c) Idle (standing d) e) ∙ is)
  ];
}

pub connections_close : (opened : ℕ) (standing : ℕ → Standing) (seq : ℕ → ℕ) (last : ℕ → Option RequestId) (asked : Asked)
    (ended : List Ended) (layer : Layer) (c : ℕ) →
    ConnectionsGood opened standing seq last asked ended layer → ConnectionsGood opened (at standing c Closed) seq last asked ended layer
connections_close opened standing seq last asked ended layer c good = record {
  unopened = λ d less. let before = good.unopened d less in (
    elim (cases_Bool (d == c)) [
      | inl e ↦ cond-true (d == c) Closed (standing d) e
      | inr e ↦ cond-false (d == c) Closed (standing d) e ∙ before.0
    ],
    before.1,
    before.2,
  );
  settled = good.settled;
  split = good.split;
  pending = λ i q named. elim (good.pending i q named) [
    | inl done ↦ inl done
    | inr p ↦ elim (cases_Bool (i.conn.0 == c)) [
      | inl e ↦ inr (inl (cond-true (i.conn.0 == c) Closed (standing i.conn.0) e))
      | inr e ↦ inr (pending_else' standing seq c Closed i e p)
    ]
  ];
  outcomes = λ d p is. elim (cases_Bool (d == c)) [
    | inl e ↦ absurd (closed_not_answered p (sym (cond-true (d == c) Closed (standing d) e) ∙ is))
    | inr e ↦ good.outcomes d p (sym (cond-false (d == c) Closed (standing d) e) ∙ is)
  ];
}

-- ---- Run and Settle

pub named_left : (xs ys : List Ended) (i : RequestId) → Named xs i → Named (xs ++ ys) i
named_left xs ys i n = (n.0, In-left n.0 xs ys n.1, n.2)

-- before a connection asks, all that it asked has ended
pub earlier_multicast : (opened : ℕ) (standing : ℕ → Standing) (seq : ℕ → ℕ) (last : ℕ → Option RequestId) (asked : Asked)
    (ended : List Ended) (layer : Layer) (c : ℕ) (q : Request) → standing c ≡ Idle →
    ((i : RequestId) (q : Request) → asked i ≡ Some q → (0 < i.seq) × (i.seq ≤ seq i.conn.0)) →
    ConnectionsGood opened standing seq last asked ended layer → EarlierEnded asked ended →
    EarlierEnded (with_asked asked (record { conn = record { 0 = c }; seq = suc (seq c) }) q) ended
earlier_multicast opened standing seq last asked ended layer c q idle fresh good before i j r s conns less e d =
    by_test (same_id i id) q (asked i) r (Named ended i) e
    (λ p same.
    let at_id = same_id-true i id p in
    let seq_i = ap (λ k. k.seq) at_id in let conn_i = ap (λ k. k.conn.0) at_id in
    by_test (same_id j id) q (asked j) s (Named ended i) d
    (λ p' same'. let seq_j = ap (λ k. k.seq) (same_id-true j id p') in absurd (omega arith))
    (λ p' old'.
    let low = (fresh j s old').1 in
    let at_c : seq j.conn.0 ≡ seq c = ap seq (sym conns ∙ conn_i) in
    absurd (omega arith)))
    (λ p old. by_test (same_id j id) q (asked j) s (Named ended i) d
    (λ p' same'.
    let conn_j = ap (λ k. k.conn.0) (same_id-true j id p') in
    elim (good.pending i r old) [
      | inl done ↦ subst (λ es. Named es i) (sym good.split) (named_left good.settled (run_in layer) i done)
      | inr pend ↦ absurd (not_pending standing seq i Idle (ap standing (conns ∙ conn_j) ∙ idle) idle_open idle_not_waiting pend)
    ])
    (λ p' old'. before i j r s conns less old old'))
  where
    id : RequestId
    id = record { conn = record { 0 = c }; seq = suc (seq c) }

outcome_more : (seq : ℕ → ℕ) (xs ys : List Ended) (c : ℕ) (o : Outcome) → OutcomeGood seq xs c o → OutcomeGood seq (xs ++ ys) c o
outcome_more seq xs ys c o good = record {
  conn = good.conn;
  latest = good.latest;
  from = elim good.from [ inl local ↦ inl local | inr e ↦ inr (e.0, In-left e.0 xs ys e.1, e.2) ];
}

pub connections_run : (opened : ℕ) (standing : ℕ → Standing) (seq : ℕ → ℕ) (last : ℕ → Option RequestId) (asked : Asked)
    (ended es : List Ended) (ds : List Delivered) →
    ConnectionsGood opened standing seq last asked ended (Taken ds) → ConnectionsGood opened standing seq last asked (ended ++ es)
    (HasRun es)
connections_run opened standing seq last asked ended es ds good = record {
  unopened = good.unopened;
  settled = ended;
  split = refl;
  pending = λ i q named. elim (good.pending i q named) [
    | inl done ↦ inl (subst (λ l. Named l i) (sym (good.split ∙ append-nil good.settled)) done)
    | inr p ↦ inr p
  ];
  outcomes = λ c o is. outcome_more seq ended es c o (good.outcomes c o is);
}

-- who is closed gets nothing
pub settled_closed : (es : List Ended) (standing : ℕ → Standing) (c : ℕ) → standing c ≡ Closed → settled es standing c ≡ Closed
settled_closed [] standing c e = e
settled_closed (x ∷ es) standing c e = settled_closed es (at standing x.id.conn.0 (given (outcome_of x) (standing x.id.conn.0))) c
    (elim (cases_Bool (c == x.id.conn.0)) [
      | inl here ↦ cond-true (c == x.id.conn.0) (given (outcome_of x) (standing x.id.conn.0)) (standing c) here
          ∙ ap (given (outcome_of x)) (ap standing (sym (eqb-true c x.id.conn.0 here)) ∙ e)
      | inr else' ↦ cond-false (c == x.id.conn.0) (given (outcome_of x) (standing x.id.conn.0)) (standing c) else' ∙ e
    ])

-- a connection gets the outcome of one of its requests, or stays as it is
pub settled_result : (es : List Ended) (standing : ℕ → Standing) (c : ℕ) →
    (settled es standing c ≡ standing c) ⊎ ((e : Ended) × In e es × (e.id.conn.0 ≡ c) × (settled es standing c ≡ Answered (outcome_of e)))
settled_result [] standing c = inl refl
settled_result (x ∷ es) standing c = elim (settled_result es (at standing x.id.conn.0 (given (outcome_of x) (standing x.id.conn.0))) c) [
  | inr later ↦ inr (later.0, inr later.1, later.2, later.3)
  | inl same ↦ elim (cases_Bool (c == x.id.conn.0)) [
    | inl here ↦
        let now = same ∙ cond-true (c == x.id.conn.0) (given (outcome_of x) (standing x.id.conn.0)) (standing c) here in
        let at_c = ap standing (sym (eqb-true c x.id.conn.0 here)) in
        by_standing (standing x.id.conn.0) at_c now (sym (eqb-true c x.id.conn.0 here))
    | inr else' ↦ inl (same ∙ cond-false (c == x.id.conn.0) (given (outcome_of x) (standing x.id.conn.0)) (standing c) else')
  ]
]
  where
    by_standing : (s : Standing) → s ≡ standing c → settled (x ∷ es) standing c ≡ given (outcome_of x) s → x.id.conn.0 ≡ c →
        (settled (x ∷ es) standing c ≡ standing c)
        ⊎ ((e : Ended) × In e (x ∷ es) × (e.id.conn.0 ≡ c) × (settled (x ∷ es) standing c ≡ Answered (outcome_of e)))
    by_standing Closed is now conn = inl (now ∙ is)
    by_standing Idle is now conn = inr (x, inl refl, conn, now)
    by_standing Waiting is now conn = inr (x, inl refl, conn, now)
    by_standing (Answered o) is now conn = inr (x, inl refl, conn, now)

-- one of these has the id, or none has
pub named_or_not : (es : List Ended) (i : RequestId) → Named es i ⊎ (Named es i → ⊥)
named_or_not [] i = inr (λ n. n.1)
named_or_not (e ∷ es) i = elim (cases_Bool (same_id e.id i)) [
  | inl s ↦ inl (e, inl refl, same_id-true e.id i s)
  | inr s ↦ elim (named_or_not es i) [
    | inl n ↦ inl (n.0, inr n.1, n.2)
    | inr none ↦ inr (λ n. elim n.1 [
      | inl same ↦ both_ways _ s (eq-same_id e.id i (ap (λ x. x.id) (sym same) ∙ n.2))
      | inr later ↦ none (n.0, later, n.2)
    ])
  ]
]

pub connections_settle : (opened : ℕ) (standing : ℕ → Standing) (seq : ℕ → ℕ) (last : ℕ → Option RequestId) (asked : Asked)
    (ended es : List Ended) →
    ((e : Ended) → In e es → Pending standing seq e.id) →
    ConnectionsGood opened standing seq last asked ended (HasRun es) →
    ConnectionsGood opened (settled es standing) seq last asked ended NoneTaken
connections_settle opened standing seq last asked ended es waits good = record {
  unopened = λ c less. let before = good.unopened c less in (settled_closed es standing c before.0, before.1, before.2);
  settled = ended;
  split = sym (append-nil ended);
  pending = λ i q named. elim (good.pending i q named) [
    | inl done ↦ inl (subst (λ l. Named l i) (sym good.split) (named_left good.settled es i done))
    | inr p ↦ elim (named_or_not es i) [
      | inl now ↦ inl (subst (λ l. Named l i) (sym good.split) (now.0, In-right now.0 good.settled es now.1, now.2))
      | inr none ↦ inr (elim p [
        | inl closed ↦ inl (settled_closed es standing i.conn.0 closed)
        | inr waiting ↦ inr (
          elim (settled_result es standing i.conn.0) [
            | inl same ↦ same ∙ waiting.0
            | inr e ↦ absurd (elim (waits e.0 e.1) [
              | inl closed ↦ closed_not_waiting (standing e.0.id.conn.0) closed (ap standing e.2 ∙ waiting.0)
              | inr also ↦ none (e.0, e.1, same_request e.0.id i e.2 (also.1 ∙ ap seq e.2 ∙ sym waiting.1))
            ])
          ],
          waiting.1,
        )
      ])
    ]
  ];
  outcomes = λ c o is. elim (settled_result es standing c) [
    | inl same ↦ good.outcomes c o (sym same ∙ is)
    | inr e ↦
        let it : outcome_of e.0 ≡ o = same_outcome (outcome_of e.0) o (sym e.3 ∙ is) in
        subst (λ x. OutcomeGood seq ended c x) it (record {
          conn = e.2;
          latest = elim (waits e.0 e.1) [
            | inl closed ↦ absurd (closed_not_answered o (sym (settled_closed es standing c (ap standing (sym e.2) ∙ closed)) ∙ is))
            | inr waiting ↦ waiting.1 ∙ ap seq e.2
          ];
          from = inr (e.0, subst (λ l. In e.0 l) (sym good.split) (In-right e.0 good.settled es e.1), refl);
        })
  ];
}
