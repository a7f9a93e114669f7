-- Submitted requests: a new one is submitted, and more is proposed.
use Rattle.std.proofs.Common.{◌≡◌, ℕ, suc, ◌≤◌, ◌<◌, ◌==◌, true, false, List, [], ◌∷◌, ◌++◌, ◌⊎◌, inl, inr, Option, Some, None, refl}
use Rattle.std.proofs.Common.{IsSome, sym, ap, ◌∙◌, subst, arith, eqb-true}
use Rattle.std.proofs.lemmas.Bool.{both_ways, cases_Bool, cases_eq, and_parts}
use Rattle.groups.specs.GroupSet.{has}
use Rattle.placement.specs.Layout.{Layout}
use Rattle.groups.proofs.Ids.{same_id-true, same_id-refl}
use Rattle.skeen_core.proofs.Lawful.{None≢Some}
use Rattle.groups.proofs.Lists.{In-left, In-right, In-append}
use Rattle.groups.proofs.Stamps.{final_within, final_proposed}
use Rattle.skeen_core.specs.Group.{GroupState}
use Rattle.groups.specs.Order.{In}
use Rattle.groups.specs.Request.{same_id}
use Rattle.groups.specs.Stamp.{final}
use Rattle.skeen_core.specs.declared.packet.Delivered.{Delivered}
use Rattle.skeen_core.specs.declared.packet.Packet.{Packet}
use Rattle.groups.specs.declared.request.RequestId.{RequestId}
use Rattle.groups.specs.declared.stamp.Stamp.{Stamp}
use Rattle.world.specs.Steps.{at, with_asked, starts}
use Rattle.world.specs.World.{Request, Proposals}
use Rattle.world_laws.specs.Good.{Asked, Among, start_to, SkeenGood, ShapedFor, Under, AskedGood, TakenGood}
use Rattle.world_laws.proofs.Groups.{AskedMore, known_more, group_grows, by_test}
use Rattle.world_laws.proofs.Packets.{body_more, in_starts, starts_good}
use Rattle.std.proofs.lemmas.Bool.{cond-true, cond-false}
use Rattle.groups.proofs.Options.{some_same}
use Rattle.world_laws.proofs.Values.{same_request, at_here}

-- ---- small facts

pub asks_more : (asked : Asked) (id : RequestId) (q : Request) → asked id ≡ None → AskedMore asked (with_asked asked id q)
asks_more asked id q none i r e = elim (cases_Bool (same_id i id)) [
  | inl p ↦ absurd (None≢Some r (sym none ∙ subst (λ j. asked j ≡ Some r) (same_id-true i id p) e))
  | inr p ↦ cond-false _ (Some q) (asked i) p ∙ e
]

pub asks_new : (asked : Asked) (id : RequestId) (q : Request) → with_asked asked id q id ≡ Some q
asks_new asked id q = cond-true _ (Some q) (asked id) (same_id-refl id)

-- the final stamp of some groups is one of their proposals
pub final_is_proposed : (f : ℕ → Option ℕ) (gs : List ℕ) (g : ℕ) (s : Stamp) → has gs g ≡ true → final f gs ≡ Some s →
    f s.group ≡ Some s.clock
final_is_proposed f [] g s there e = absurd (both_ways false refl there)
final_is_proposed f (h ∷ hs) g s there e = final_proposed f h hs s e

pub under_more : (proposed proposed' : Proposals) (i : RequestId) (gs : List ℕ) (n : ℕ) → Among proposed proposed' →
    Under proposed i gs n → Under proposed' i gs n
under_more proposed proposed' i gs n among u = (u.0, final_within (proposed i) (proposed' i) gs u.0 (λ g m e. among i g m e) u.1, u.2)

-- ---- packets and groups

pub skeen_multicast : (asked : Asked) (proposed : Proposals) (packets : List Packet) (group : ℕ → GroupState) (log : ℕ → List Delivered)
    (id : RequestId) (q : Request) →
    SkeenGood asked proposed packets group log → asked id ≡ None →
    SkeenGood (with_asked asked id q) proposed (packets ++ starts id q q.groups) group log
skeen_multicast asked proposed packets group log id q good none = record {
  sent = λ p there. elim (In-append p packets (starts id q q.groups) there) [
    | inl before ↦ body_more asked (with_asked asked id q) proposed proposed p.to p.id p.body (asks_more asked id q none) (λ i h m e. e)
        (good.sent p before)
    | inr now ↦ starts_good (with_asked asked id q) proposed id q q.groups (asks_new asked id q) (λ g e. e) p now
  ];
  coming = λ i r g named member. by_test (same_id i id) q (asked i) r
      (In (start_to g i r) (packets ++ starts id q q.groups) ⊎ IsSome (proposed i g)) named
      (λ p same. inl (In-right _ packets (starts id q q.groups)
      (subst (λ j. In (start_to g j r) (starts id q q.groups)) (sym (same_id-true i id p))
      (subst (λ x. In (start_to g id x) (starts id q q.groups)) same
      (in_starts id q q.groups g (subst (λ (x : Request). has x.groups g ≡ true) (sym same) member))))))
      (λ p old. elim (good.coming i r g old member) [
        | inl there ↦ inl (In-left _ packets (starts id q q.groups) there)
        | inr told ↦ inr told
      ]);
  made = λ i g n e. let m = good.made i g n e in (m.0, asks_more asked id q none i m.0 m.1, m.2, m.3);
  groups = λ g. group_grows asked (with_asked asked id q) proposed proposed g (group g) (log g) (asks_more asked id q none) (λ i h m e. e)
      (λ i n e. e) (good.groups g);
}

-- ---- the requests of each connection

at_more : (seq : ℕ → ℕ) (c x : ℕ) → seq x ≤ at seq c (suc (seq c)) x
at_more seq c x = elim (cases_Bool (x == c)) [
  | inl e ↦ let now = cond-true (x == c) (suc (seq c)) (seq x) e in let same = ap seq (eqb-true x c e) in omega arith
  | inr e ↦ let now = cond-false (x == c) (suc (seq c)) (seq x) e in omega arith
]

pub next_is_new : (t : Layout) (asked : Asked) (proposed : Proposals) (seq : ℕ → ℕ) (last : ℕ → Option RequestId) (c : ℕ) →
    AskedGood t asked proposed seq last →
    asked (record { conn = record { 0 = c }; seq = suc (seq c) }) ≡ None
next_is_new t asked proposed seq last c good = by_asked (asked (record { conn = record { 0 = c }; seq = suc (seq c) })) refl
  where
    by_asked : (o : Option Request) → asked (record { conn = record { 0 = c }; seq = suc (seq c) }) ≡ o → o ≡ None
    by_asked None e = refl
    by_asked (Some q) e = let low = (good.fresh (record { conn = record { 0 = c }; seq = suc (seq c) }) q e).1 in absurd (omega arith)

-- what the last request of a connection has come to, before its next one is submitted
pub record Rested (asked : Asked) (proposed : Proposals) (last : ℕ → Option RequestId) (c floor : ℕ) : Type 0 where
  pub stamp : (l : RequestId) (r : Request) → last c ≡ Some l → asked l ≡ Some r → (s : Stamp) × (final (proposed l) r.groups ≡ Some s)
      × (s.clock ≡ floor)

-- each proposal for a request is above its floor
pub proposed_above_floor : (asked : Asked) (proposed : Proposals) (packets : List Packet) (group : ℕ → GroupState)
    (log : ℕ → List Delivered) (i : RequestId) (q : Request) (g n : ℕ) →
    SkeenGood asked proposed packets group log → asked i ≡ Some q → proposed i g ≡ Some n → q.floor < n
proposed_above_floor asked proposed packets group log i q g n skeen named told =
    let made = skeen.made i g n told in
    subst (λ (x : Request). x.floor < n) (some_same made.0 q (sym made.1 ∙ named)) made.2

-- the floor of a new request is at least the final clock of each earlier one of its connection
floor_above : (t : Layout) (asked : Asked) (proposed : Proposals) (packets : List Packet) (group : ℕ → GroupState)
    (log : ℕ → List Delivered) (seq : ℕ → ℕ) (last : ℕ → Option RequestId) (c floor : ℕ) →
    SkeenGood asked proposed packets group log → AskedGood t asked proposed seq last → Rested asked proposed last c floor →
    (i : RequestId) (q : Request) → i.conn.0 ≡ c → asked i ≡ Some q → Under proposed i q.groups floor
floor_above t asked proposed packets group log seq last c floor skeen good rested i q conn named =
    let l = good.latest i q named in
    let is_last : last c ≡ Some l.0 = subst (λ d. last d ≡ Some l.0) conn l.1 in
    let r = good.lasts c l.0 is_last in
    let s = rested.stamp l.0 r.1.0 is_last r.1.1 in
    elim (cases_eq i.seq l.0.seq) [
      | inl e ↦
          let same : l.0 ≡ i = same_request l.0 i (r.0 ∙ sym conn) (sym e) in
          let again : r.1.0 ≡ q = some_same r.1.0 q (sym r.1.1 ∙ ap asked same ∙ named) in
          let clock = s.2 in (
            s.0,
            subst (λ j. final (proposed j) q.groups ≡ Some s.0) same
                (subst (λ (x : Request). final (proposed l.0) x.groups ≡ Some s.0) again s.1),
            omega arith,
          )
      | inr ne ↦
          let less : i.seq < l.0.seq = (let low = l.2 in omega arith) in
          let under = good.floors i l.0 q r.1.0 (conn ∙ sym r.0) less named r.1.1 in
          let some = (good.shaped l.0 r.1.0 r.1.1).some in
          let told = final_is_proposed (proposed l.0) r.1.0.groups some.0 s.0 some.1 s.1 in
          let above = proposed_above_floor asked proposed packets group log l.0 r.1.0 s.0.group s.0.clock skeen r.1.1 told in
          let clock = s.2 in let low = under.2 in
          (under.0, under.1, omega arith)
    ]

pub requests_multicast : (t : Layout) (asked : Asked) (proposed : Proposals) (packets : List Packet) (group : ℕ → GroupState)
    (log : ℕ → List Delivered) (seq : ℕ → ℕ) (last : ℕ → Option RequestId) (c : ℕ) (q : Request) →
    SkeenGood asked proposed packets group log → AskedGood t asked proposed seq last → Rested asked proposed last c q.floor →
    ShapedFor t q →
    AskedGood t (with_asked asked (record { conn = record { 0 = c }; seq = suc (seq c) }) q) proposed (at seq c (suc (seq c)))
    (at last c (Some (record { conn = record { 0 = c }; seq = suc (seq c) })))
requests_multicast t asked proposed packets group log seq last c q skeen good rested shaped = record {
  shaped = λ i r e. by_test (same_id i id) q (asked i) r (ShapedFor t r) e
      (λ p same. subst (λ (x : Request). ShapedFor t x) same shaped)
      (λ p old. good.shaped i r old);
  fresh = λ i r e. by_test (same_id i id) q (asked i) r ((0 < i.seq) × (i.seq ≤ at seq c (suc (seq c)) i.conn.0)) e
      (λ p same. subst (λ j. (0 < j.seq) × (j.seq ≤ at seq c (suc (seq c)) j.conn.0)) (sym (same_id-true i id p))
      (let now = at_here seq c (suc (seq c)) in (omega arith, omega arith)))
      (λ p old. let before = good.fresh i r old in let more = at_more seq c i.conn.0 in (before.0, omega arith));
  lasts = λ d i e. by_test (d == c) id (last d) i ((i.conn.0 ≡ d) × ((r : Request) × (with_asked asked id q i ≡ Some r))) e
      (λ p same. subst (λ j. (j.conn.0 ≡ d) × ((r : Request) × (with_asked asked id q j ≡ Some r))) same (
        sym (eqb-true d c p),
        (q, asks_new asked id q),
      ))
      (λ p old. let before = good.lasts d i old in (before.0, (before.1.0, asks_more asked id q none i before.1.0 before.1.1)));
  latest = λ i r e. elim (cases_Bool (i.conn.0 == c)) [
    | inl p ↦ (
      id,
      cond-true (i.conn.0 == c) (Some id) (last i.conn.0) p,
      by_test (same_id i id) q (asked i) r (i.seq ≤ suc (seq c)) e
          (λ p' same. let at_id = ap (λ j. j.seq) (same_id-true i id p') in omega arith)
          (λ p' old. let low = (good.fresh i r old).1 in let at_c = ap seq (eqb-true i.conn.0 c p) in omega arith),
    )
    | inr p ↦ by_test (same_id i id) q (asked i) r ((l : RequestId) × (at last c (Some id) i.conn.0 ≡ Some l) × (i.seq ≤ l.seq)) e
        (λ p' same. absurd (both_ways _ p (and_parts (i.conn.0 == c) (i.seq == suc (seq c)) p').0))
        (λ p' old. let before = good.latest i r old in
        (before.0, cond-false (i.conn.0 == c) (Some id) (last i.conn.0) p ∙ before.1, before.2))
  ];
  floors = λ i j r r' conns less e d. by_test (same_id i id) q (asked i) r (Under proposed i r.groups r'.floor) e
      (λ p same.
      let at_id = same_id-true i id p in
      let seq_i = ap (λ k. k.seq) at_id in let conn_i = ap (λ k. k.conn.0) at_id in
      by_test (same_id j id) q (asked j) r' (Under proposed i r.groups r'.floor) d
      (λ p' same'. let seq_j = ap (λ k. k.seq) (same_id-true j id p') in absurd (omega arith))
      (λ p' old'.
      let low = (good.fresh j r' old').1 in
      let at_c : seq j.conn.0 ≡ seq c = ap seq (sym conns ∙ conn_i) in
      absurd (omega arith)))
      (λ p old. by_test (same_id j id) q (asked j) r' (Under proposed i r.groups r'.floor) d
      (λ p' same'.
      let conn_j = ap (λ k. k.conn.0) (same_id-true j id p') in
      subst (λ (x : Request). Under proposed i r.groups x.floor) same'
      (floor_above t asked proposed packets group log seq last c q.floor skeen good rested i r (conns ∙ conn_j) old))
      (λ p' old'. good.floors i j r r' conns less old old'));
}
  where
    id : RequestId
    id = record { conn = record { 0 = c }; seq = suc (seq c) }

    none : asked (record { conn = record { 0 = c }; seq = suc (seq c) }) ≡ None
    none = next_is_new t asked proposed seq last c good

-- a request that no group is asked for counts too
pub requests_counted : (t : Layout) (asked : Asked) (proposed : Proposals) (seq : ℕ → ℕ) (last : ℕ → Option RequestId) (c : ℕ) →
    AskedGood t asked proposed seq last →
    AskedGood t asked proposed (at seq c (suc (seq c))) last
requests_counted t asked proposed seq last c good = record {
  shaped = good.shaped;
  fresh = λ i q e. let before = good.fresh i q e in let more = at_more seq c i.conn.0 in (before.0, omega arith);
  lasts = good.lasts;
  latest = good.latest;
  floors = good.floors;
}

-- more is proposed
pub requests_proposed : (t : Layout) (asked : Asked) (proposed proposed' : Proposals) (seq : ℕ → ℕ) (last : ℕ → Option RequestId) →
    Among proposed proposed' → AskedGood t asked proposed seq last → AskedGood t asked proposed' seq last
requests_proposed t asked proposed proposed' seq last among good = record {
  shaped = good.shaped;
  fresh = good.fresh;
  lasts = good.lasts;
  latest = good.latest;
  floors = λ i j q r conns less e d. under_more proposed proposed' i q.groups r.floor among (good.floors i j q r conns less e d);
}

-- ---- what was taken and run, once more is submitted and proposed

pub taken_more : (asked asked' : Asked) (proposed proposed' : Proposals) (gone : ℕ → List Delivered) (all : List Delivered) →
    AskedMore asked asked' → Among proposed proposed' → TakenGood asked proposed gone all → TakenGood asked' proposed' gone all
taken_more asked asked' proposed proposed' gone all more among good = record {
  known = λ d there. known_more asked asked' proposed proposed' d more among (good.known d there);
  passed = good.passed;
  order = good.order;
}
