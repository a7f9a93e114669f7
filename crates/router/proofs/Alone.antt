-- A request of words by themselves that is submitted and taken at once.
use Rattle.std.proofs.Common.{◌≡◌, ℕ, suc, ◌+◌, ◌==◌, Bool, true, false, cond, List, [], ◌∷◌, ◌++◌, Option, Some, None, is_some}
use Rattle.std.proofs.Common.{slice_get, arith, refl, ap, sym, subst, ◌∙◌}
use Rattle.std.proofs.lemmas.Bool.{eqb-true}
use Rattle.groups.specs.declared.request.ConnId.{ConnId}
use Rattle.groups.specs.declared.request.RequestId.{RequestId}
use Rattle.placement.specs.Layout.{Layout}
use Rattle.router.specs.Connection.{with_standing}
use Rattle.router.specs.Router.{RouterView, connection, session_at, pending_in, pending_at, Changes}
use Rattle.router.specs.Submitting.{AreAlone, IsAsBefore, IsIdleAt, StandsBy, Submits, SubmitsAndTakes, TakesOut, TellsOf, next_id}
use Rattle.router.specs.declared.connection.Connection.{Connection}
use Rattle.router.specs.declared.connection.Standing.{Standing}
use Rattle.router.specs.declared.connection.Standing.TheVariants.{Idle, Waiting, Taken, Answered}
use Rattle.router.specs.declared.outcome.Outcome.{Outcome}
use Rattle.router.specs.declared.router.Idle.{Idle as Known}
use Rattle.router.specs.declared.submission.Submission.{Submission}
use Rattle.sessions.specs.Control.{control_in, control_of, is_control}
use Rattle.sessions.specs.Session.{asks}
use Rattle.sessions.specs.declared.session.Session.TheVariants.{Free}
use Rattle.worded.specs.declared.worded.Worded.{Worded}
use Rattle.router.proofs.Turning.{at-eqb, plain_leaves, told_free}

same_number : (n : ℕ) → (n == n) ≡ true
same_number n = grind arith

other_way : (c d : ℕ) → (c == d) ≡ (d == c)
other_way c d = grind arith

-- what stands at a number, and what stood there before
over : {A : Type 0} (b : Bool) (x y z : A) → cond b x z ≡ cond b x (cond b y z)
over true x y z = refl
over false x y z = refl

-- a connection that has changed
pub changed : (old new : RouterView) (c : ℕ) (v : Connection) → Changes old new c (Some v) → connection new c ≡ Some v
changed old new c v changes = changes.at c ∙ ap (λ b. cond b (Some v) (connection old c)) (same_number c)

-- the router in which this connection is so
abbrev pub with_connection : RouterView → ℕ → Connection → RouterView
with_connection r c v = record r { kept = (c, v) ∷ r.kept }

pub changes_to : (r : RouterView) (c : ℕ) (v : Connection) → Changes r (with_connection r c v) c (Some v)
changes_to r c v = record {
  opened = refl;
  at = λ d. ap (λ b. cond b (Some v) (connection r d)) (at-eqb d c ∙ other_way c d);
  sessions = refl;
}

-- twice changed is changed by the last
pub changes_over : (old mid new : RouterView) (c : ℕ) (v w : Connection) → Changes old mid c (Some v) → Changes old new c (Some w)
    → Changes mid new c (Some w)
changes_over old mid new c v w first last = record {
  opened = last.opened ∙ sym first.opened;
  at = λ d. last.at d ∙ over (d == c) (Some w) (Some v) (connection old d) ∙ ap (cond (d == c) (Some w)) (sym (first.at d));
  sessions = last.sessions ∙ sym first.sessions;
}

-- words whose first is none of the three names
pub no_control : (words : List (List ℕ)) (word : List ℕ) → slice_get words 0 ≡ Some word → is_control word ≡ false
    → control_in words ≡ None
no_control [] word there off = absurd (cc there)
no_control (name ∷ words) word there off = let same : name ≡ word = cc there in none_of (control_of name) (ap is_control same ∙ off)
  where
    none_of : {A : Type 0} (o : Option A) → is_some o ≡ false → o ≡ None
    none_of None off = refl
    none_of (Some a) off = absurd (cc off)

-- the next request of an idle connection, and the connection that has submitted it
abbrev pub next : ConnId → Known → RequestId
next conn known = record { conn = conn; seq = known.seq + 1 }

abbrev pub stands : Known → Standing → Connection
stands known s = record { is_open = true; seq = known.seq + 1; floor = known.floor; standing = s }

abbrev pub sends : ConnId → Known → List ℕ → Submission
sends conn known groups = record { id = next conn known; floor = known.floor; groups = groups }

module _ (t : Layout) (conn : ConnId) (words : List (List ℕ)) (old : RouterView) (known : Known)
    (idle : IsIdleAt (connection old conn.0) known) (alone : AreAlone old conn.0 words) where
  abbrev its : RequestId
  its = next conn known

  pub submits_alone : (new : RouterView) (standing : Standing) (groups : List ℕ) → Changes old new conn.0 (Some (stands known standing))
      → TellsOf t its (asks Free words).1 (standing, groups)
      → Submits t conn.0 words old (sends conn known groups) new
  submits_alone new standing groups changes tells =
      let was = idle.idle.was in
      let same = idle.seq in
      let seq : known.seq + 1 ≡ suc was.seq = omega arith in
      let same_id : its ≡ next_id conn.0 was = λ k. record { conn = conn; seq = seq k } in
      let answer = (asks (session_at old conn.0) words).1 in
      let told = told_free t its (session_at old conn.0) words (standing, groups) alone.0 tells in
      record {
        was = was;
        kept = idle.idle.kept;
        live = idle.idle.live;
        idle = idle.idle.idle;
        now = stands known standing;
        changes = record {
          opened = changes.opened;
          at = changes.at;
          sessions = λ d. ap (λ f. f d) changes.sessions ∙ plain_leaves old conn.0 words alone.0 alone.1 d;
        };
        still = refl;
        seq = seq;
        same_floor = idle.floor;
        standing = subst (λ i. StandsBy i answer standing) same_id told.standing;
        id = same_id;
        floor = idle.floor;
        groups = told.groups;
      }

  -- what is answered at once leaves nothing to take
  pub answers_alone : (new : RouterView) (o : Outcome) → Changes old new conn.0 (Some (stands known (Answered o)))
      → TellsOf t its (asks Free words).1 (Answered o, [])
      → SubmitsAndTakes t conn.0 words old (sends conn known []) [] new
  answers_alone new o changes tells = record {
    mid = new;
    submits = submits_alone new (Answered o) [] changes tells;
    takes = (ap (λ v. pending_at v its.seq) (changed old new conn.0 (stands known (Answered o)) changes), refl);
  }

  -- what would wait is taken
  pub passes_alone : (new : RouterView) (asked : Worded) (groups : List ℕ) → Changes old new conn.0 (Some (stands known Taken))
      → TellsOf t its (asks Free words).1 (Waiting asked, groups)
      → SubmitsAndTakes t conn.0 words old (sends conn known groups) (asked ∷ []) new
  passes_alone new asked groups changes tells =
      let waits = stands known (Waiting asked) in
      let mid = with_connection old conn.0 waits in
      let begun = changes_to old conn.0 waits in
      let there = changed old mid conn.0 waits begun in
      record {
        mid = mid;
        submits = submits_alone mid (Waiting asked) groups begun tells;
        takes = (
          ap (λ v. pending_at v its.seq) there ∙ ap (λ b. pending_in (Waiting asked) b) (same_number its.seq),
          (waits, there, changes_over old mid new conn.0 waits (stands known Taken) begun changes),
        );
      }

-- a connection whose next request is out
abbrev with_next_out : Known → Connection → Connection
with_next_out known v = record { is_open = v.is_open; seq = known.seq + 1; floor = v.floor; standing = Taken }

-- an idle connection whose request is out
pub handed_over : (old new : RouterView) (conn : ConnId) (known : Known) → IsIdleAt (connection old conn.0) known
    → ((v : Connection) × (connection old conn.0 ≡ Some v) × Changes old new conn.0 (Some (with_next_out known v)))
    → Changes old new conn.0 (Some (stands known Taken))
handed_over old new conn known idle handed =
    let same : handed.0 ≡ idle.idle.was = cc (handed.1, idle.idle.kept) in
    let now : with_next_out known handed.0 ≡ stands known Taken = ap (with_next_out known) same
    ∙ (λ k. record { is_open = idle.idle.live k; seq = known.seq + 1; floor = sym idle.floor k; standing = Taken }) in
    subst (λ v. Changes old new conn.0 (Some v)) now handed.2

-- ---- what was taken waits again

waits_with : (s : Standing) (b : Bool) (asked : Worded) → pending_in s b ≡ Some asked → s ≡ Waiting asked
waits_with Idle b asked is = absurd (cc is)
waits_with (Waiting other) true asked is = cc is
waits_with (Waiting other) false asked is = absurd (cc is)
waits_with Taken b asked is = absurd (cc is)
waits_with (Answered o) b asked is = absurd (cc is)

-- one thing at most was taken, and a list's last is that one
pub one_is_out : (old new : RouterView) (id : RequestId) (items before : List Worded) (asked : Worded) → TakesOut old id items new
    → items ≡ before ++ asked ∷ [] → items ≡ asked ∷ []
one_is_out old new id [] [] asked takes is = absurd (cc is)
one_is_out old new id [] (x ∷ before) asked takes is = absurd (cc is)
one_is_out old new id (y ∷ []) [] asked takes is = is
one_is_out old new id (y ∷ []) (x ∷ []) asked takes is = absurd (cc is)
one_is_out old new id (y ∷ []) (x ∷ z ∷ before) asked takes is = absurd (cc is)
one_is_out old new id (y ∷ z ∷ items) before asked takes is = absurd takes

pub is_kept : (old new : RouterView) (id : RequestId) (asked : Worded) → TakesOut old id (asked ∷ []) new
    → (v : Connection) × (connection new id.conn.0 ≡ Some v)
is_kept old new id asked takes =
    let v = with_standing takes.1.0 Taken in (v, changed old new id.conn.0 v takes.1.2)

pub waits_again : (old taken new : RouterView) (req : RequestId) (asked : Worded) → TakesOut old req (asked ∷ []) taken
    → ((v : Connection) × (connection taken req.conn.0 ≡ Some v) × Changes taken new req.conn.0 (Some (with_standing v (Waiting asked))))
    → IsAsBefore old new
waits_again old taken new req asked takes puts =
    let c = req.conn.0 in
    let pending = takes.0 in let v = takes.1.0 in let kept = takes.1.1 in let took = takes.1.2 in
    let w = puts.0 in let there = puts.1 in let back = puts.2 in
    let waits : v.standing ≡ Waiting asked =
    waits_with v.standing (v.seq == req.seq) asked (ap (λ o. pending_at o req.seq) (sym kept) ∙ pending) in
    let same : w ≡ with_standing v Taken = cc (there, changed old taken c (with_standing v Taken) took) in
    let again : with_standing w (Waiting asked) ≡ v = ap (λ x. with_standing x (Waiting asked)) same ∙ ap (with_standing v) (sym waits) in
    record {
      opened = back.opened ∙ took.opened;
      at = λ d. back.at d ∙ ap (λ x. cond (d == c) (Some x) (connection taken d)) again ∙ ap (cond (d == c) (Some v)) (took.at d)
          ∙ sym (over (d == c) (Some v) (Some (with_standing v Taken)) (connection old d)) ∙ put_same d;
      sessions = back.sessions ∙ took.sessions;
    }
  where
    put_same : (d : ℕ) → cond (d == req.conn.0) (Some takes.1.0) (connection old d) ≡ connection old d
    put_same d = by_case (d == req.conn.0) refl
      where
        by_case : (b : Bool) → (d == req.conn.0) ≡ b → cond b (Some takes.1.0) (connection old d) ≡ connection old d
        by_case true here = let same : d ≡ req.conn.0 = eqb-true d req.conn.0 here in sym takes.1.1 ∙ ap (connection old) (sym same)
        by_case false other = refl

-- what was submitted leads to any router that is so
pub submits_as_before : (t : Layout) (c : ℕ) (words : List (List ℕ)) (old mid new : RouterView) (s : Submission)
    → Submits t c words old s mid → IsAsBefore mid new → Submits t c words old s new
submits_as_before t c words old mid new s submits same = record {
  was = submits.was;
  kept = submits.kept;
  live = submits.live;
  idle = submits.idle;
  now = submits.now;
  changes = record {
    opened = same.opened ∙ submits.changes.opened;
    at = λ d. same.at d ∙ submits.changes.at d;
    sessions = λ d. ap (λ f. f d) same.sessions ∙ submits.changes.sessions d;
  };
  still = submits.still;
  seq = submits.seq;
  same_floor = submits.same_floor;
  standing = submits.standing;
  id = submits.id;
  floor = submits.floor;
  groups = submits.groups;
}
