use Rattle.std.proofs.Common.{◌≡◌, ◌+◌, suc, arith, subst, refl}
use Rattle.groups.specs.declared.request.RequestId.{RequestId}
use Rattle.router.specs.Router.{session_at}
use Rattle.router.specs.Submitting.{StandsBy, next_id}
use Rattle.sessions.specs.Session.{asks}
use Rattle.router.proofs.Turning.{turns_then}
use Rattle.router.proofs.router.Router.submit.Goals as goal

pub returns-clause-submitted : goal.returns-clause-submitted
returns-clause-submitted c =
    let known = c.in_ok-seq.ensures.idle in
    let was = known.idle.was in
    let same = known.seq in
    let next : c.in_ok-seq.field-0.seq + 1 ≡ suc was.seq = omega arith in
    let id : (let i : RequestId = record { conn = c.args.conn; seq = c.in_ok-seq.field-0.seq + 1 } in i) ≡ next_id c.args.conn.0 was =
    λ k. record { conn = c.args.conn; seq = next k } in
    let answer = (asks (session_at c.args.self.now c.args.conn.0) c.args.words).1 in
    record {
      was = was;
      kept = known.idle.kept;
      live = known.idle.live;
      idle = known.idle.idle;
      now = _;
      changes = turns_then c.args.self.now c.ask.new.self c.put.new.self c.args.conn.0 _ _ c.ask.ensures.opened c.ask.ensures.kept
          c.in-Ok.ensures.sessions c.put.ensures;
      still = refl;
      seq = next;
      same_floor = known.floor;
      standing = subst (λ i. StandsBy i answer c.in-Ok.standing) id c.in-Ok.ensures.told.standing;
      id = id;
      floor = known.floor;
      groups = c.in-Ok.ensures.told.groups;
    }
