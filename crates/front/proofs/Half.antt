-- Along the outcomes of a layer: some have gone, and the others are still to go.
use Rattle.std.proofs.Common.{◌≡◌, ℕ, List, [], ◌∷◌, ◌++◌, Some, refl, sym, ap, ◌∙◌, subst, append-nil, append_assoc}
use Rattle.std.specs.List.{AllZip}
use Rattle.front.proofs.Handing.{WasSettled, once_given, settle_may, settle_did}
use Rattle.front.specs.Outcomes.{IsSettling, Gives}
use Rattle.front.specs.Settling.{IsToldBy}
use Rattle.groups.specs.declared.stamp.Stamp.{Stamp}
use Rattle.layer_results.specs.declared.done.DoneRow.{DoneRow}
use Rattle.placement.specs.Layout.{Layout}
use Rattle.router.specs.Router.{RouterView, connection}
use Rattle.router.specs.declared.connection.Connection.{Connection}
use Rattle.router.specs.declared.outcome.Outcome as kept
use Rattle.front.specs.Connections.{outcome_shown}
use Rattle.world.specs.Steps.{outcome_of, reply_of, settled}
use Rattle.world.specs.World.{World, Standing, Ended}

-- the outcome that the router is handed is that of the request
pub gives_shown : (e : Ended) (row : DoneRow) (k : kept.Outcome) → IsToldBy e row → Gives row k → outcome_shown k ≡ outcome_of e
gives_shown e row k is gives = λ i. record {
  id = (gives.id ∙ is.id) i;
  reply = (gives.reply ∙ ap reply_of (sym is.reply)) i;
  stamp = (gives.stamp ∙ ap Some is.stamp) i;
}

module _ (t : Layout) (w : World) (done es : List Ended) (standing : ℕ → Standing) where
  pub record HalfSettled (rows : List DoneRow) (r : RouterView) : Type 0 where
    pub front : List Ended
    pub rest : List Ended
    pub split : es ≡ front ++ rest
    pub told : AllZip IsToldBy rest rows
    pub settling : IsSettling t w (done ++ front) rest (settled front standing) r

  pub half_starts : (rows : List DoneRow) (r : RouterView) → AllZip IsToldBy es rows → IsSettling t w done es standing r →
      HalfSettled rows r
  half_starts rows r told settling = record {
    front = [];
    rest = es;
    split = refl;
    told = told;
    settling = subst (λ l. IsSettling t w l es standing r) (sym (append-nil done)) settling;
  }

  -- the next request
  pub record NextOutcome (x : DoneRow) (rows : List DoneRow) (r : RouterView) (front : List Ended) : Type 0 where
    pub e : Ended
    pub behind : List Ended
    pub split : es ≡ front ++ e ∷ behind
    pub is : IsToldBy e x
    pub told : AllZip IsToldBy behind rows
    pub settling : IsSettling t w (done ++ front) (e ∷ behind) (settled front standing) r

  next_by : (front rest : List Ended) (x : DoneRow) (rows : List DoneRow) (r : RouterView) → es ≡ front ++ rest →
      AllZip IsToldBy rest (x ∷ rows) → IsSettling t w (done ++ front) rest (settled front standing) r →
      NextOutcome x rows r front
  next_by front [] x rows r split told settling = absurd told
  next_by front (e ∷ rest) x rows r split told settling =
      record { e = e; behind = rest; split = split; is = told.0; told = told.1; settling = settling }

  pub next_outcome : (rows behind : List DoneRow) (x : DoneRow) (r : RouterView) (half : HalfSettled rows r) → rows ≡ x ∷ behind →
      NextOutcome x behind r half.front
  next_outcome rows behind x r half is =
      next_by half.front half.rest x behind r half.split (subst (λ l. AllZip IsToldBy half.rest l) is half.told) half.settling

  more_settled : (front : List Ended) (e : Ended) (s : ℕ → Standing) → settled (front ++ e ∷ []) s
      ≡ once_given (outcome_of e) (settled front s)
  more_settled [] e s = refl
  more_settled (x ∷ front) e s = more_settled front e (once_given (outcome_of x) s)

  -- so much the router's settle asks
  pub next_may : (x : DoneRow) (rows : List DoneRow) (r : RouterView) (front : List Ended) (next : NextOutcome x rows r front)
      (k : kept.Outcome) → Gives x k → (v : Connection) × (connection r k.id.conn.0 ≡ Some v)
  next_may x rows r front next k gives =
      settle_may t w (done ++ front) next.e next.behind _ r next.settling (outcome_of next.e) refl refl k
      (gives_shown next.e x k next.is gives)

  -- and then one more has gone
  pub next_did : (x : DoneRow) (rows : List DoneRow) (r r' : RouterView) (front : List Ended) (next : NextOutcome x rows r front)
      (k : kept.Outcome) (s : Stamp) → Gives x k → s ≡ x.stamp → WasSettled r r' k.id.conn.0 s.clock k → HalfSettled rows r'
  next_did x rows r r' front next k s gives stamp did = record {
    front = front ++ next.e ∷ [];
    rest = next.behind;
    split = next.split ∙ sym (append_assoc front (next.e ∷ []) next.behind);
    told = next.told;
    settling =
        subst (λ f. IsSettling t w (done ++ (front ++ next.e ∷ [])) next.behind f r') (sym (more_settled front next.e standing))
        (subst (λ l. IsSettling t w l next.behind
        (once_given (outcome_of next.e) (settled front standing)) r')
        (append_assoc done front (next.e ∷ []))
        (settle_did t w (done ++ front) next.e next.behind _ r next.settling (outcome_of next.e) refl refl
        r' k s (gives_shown next.e x k next.is gives) (stamp ∙ next.is.stamp) did));
  }

  none_left : (rest : List Ended) (rows : List DoneRow) → rows ≡ [] → AllZip IsToldBy rest rows → rest ≡ []
  none_left [] rows none told = refl
  none_left (e ∷ rest) [] none told = absurd told
  none_left (e ∷ rest) (x ∷ rows) none told = cc

  pub half_ends : (rows : List DoneRow) (r : RouterView) → rows ≡ [] → HalfSettled rows r →
      IsSettling t w (done ++ es) [] (settled es standing) r
  half_ends rows r none half =
      let behind = none_left half.rest rows none half.told in
      let all : half.front ≡ es = sym (half.split ∙ ap (λ l. half.front ++ l) behind ∙ append-nil half.front) in
      subst (λ l. IsSettling t w (done ++ l) [] (settled l standing) r) all
      (subst (λ l. IsSettling t w (done ++ half.front) l (settled half.front standing) r) behind half.settling)
