-- A run and what is put down of it, one step after another.
use Rattle.std.proofs.Common.{◌≡◌, ◌∙◌, ℕ, suc, ◌+◌, List, [], ◌∷◌, ◌++◌, length, map, drop, refl, sym, ap, subst, arith}
use Rattle.std.proofs.Common.{Option, length-append}
use Rattle.std.specs.Prelude.{option_map}
use Rattle.std.proofs.lemmas.List.{map-append}
use Rattle.std.specs.List.{AllByRecursion, filter}
use Rattle.journal.specs.declared.step.Step.{Step}
use Rattle.picture.specs.Arrivals.{delivery_in, receipt_in}
use Rattle.picture.specs.Flights.{IsFlying, Flies, arrival_in, coming_in, kept_at}
use Rattle.picture.specs.Layers.{layer_in, reply_in}
use Rattle.picture.specs.Notes.{HasNone, IsBefore, Notes}
use Rattle.picture.specs.Ran.{Ran}
use Rattle.picture.specs.Run.{AreFlying, Flight, InEach, IsPast, Walks, flies_at, flight_in, flight_of, last_of}
use Rattle.picture.specs.Told.{IsFactsOf}
use Rattle.picture.specs.Words.{word_of}
use Rattle.picture_shapes.specs.declared.facts.RunFacts.{RunFacts}
use Rattle.picture.specs.declared.flights.Flights.{Flights}
use Rattle.picture.specs.declared.recorder.Before.{Before}
use Rattle.picture.specs.declared.recorder.Recorder.{Recorder}
use Rattle.picture_shapes.specs.declared.facts.PacketFacts.{PacketFacts}
use Rattle.picture.proofs.Landing.{are_flying, map-kept}
use Rattle.picture.proofs.Noting.{tells, told_next}
use Rattle.picture.proofs.Runs.{walks_more, last_more, steps_more, length_steps, each_more, behind, packets_after}
use Rattle.replay.proofs.Making.{AreNamed, made_itself}
use Rattle.placement.specs.Layout.{Layout}
use Rattle.replay.specs.Replay.{StandsAt}
use Rattle.front.proofs.Histories.{leads_more}
use Rattle.system.specs.Halves.{Shows, effect_shown}
use Rattle.system.specs.Reads.{packets_of, table_of}
use Rattle.system.specs.System.{SystemView, IsNew, IsStep}
use Rattle.system.specs.declared.effect.Effect.{Effect}
use Rattle.world.specs.Steps.{opening, Leads, Steps}

-- it stands where the refusals are told
pub stands : {t : Layout} {most : ℕ} {made : List Step} {s : SystemView} {f : Flights} {r : Recorder} → Ran t most made s f r →
    StandsAt t most made s
stands ran = record {
  world = last_of opening ran.run;
  shows = ran.shows;
  table = ran.table;
  lives = ran.lives;
  count = ran.count;
  limit = ran.limit;
}

-- one step more
pub ran_next : (t : Layout) (most : ℕ) (made : List Step) (old new : SystemView) (s : Step) (e : Effect) (f g : Flights) (r q : Recorder)
    (b : Before) (landed : Option PacketFacts) (n : ℕ) → IsStep old s e new → AreNamed s e → n ≡ length made →
    Flies n (arrival_in s) (packets_of old) (packets_of new) f g → IsBefore s landed old b →
    ((now : List Flight) → IsFlying f now → option_map flight_in landed ≡ coming_in (arrival_in s) now) → Notes n b e new r q →
    Ran t most made old f r → Ran t most (made ++ s ∷ []) new g q
ran_next t most made old new s e f g r q b landed n is named at flies known lands put ran =
    let w = last_of opening ran.run in
    let next = is.makes.from_each made w ran.shows in
    let w' = next.0 in
    let itself = made_itself old.halves (table_of old) w w' s e (is.makes.starves made w ran.shows) named next.1 in
    let step : Steps t w s (effect_shown e) w' = subst (λ l. Steps l w s (effect_shown e) w') ran.table itself in
    let last = last_more opening ran.run (record { step = s; after = w' }) in
    let before : packets_of old ≡ w.packets = ran.shows.shows.multicast.packets in
    let after : packets_of new ≡ w'.packets = next.2.shows.multicast.packets in
    let was : IsFlying f (map flight_of (packets_of old)) = subst (λ ps. IsFlying f (map flight_of ps)) (sym before) ran.flying in
    let sent = packets_after t w w' s (effect_shown e) step in
    let kept = kept_at (arrival_in s) (packets_of old) in
    let fresh = drop (length kept) (packets_of new) in
    let whole : packets_of new ≡ kept ++ fresh =
    behind (packets_of new) kept sent.0 (after ∙ sent.1 ∙ ap (λ ps. kept_at (arrival_in s) ps ++ sent.0) (sym before)) in
    let are : kept_at (arrival_in s) (map flight_of (packets_of old)) ++ map flight_of fresh ≡ map flight_of (packets_of new) =
    ap (λ l. l ++ map flight_of fresh) (sym (map-kept flight_of (arrival_in s) (packets_of old)))
    ∙ sym (map-append flight_of kept fresh) ∙ ap (map flight_of) (sym whole) in
    let now : IsFlying g (map flight_of w'.packets) = subst (IsFlying g) (are ∙ ap (map flight_of) after) (flies.flying was) in
    let more : length (made ++ s ∷ []) ≡ suc n = length-append made (s ∷ []) ∙ (let a = at in omega arith) in
    let past : AllByRecursion (IsPast (suc n)) g.packets.items =
    flies.past (subst (λ k. AllByRecursion (IsPast k) f.packets.items) (sym at) ran.past) in
    let steps : length ran.run ≡ n = sym (length_steps ran.run) ∙ ap (λ (l : List Step). length l) ran.steps ∙ sym at in
    let count = ran.count in
    let counted = is.counted in
    record {
      run = ran.run ++ record { step = s; after = w' } ∷ [];
      steps = steps_more ran.run (record { step = s; after = w' }) ∙ ap (λ l. l ++ s ∷ []) ran.steps;
      walks = walks_more t opening w' ran.run s (effect_shown e) ran.walks step;
      shows = record {
        leads = subst (λ l. Leads l opening (made ++ s ∷ []) (last_of opening (ran.run ++ record { step = s; after = w' } ∷ [])))
            (sym is.makes.table)
            (subst (Leads (table_of old) opening (made ++ s ∷ [])) (sym last)
            (leads_more (table_of old) opening w w' made s (effect_shown e) ran.shows.leads itself));
        shows = subst (λ v. Shows new.halves v) (sym last) next.2.shows;
      };
      table = is.makes.table ∙ ran.table;
      lives = is.lives;
      count = omega arith;
      limit = is.max_steps ∙ ran.limit;
      each = each_more (AreFlying f.packets.items) (AreFlying g.packets.items) 0 opening ran.run (record { step = s; after = w' }) ran.each
          (λ i v less fly. flies.earlier was i (let same = steps in omega (arith, less)) ∙ fly)
          (subst (λ k. AreFlying g.packets.items (suc k) w')
          (let same = steps in let e : n ≡ 0 + length ran.run = omega arith in e)
          (are_flying g (suc n) w' now past));
      flying = subst (λ v. IsFlying g (map flight_of v.packets)) (sym last) now;
      past = subst (λ k. AllByRecursion (IsPast k) g.packets.items) (sym more) past;
      told = told_next ran.run n s w' r q (sym steps) ran.told
          (tells t w w' n old new ran.shows.shows next.2.shows r q ran.told.last s e b landed step known
          (lands (map flight_of w.packets) ran.flying) put);
    }

-- nothing was made
pub ran_first : (t : Layout) (most : ℕ) (s : SystemView) (f : Flights) (r : Recorder) → IsNew t most s → f.packets.items ≡ [] →
    IsFlying f [] → HasNone r → Ran (table_of s) s.max_steps [] s f r
ran_first t most s f r is none flying nothing = record {
  run = [];
  steps = refl;
  walks = tt;
  shows = is.shows.at;
  table = refl;
  lives = is.lives;
  count = is.none;
  limit = refl;
  each = ap (λ ps. map flight_in (filter (flies_at 0) ps)) none;
  flying = flying;
  past = subst (λ ps. AllByRecursion (IsPast 0) ps) (sym none) tt;
  told = record {
    receipts = ap (map receipt_in) nothing.receipts;
    deliveries = ap (map delivery_in) nothing.deliveries;
    layers = ap (map layer_in) nothing.layers;
    replies = ap (map reply_in) nothing.replies;
    last = tt;
  };
}

-- all was made
pub facts_are : (t l : Layout) (most : ℕ) (made steps : List Step) (s : SystemView) (f : Flights) (r : Recorder) (facts : RunFacts) →
    Ran l most made s f r → l ≡ t → made ≡ steps → facts.groups ≡ t.shards → facts.steps.items ≡ map word_of made →
    facts.packets.items ≡ f.packets.items → facts.receipts.items ≡ r.arrivals.receipts.items →
    facts.deliveries.items ≡ r.arrivals.deliveries.items → facts.layers.items ≡ r.layers.layers.items →
    facts.replies.items ≡ r.layers.replies.items → IsFactsOf t steps facts
facts_are t l most made steps s f r facts ran table are groups words packets receipts deliveries layers replies = record {
  groups = groups;
  words = words ∙ ap (map word_of) are;
  run = ran.run;
  steps_are = ran.steps ∙ are;
  walks = subst (λ k. Walks k opening ran.run) table ran.walks;
  packets = subst (λ ps. InEach (AreFlying ps) 0 opening ran.run) (sym packets) ran.each;
  in_time = subst (λ ps. AllByRecursion (IsPast (length steps)) ps) (sym packets)
      (subst (λ l. AllByRecursion (IsPast (length l)) f.packets.items) are ran.past);
  receipts = ap (map receipt_in) receipts ∙ ran.told.receipts;
  deliveries = ap (map delivery_in) deliveries ∙ ran.told.deliveries;
  layers = ap (map layer_in) layers ∙ ran.told.layers;
  replies = ap (map reply_in) replies ∙ ran.told.replies;
}
