-- Steps of a trace that are made, and the one that isn't.
use Rattle.std.proofs.Common.{◌≡◌, ◌≢◌, ℕ, suc, ◌+◌, Bool, true, false, cond, List, [], ◌∷◌, ◌++◌}
use Rattle.std.proofs.Common.{length, take, drop, zero, ◌<◌, inl, inr, Option, Some, None}
use Rattle.std.proofs.Common.{refl, sym, ap, ◌∙◌, subst, arith, length-append}
use Rattle.std.proofs.lemmas.Bool.{and_parts}
use Rattle.std.specs.List.{AllByRecursion, list_all}
use Rattle.tasks.specs.Starved.{has, starved_in}
use Rattle.groups.proofs.Options.{some_same}
use Rattle.groups.specs.Order.{In}
use Rattle.groups.specs.Skips.{names_whole, parts_of}
use Rattle.groups.specs.declared.skip_id.SkipId.{SkipId}
use Rattle.groups.specs.declared.skip_id.SkipId.TheVariants.{Whole, Part}
use Rattle.journal.specs.declared.step.Step.{Step}
use Rattle.journal.specs.declared.step.Step.TheVariants as step
use Rattle.keyspace.specs.Map.{Map}
use Rattle.placement.specs.Layout.{Layout}
use Rattle.resp.specs.Content.{Content}
use Rattle.tasks.proofs.Told.{told_again}
use Rattle.tasks.specs.Tasks.{Task, deed_effect, deed_of, starved_names}
use Rattle.replay.proofs.Members.{same_tests, same_deed}
use Rattle.replay.proofs.Places.{split_at, take_next}
use Rattle.replay.specs.Names.{is_named}
use Rattle.replay.specs.Replay.{IsRefusal, IsRefusedAt, StandsAt, IsFaultOf, IsRefusalOf, named_in, starved_at}
use Rattle.replay.specs.declared.fault.ReplayFault.{ReplayFault}
use Rattle.replay.specs.declared.fault.ReplayFault.TheVariants as replay
use Rattle.std.specs.Option.{MatchOption}
use Rattle.skeen_core.specs.declared.packet.Delivered.{Delivered}
use Rattle.front.proofs.Histories.{leads_more}
use Rattle.system.proofs.Names.{in_whole, in_numbers, in_starved}
use Rattle.system.specs.Halves.{Starves, StarvesSo, StarveInTurn, met_by, effect_shown, stored}
use Rattle.system.specs.Reads.{table_of, failed}
use Rattle.system.specs.System.{SystemView, IsStep, IsRefused}
use Rattle.system.specs.declared.effect.Effect.{Effect}
use Rattle.system.specs.declared.effect.Effect.TheVariants as effect
use Rattle.system.specs.declared.fault.StepFault.{StepFault}
use Rattle.system.specs.declared.fault.StepFault.TheVariants.{Busy, NoConn, NoPacket, InFlight, NoLayer, Exhausted, Memory, Failed}
use Rattle.system.specs.declared.halves.Halves.{Halves}
use Rattle.world.specs.Steps.{opening, map_after, ended_as, starved_among, RunInTurn, Steps, Leads}
use Rattle.world.specs.Steps as world
use Rattle.world.specs.World.{World, Request, Ended, Taken}
use Rattle.world_laws.specs.Good.{Asked}

-- ---- a Run starves those that its line names, and no other

run_same : (asked : Asked) (starved : List SkipId) (m : Map) (ds : List Delivered) (es es' : List Ended) →
    RunInTurn asked starved m ds es → RunInTurn asked starved m ds es' → es ≡ es'
run_same asked starved m [] es es' a b = a ∙ sym b
run_same asked starved m (d ∷ ds) [] es' a b = absurd a
run_same asked starved m (d ∷ ds) (e ∷ es) [] a b = absurd b
run_same asked starved m (d ∷ ds) (e ∷ es) (e' ∷ es') a b =
    let requests : a.0.0 ≡ b.0.0 = some_same a.0.0 b.0.0 (sym a.0.1 ∙ b.0.1) in
    let heads : e ≡ e' = a.0.2 ∙ ap (λ (q : Request). ended_as starved m d q.task) requests ∙ sym b.0.2 in
    let rest = run_same asked starved (map_after e.reply e.task m) ds es es' a.1
    (subst (λ (x : Ended). RunInTurn asked starved (map_after x.reply x.task m) ds es') (sym heads) b.1) in
    ap (λ x. x ∷ es) heads ∙ ap (λ l. e' ∷ l) rest

same_taken : (ds es : List Delivered) → Taken ds ≡ Taken es → ds ≡ es
same_taken ds es e = cc

-- each member of the request that starved is named
abbrev TellsNamed : List SkipId → Ended → Type 0
TellsNamed skip e = (reply : Content) → e.reply ≡ Some reply → (k : ℕ) → has (starved_in e.task reply) k ≡ true →
    has (parts_of skip e.id) k ≡ true

-- where the same requests starve as wholes, and the same members, each request ends the same
ends_alike : (table : Layout) (starved skip : List SkipId) (m : Map) (d : Delivered) (task : Task) (e : Ended) →
    e ≡ ended_as starved m d task → names_whole starved d.id ≡ names_whole skip d.id → StarvesSo table skip m e → TellsNamed skip e →
    e ≡ ended_as skip m d task
ends_alike table starved skip m d task e is same so named =
    is ∙ ap (λ o. record { id = d.id; stamp = d.stamp; groups = d.groups; task = task; reply = o })
    (by_whole (names_whole starved d.id) refl)
  where
    reply_of : List SkipId → Bool → Option Content
    reply_of names whole = cond whole None (Some (deed_effect (task, parts_of names d.id) m).1)

    by_whole : (b : Bool) → names_whole starved d.id ≡ b →
        reply_of starved (names_whole starved d.id) ≡ reply_of skip (names_whole skip d.id)
    by_whole true whole = ap (reply_of starved) whole ∙ ap (reply_of skip) (sym whole ∙ same)
    by_whole false part =
        let said = (deed_effect (task, parts_of starved d.id) m).1 in
        let some : e.reply ≡ Some said = ap (λ (x : Ended). x.reply) is ∙ ap (reply_of starved) part in
        let task_is : e.task ≡ task = ap (λ (x : Ended). x.task) is in
        let id_is : e.id ≡ d.id = ap (λ (x : Ended). x.id) is in
        let alike = same_deed e.task (parts_of skip e.id) (met_by table e.task m) m said (so.members said some) (named said some) in
        let there : deed_effect (task, parts_of skip d.id) m ≡ deed_effect (deed_of task said) m =
        subst (λ i. deed_effect (task, parts_of skip i) m ≡ deed_effect (deed_of task said) m) id_is
        (subst (λ c. deed_effect (c, parts_of skip e.id) m ≡ deed_effect (deed_of c said) m) task_is alike) in
        ap (reply_of starved) part
        ∙ ap (λ (x : Map × Content). Some x.1) (sym (there ∙ told_again task (parts_of starved d.id) m))
        ∙ ap (reply_of skip) (sym part ∙ same)

run_alike : (table : Layout) (asked : Asked) (starved skip : List SkipId) (m : Map) (ds : List Delivered) (es : List Ended) →
    ((d : Delivered) → In d ds → names_whole starved d.id ≡ names_whole skip d.id) → StarveInTurn table skip m es →
    ((e : Ended) → In e es → TellsNamed skip e) → RunInTurn asked starved m ds es → RunInTurn asked skip m ds es
run_alike table asked starved skip m [] es alike so named run = run
run_alike table asked starved skip m (d ∷ ds) [] alike so named run = absurd run
run_alike table asked starved skip m (d ∷ ds) (e ∷ es) alike so named run = (
  (run.0.0, run.0.1, ends_alike table starved skip m d run.0.0.task e run.0.2 (alike d (inl refl)) so.0 (named e (inl refl))),
  run_alike table asked starved skip (map_after e.reply e.task m) ds es (λ f there. alike f (inr there)) so.1
      (λ f there. named f (inr there)) run.1,
)

-- what starved is all named
abbrev pub AreNamed : Step → Effect → Type 0
AreNamed (step.Run skip) (effect.Ran starved) = AllByRecursion (λ name. is_named skip name ≡ true) starved
AreNamed step effect = Unit {0}

pub named_run : (s : Step) (named starved : List SkipId) → named ≡ named_in s →
    AllByRecursion (λ name. is_named named name ≡ true) starved →
    AreNamed s (effect.Ran starved)
named_run step.Open named starved is are = tt
named_run (step.Submit conn words) named starved is are = tt
named_run (step.Deliver place) named starved is are = tt
named_run step.Take named starved is are = tt
named_run (step.Run skip) named starved is are = subst (λ l. AllByRecursion (λ name. is_named l name ≡ true) starved) is are
named_run step.Settle named starved is are = tt
named_run (step.Collect conn) named starved is are = tt
named_run (step.Close conn) named starved is are = tt
named_run (step.Repeat place) named starved is are = tt

named_else : (skip : List SkipId) (e : Effect) → ((starved : List SkipId) → e ≡ effect.Ran starved → ⊥) → AreNamed (step.Run skip) e
named_else skip (effect.Ran starved) apart = absurd (apart starved refl)
named_else skip (effect.Opened conn) apart = tt
named_else skip (effect.Submitted id) apart = tt
named_else skip (effect.Collected outcome) apart = tt
named_else skip effect.Made apart = tt

pub named_other : (s : Step) (e : Effect) → ((starved : List SkipId) → e ≡ effect.Ran starved → ⊥) → AreNamed s e
named_other step.Open e apart = tt
named_other (step.Submit conn words) e apart = tt
named_other (step.Deliver place) e apart = tt
named_other step.Take e apart = tt
named_other (step.Run skip) e apart = named_else skip e apart
named_other step.Settle e apart = tt
named_other (step.Collect conn) e apart = tt
named_other (step.Close conn) e apart = tt
named_other (step.Repeat place) e apart = tt

all_pass : {A : Type 0} (p : A → Bool) (xs : List A) → list_all p xs ≡ true → AllByRecursion (λ x. p x ≡ true) xs
all_pass p [] pass = tt
all_pass p (x ∷ xs) pass = let parts = and_parts (p x) (list_all p xs) pass in (parts.0, all_pass p xs parts.1)

pub named_all : (s : Step) (e : Effect) (named : List SkipId) → named ≡ named_in s → list_all (is_named named) (starved_at e) ≡ true →
    AreNamed s e
named_all s (effect.Ran starved) named is are = named_run s named starved is (all_pass (is_named named) starved are)
named_all s (effect.Opened conn) named is are = named_other s (effect.Opened conn) (λ starved e. cc)
named_all s (effect.Submitted id) named is are = named_other s (effect.Submitted id) (λ starved e. cc)
named_all s (effect.Collected outcome) named is are = named_other s (effect.Collected outcome) (λ starved e. cc)
named_all s effect.Made named is are = named_other s effect.Made (λ starved e. cc)

-- so the step itself is the world's, and not only the one that is stored
pub made_itself : (p : Halves) (t : Layout) (w w' : World) (s : Step) (e : Effect) → Starves p s e w → AreNamed s e →
    Steps t w (stored s e) (effect_shown e) w' → Steps t w s (effect_shown e) w'
made_itself p t w w' step.Open e starve named made = made
made_itself p t w w' (step.Submit conn words) e starve named made = made
made_itself p t w w' (step.Deliver place) e starve named made = made
made_itself p t w w' step.Take e starve named made = made
made_itself p t w w' step.Settle e starve named made = made
made_itself p t w w' (step.Collect conn) e starve named made = made
made_itself p t w w' (step.Close conn) e starve named made = made
made_itself p t w w' (step.Repeat place) e starve named made = made
made_itself p t w w' (step.Run skip) (effect.Opened conn) starve named made = made
made_itself p t w w' (step.Run skip) (effect.Submitted id) starve named made = made
made_itself p t w w' (step.Run skip) (effect.Collected outcome) starve named made = made
made_itself p t w w' (step.Run skip) effect.Made starve named made = made
made_itself p t w w' (step.Run skip) (effect.Ran starved) starve named made = record {
  layer = made.layer;
  outcomes = made.outcomes;
  there = made.there;
  in_turn = run_alike p.back.store.table w.asked starved skip w.contents made.layer made.outcomes alike so tells made.in_turn;
  answers = made.answers;
  after = made.after;
}
  where
    all_named : (name : SkipId) → In name starved → is_named skip name ≡ true
    all_named name there = among starved named name there
      where
        among : (names : List SkipId) → AllByRecursion (λ n. is_named skip n ≡ true) names →
            (n : SkipId) → In n names → is_named skip n ≡ true
        among [] are n there = absurd there
        among (x ∷ xs) are n (inl same) = subst (λ y. is_named skip y ≡ true) (sym same) are.0
        among (x ∷ xs) are n (inr later) = among xs are.1 n later

    layers : made.layer ≡ starve.requests
    layers = same_taken made.layer starve.requests (sym made.there ∙ starve.taken)

    outcomes : made.outcomes ≡ starve.outcomes
    outcomes = run_same w.asked starved w.contents made.layer made.outcomes starve.outcomes made.in_turn
        (subst (λ ds. RunInTurn w.asked starved w.contents ds starve.outcomes) (sym layers) starve.ran)

    so : StarveInTurn p.back.store.table skip w.contents made.outcomes
    so = subst (StarveInTurn p.back.store.table skip w.contents) (sym outcomes) starve.so

    names_are : starved ≡ starved_among made.outcomes
    names_are = same_names starved (starved_among made.outcomes) made.answers
      where
        same_names : (xs ys : List SkipId) → world.Ran xs ≡ world.Ran ys → xs ≡ ys
        same_names xs ys e = cc

    alike : (d : Delivered) → In d made.layer → names_whole starved d.id ≡ names_whole skip d.id
    alike d there = same_tests (names_whole starved d.id) (names_whole skip d.id)
        (λ whole. all_named (Whole d.id) (in_whole starved d.id whole)) (starve.named made.layer made.there d there)

    tells : (e : Ended) → In e made.outcomes → TellsNamed skip e
    tells e there reply some k among =
        all_named (Part e.id k)
        (subst (In (Part e.id k)) (sym names_are)
        (in_starved made.outcomes e (Part e.id k) there
        (subst (λ o. In (Part e.id k) (starved_names e.id e.task o)) (sym some) (in_numbers e.id (starved_in e.task reply) k among))))

-- one step more
pub stands_next : (t : Layout) (most : ℕ) (before : List Step) (old new : SystemView) (s : Step) (e : Effect) → IsStep old s e new →
    AreNamed s e → StandsAt t most before old → StandsAt t most (before ++ s ∷ []) new
stands_next t most before old new s e is named stands =
    let next = is.makes.from_each before stands.world stands.shows in
    let starves = is.makes.starves before stands.world stands.shows in
    let itself = made_itself old.halves (table_of old) stands.world next.0 s e starves named next.1 in
    let count = stands.count in
    let counted = is.counted in
    let more = length-append before (s ∷ []) in
    record {
      world = next.0;
      shows = record {
        leads = subst (λ l. Leads l opening (before ++ s ∷ []) next.0) (sym is.makes.table)
            (leads_more (table_of old) opening stands.world next.0 before s (effect_shown e) stands.shows.leads itself);
        shows = next.2.shows;
      };
      table = is.makes.table ∙ stands.table;
      lives = is.lives;
      count = omega arith;
      limit = is.max_steps ∙ stands.limit;
    }

-- ---- the step that isn't made

both_ways : (b : Bool) → b ≡ true → b ≡ false → ⊥
both_ways b on off = cc

-- a system in which steps are left has made fewer than may be made
fewer : {t : Layout} {most : ℕ} {made : List Step} {s : SystemView} → StandsAt t most made s → s.steps < s.max_steps →
    length made < most
fewer stands left = let count = stands.count in let limit = stands.limit in omega arith

refusal : (may_refuse : Bool) (t : Layout) (most : ℕ) (before : List Step) (old new : SystemView) (s : Step) (fault : StepFault) →
    (stands : StandsAt t most before old) → fault ≢ Memory → IsRefused may_refuse old s fault new →
    IsRefusal may_refuse most (length before) stands.world s fault
refusal may_refuse t most before old new s Busy stands other is = (fewer stands is.left, is.why before stands.world stands.shows)
refusal may_refuse t most before old new s NoConn stands other is = (fewer stands is.left, is.why before stands.world stands.shows)
refusal may_refuse t most before old new s NoPacket stands other is = (fewer stands is.left, is.why before stands.world stands.shows)
refusal may_refuse t most before old new s InFlight stands other is = (fewer stands is.left, is.why before stands.world stands.shows)
refusal may_refuse t most before old new s NoLayer stands other is = (fewer stands is.left, is.why before stands.world stands.shows)
refusal may_refuse t most before old new s Exhausted stands other is = sym stands.count ∙ is.1 ∙ stands.limit
refusal may_refuse t most before old new s Memory stands other is = absurd (other refl)
refusal may_refuse t most before old new s Failed stands other (inl before') =
    absurd (both_ways (failed old) before'.0 stands.lives)
refusal may_refuse t most before old new s Failed stands other (inr now) = (
  fewer stands now.left,
  (now.may_fail.refusable, now.may_fail.runs, now.may_fail.not_refused before stands.world stands.shows),
)

pub refused_at : (may_refuse : Bool) (t : Layout) (most : ℕ) (steps before behind : List Step) (old new : SystemView) (s : Step)
    (index : ℕ) (fault : StepFault) → steps ≡ before ++ s ∷ behind → index ≡ length before → StandsAt t most before old → fault ≢ Memory →
    IsRefused may_refuse old s fault new → IsRefusedAt may_refuse t most steps index fault
refused_at may_refuse t most steps before behind old new s index fault split at-index stands other is = record {
  before = before;
  step = s;
  behind = behind;
  split = split;
  at = at-index;
  world = stands.world;
  leads = subst (λ l. Leads l opening before stands.world) stands.table stands.shows.leads;
  why = refusal may_refuse t most before old new s fault stands other is;
}

-- ---- along the list

-- where the next step is there, so many were made before it
pub made_before : {A : Type 0} (steps left : List A) (n : ℕ) (s : A) → left ≡ drop n steps → (rest : List A) → left ≡ s ∷ rest →
    (steps ≡ take n steps ++ s ∷ rest) × (n ≡ length (take n steps)) × (take (suc n) steps ≡ take n steps ++ s ∷ [])
    × (rest ≡ drop (suc n) steps)
made_before steps left n s are rest next =
    let here : drop n steps ≡ s ∷ rest = sym are ∙ next in (
      split_at steps n ∙ ap (λ l. take n steps ++ l) here,
      sym (length-taken steps n s rest here),
      take_next steps n s rest here,
      drop_next steps n s rest here,
    )
  where
    length-taken : {A : Type 0} (xs : List A) (n : ℕ) (x : A) (rest : List A) → drop n xs ≡ x ∷ rest → length (take n xs) ≡ n
    length-taken [] zero x rest is = cc
    length-taken [] (suc n) x rest is = cc
    length-taken (y ∷ ys) zero x rest is = refl
    length-taken (y ∷ ys) (suc n) x rest is = ap suc (length-taken ys n x rest is)

    drop_next : {A : Type 0} (xs : List A) (n : ℕ) (x : A) (rest : List A) → drop n xs ≡ x ∷ rest → rest ≡ drop (suc n) xs
    drop_next [] zero x rest is = cc
    drop_next [] (suc n) x rest is = cc
    drop_next (y ∷ ys) zero x rest is = cc
    drop_next (y ∷ ys) (suc n) x rest is = drop_next ys n x rest is

-- where none is left there is no place of the list
pub none_left : {A : Type 0} (steps left : List A) (n : ℕ) → left ≡ drop n steps → left ≡ [] → n < length steps → ⊥
none_left [] left n are none few = omega (arith, few)
none_left (x ∷ xs) left zero are none few = let e = sym are ∙ none in cc
none_left (x ∷ xs) left (suc n) are none few = none_left xs left n are none (omega (arith, few))

-- what reading the next step tells
abbrev pub Next : Option Step → List Step → List Step → Type 0
Next o left rest = MatchOption o ((left ≡ []) × (rest ≡ [])) (λ s. left ≡ s ∷ rest)

pub next_none : (o : Option Step) (left rest : List Step) → o ≡ None → Next o left rest → left ≡ []
next_none o left rest is told = let at-none = subst (λ p. Next p left rest) is told in at-none.0

pub next_some : (o : Option Step) (left rest : List Step) (s : Step) → o ≡ Some s → Next o left rest → left ≡ s ∷ rest
next_some o left rest s is told = subst (λ p. Next p left rest) is told

pub fault_at : (may_refuse : Bool) (t : Layout) (most : ℕ) (steps left rest : List Step) (n : ℕ) (s : Step) (old new : SystemView)
    (fault : ReplayFault) → left ≡ drop n steps → left ≡ s ∷ rest → StandsAt t most (take n steps) old →
    IsRefusalOf may_refuse old s n new fault → IsFaultOf may_refuse t most steps fault
fault_at may_refuse t most steps left rest n s old new (replay.Step index why) are next stands is =
    let made = made_before steps left n s are rest next in
    refused_at may_refuse t most steps (take n steps) rest old new s index why made.0 (is.0 ∙ made.1) stands is.1 is.2
fault_at may_refuse t most steps left rest n s old new replay.Memory are next stands is = tt

-- what holds of those that were made and of one more
pub one_more_made : (P : List Step → Type 0) (steps left rest : List Step) (n : ℕ) (s : Step) → left ≡ drop n steps → left ≡ s ∷ rest →
    P (take n steps ++ s ∷ []) → (rest ≡ drop (n + 1) steps) × P (take (n + 1) steps)
one_more_made P steps left rest n s are next stands =
    let made = made_before steps left n s are rest next in
    let one : suc n ≡ n + 1 = omega arith in (
      made.3 ∙ ap (λ k. drop k steps) one,
      subst P (sym made.2 ∙ ap (λ k. take k steps) one) stands,
    )

-- so many were made
pub made_count : (steps left rest : List Step) (n : ℕ) (s : Step) → left ≡ drop n steps → left ≡ s ∷ rest → n ≡ length (take n steps)
made_count steps left rest n s are next = let made = made_before steps left n s are rest next in made.1
