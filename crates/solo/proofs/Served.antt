-- A connection that was served: all that was answered is one fold.
use Rattle.std.proofs.Common.{◌≡◌, ℕ, ◌<◌, ◌^◌, lit<, cond, Option, Result, List, [], ◌∷◌, Ok, Err, ap, sym, ◌∙◌, subst, refl, inl, inr}
use Rattle.std.specs.Coded.{le_prop}
use Rattle.tasks.specs.Batch.{batch_effect}
use Rattle.tasks.specs.Starved.{is_want, starved_in}
use Rattle.tasks.proofs.Turns.{pair}
use Rattle.keyspace.specs.Map.{Map}
use Rattle.resp.specs.Content.{Content, out_of_memory}
use Rattle.resp_decoder.specs.declared.limits.Limits.{Limits}
use Rattle.resp_decoder.specs.declared.limits.TheConstants.{DEFAULT_WORDS, DEFAULT_BULK}
use Rattle.serving.specs.Answers.{Answer, Runs}
use Rattle.serving.specs.Serves.{Serves}
use Rattle.serving.specs.declared.door.DoorFault.TheVariants.{Memory, Ended}
use Rattle.serving.specs.declared.outcome.ServeFault.{ServeFault}
use Rattle.serving.specs.declared.outcome.Served.{Served}
use Rattle.sessions.specs.Session as session
use Rattle.sessions.specs.declared.batch.Batch.TheVariants.{Plain, Exec}
use Rattle.sessions.specs.declared.member.Member.{Member}
use Rattle.sessions.specs.declared.session.Session.{Session}
use Rattle.sessions.specs.declared.session.Session.TheVariants.{Free}
use Rattle.solo.specs.Connection.{Asks, ClientState, Comes, answer_told, batch_told, told_in_turn, told_of, replies_of, limits}
use Rattle.solo.specs.Connection.{ServesInTurn}
use Rattle.solo.specs.Solo.{IsRunOrStarves}
use Rattle.solo.specs.declared.fault.ConnectionFault.{ConnectionFault}

-- ---- what is seen of a door

-- a door whose answers are, as they are seen, those of another relation
module _ {S T Reason : Type 0} (asks : S → List (List ℕ) → Answer Reason → S → Type 0)
    (seen : T → List (List ℕ) → Answer Reason → T → Type 0) (view : S → T)
    (shows : (old : S) (words : List (List ℕ)) (answer : Answer Reason) (new : S) → asks old words answer new
    → seen (view old) words answer (view new)) where
  runs-seen : (s t : S) (requests : List (List (List ℕ))) (answers : List (Answer Reason)) → Runs asks s requests answers t
      → Runs seen (view s) requests answers (view t)
  runs-seen s t [] [] run = ap view run
  runs-seen s t [] (a ∷ answers) run = absurd run
  runs-seen s t (r ∷ requests) [] run = absurd run
  runs-seen s t (r ∷ requests) (a ∷ answers) run =
      (view run.0, shows s r a run.0 run.1, runs-seen run.0 t requests answers run.2)

  pub serves-seen : (l : Limits) (before after old new : Option (List ℕ)) (s t : S) (result : Result Served (ServeFault Reason))
      → Serves asks l before after old new s t result → Serves seen l before after old new (view s) (view t) result
  serves-seen l before after old new s t result served = record {
    read = served.read;
    rest = served.rest;
    answers = served.answers;
    ended = served.ended;
    consumed = served.consumed;
    answered = record {
      requests = served.answered.requests;
      taken = served.answered.taken;
      run = runs-seen s t served.answered.requests served.answers served.answered.run;
      ending = served.answered.ending;
    };
    tells = served.tells;
    leaves = served.leaves;
  }

-- what each answer keeps, all of them keep
pub runs-keep : {S Reason : Type 0} (asks : S → List (List ℕ) → Answer Reason → S → Type 0) (Keeps : S → S → Type 0)
    → ((s : S) → Keeps s s) → ((s m t : S) → Keeps s m → Keeps m t → Keeps s t)
    → ((old : S) (words : List (List ℕ)) (answer : Answer Reason) (new : S) → asks old words answer new → Keeps old new)
    → (s t : S) (requests : List (List (List ℕ))) (answers : List (Answer Reason)) → Runs asks s requests answers t → Keeps s t
runs-keep asks Keeps none one each s t [] [] run = subst (Keeps s) (sym run) (none s)
runs-keep asks Keeps none one each s t [] (a ∷ answers) run = absurd run
runs-keep asks Keeps none one each s t (r ∷ requests) [] run = absurd run
runs-keep asks Keeps none one each s t (r ∷ requests) (a ∷ answers) run =
    one s run.0 t (each s r a run.0 run.1) (runs-keep asks Keeps none one each run.0 t requests answers run.2)

-- ---- one fold

-- an EXEC that was run answers an array, so its reply tells that it was
exec_told : (members : List Member) (old new : Map) (reply : Content) → IsRunOrStarves [] (Exec members) old reply new
    → (new, reply) ≡ batch_told (Exec members) reply old
exec_told members old new reply (inl run) =
    subst (λ b. (new, reply) ≡ cond b (old, out_of_memory) (batch_effect (starved_in (Exec members) reply) (Exec members) old))
    (sym (ap (λ v. is_want v.1) run.0)) run.0
exec_told members old new reply (inr starved) =
    subst (λ b. (new, reply) ≡ cond b (old, out_of_memory) (batch_effect (starved_in (Exec members) reply) (Exec members) old))
    (sym (ap is_want starved.0)) (pair _ _ _ _ starved.1 starved.0)

comes_told : (came : session.Answer) (old new : Map) (reply : Content) → Comes came old reply new
    → (new, reply) ≡ answer_told came reply old
comes_told (session.Now answer) old new reply run = pair _ _ _ _ run.0 run.1
comes_told (session.Go (Plain command)) old new reply run = run
comes_told (session.Go (Exec members)) old new reply run = exec_told members old new reply run

-- what a connection asked and was answered is a run in turn of what was answered
runs_in_turn : (s t : ClientState) (requests : List (List (List ℕ))) (answers : List (Answer ConnectionFault))
    → Runs Asks s requests answers t
    → (t, replies_of answers) ≡ told_in_turn s (told_of requests answers)
runs_in_turn s t [] [] run = pair _ _ _ _ run refl
runs_in_turn s t [] (a ∷ answers) run = absurd run
runs_in_turn s t (r ∷ requests) [] run = absurd run
runs_in_turn s t (r ∷ requests) (Ok reply ∷ answers) run =
    let came = session.asks s.0 r in
    let mid = run.0 in
    let told = comes_told came.1 s.1 mid.1 reply run.1.1 in
    let left : mid ≡ (came.0, (answer_told came.1 reply s.1).0) = pair _ _ _ _ run.1.0 (ap (λ v. v.0) told) in
    let others = runs_in_turn mid t requests answers run.2 in
    pair _ _ _ _
    (ap (λ v. v.0) others ∙ ap (λ h. (told_in_turn h (told_of requests answers)).0) left)
    (ap (λ c. c ∷ replies_of answers) (ap (λ v. v.1) told)
    ∙ ap (λ l. (answer_told came.1 reply s.1).1 ∷ l)
    (ap (λ v. v.1) others ∙ ap (λ h. (told_in_turn h (told_of requests answers)).1) left))
runs_in_turn s t (r ∷ requests) (Err Memory ∷ answers) run =
    subst (λ h. (t, replies_of answers) ≡ told_in_turn h (told_of requests answers)) run.1.1
    (runs_in_turn run.0 t requests answers run.2)
runs_in_turn s t (r ∷ requests) (Err (Ended reason) ∷ answers) run =
    subst (λ h. (t, replies_of answers) ≡ told_in_turn h (told_of requests answers)) run.1.1
    (runs_in_turn run.0 t requests answers run.2)

-- limits are told by their numbers
make : (words bulk : ℕ) → words < 2 ^ 32 → bulk < 2 ^ 32 → Limits
make words bulk few short = record { words = words; bulk = bulk; few_words = few; short_bulk = short }

few_is : (n : ℕ) → IsProp (n < 2 ^ 32)
few_is n = le_prop

limits_are : (l : Limits) → l.words ≡ DEFAULT_WORDS → l.bulk ≡ DEFAULT_BULK → l ≡ limits
unfolding make
limits_are l words bulk =
    let first : (few : DEFAULT_WORDS < 2 ^ 32) → l ≡ make DEFAULT_WORDS l.bulk few l.short_bulk
    = subst (λ n. (few : n < 2 ^ 32) → l ≡ make n l.bulk few l.short_bulk) words
    (λ few. ap (λ v. make l.words l.bulk v l.short_bulk) (few_is l.words l.few_words few)) in
    let second : (few : DEFAULT_WORDS < 2 ^ 32) (short : DEFAULT_BULK < 2 ^ 32) → l ≡ make DEFAULT_WORDS DEFAULT_BULK few short
    = subst (λ n. (few : DEFAULT_WORDS < 2 ^ 32) (short : n < 2 ^ 32) → l ≡ make DEFAULT_WORDS n few short) bulk
    (λ few short. first few ∙ ap (λ v. make DEFAULT_WORDS l.bulk few v) (few_is l.bulk l.short_bulk short)) in
    second (lit< tt) (lit< tt)

-- a connection that was served under limits of these numbers
pub served_within : (l : Limits) (before after old new : Option (List ℕ)) (s t : ClientState)
    (result : Result Served (ServeFault ConnectionFault)) → l.words ≡ DEFAULT_WORDS → l.bulk ≡ DEFAULT_BULK
    → Serves Asks l before after old new s t result
    → Serves Asks limits before after old new s t result
served_within l before after old new s t result words bulk served =
    subst (λ v. Serves Asks v before after old new s t result) (limits_are l words bulk) served

pub served_in_turn : (before after old new : Option (List ℕ)) (s t last : Map) (held left : Session)
    (result : Result Served (ServeFault ConnectionFault)) → held ≡ Free → last ≡ t
    → Serves Asks limits before after old new (held, s) (left, t) result → ServesInTurn before after old new s last result
served_in_turn before after old new s t last held left result fresh same served =
    let connection = subst (λ h. Serves Asks limits before after old new (h, s) (left, last) result) fresh
    (subst (λ m. Serves Asks limits before after old new (held, s) (left, m) result) (sym same) served) in record {
      left = left;
      connection = connection;
      replies = runs_in_turn (Free, s) (left, last) connection.answered.requests connection.answers connection.answered.run;
    }
