-- What the names of those that starved name: each request that starved as a whole, and of each other one its members that did.
use Rattle.std.proofs.Common.{◌≡◌, ◌||◌, Bool, true, false, ℕ, List, [], ◌∷◌, ◌++◌, map, cond, inl, inr, Option, Some, None, refl, sym, ap, ◌∙◌}
use Rattle.std.proofs.Common.{append-nil}
use Rattle.std.specs.Prelude.{is_none}
use Rattle.groups.proofs.Ids.{same_id-refl, ne-same_id}
use Rattle.groups.specs.Order.{In}
use Rattle.groups.specs.Request.{same_id}
use Rattle.groups.specs.Skips.{names_whole, parts_of}
use Rattle.groups.specs.declared.request.RequestId.{RequestId}
use Rattle.groups.specs.declared.skip_id.SkipId.{SkipId}
use Rattle.groups.specs.declared.skip_id.SkipId.TheVariants.{Whole, Part}
use Rattle.keyspace.specs.Map.{Map}
use Rattle.resp.specs.Content.{Content}
use Rattle.tasks.specs.Starved.{starved_in}
use Rattle.skeen_core.specs.Group.{EachOnce}
use Rattle.tasks.specs.Tasks.{Task, deed_effect, starved_names}
use Rattle.world.specs.Steps.{starved_among}
use Rattle.world.specs.World.{Ended}
use Rattle.world_laws.specs.Good.{AnswersOn}
use Rattle.world_laws.specs.Order.{ids_of}

-- ---- lists of names

pub names_whole-append : (xs ys : List SkipId) (i : RequestId) → names_whole (xs ++ ys) i ≡ (names_whole xs i || names_whole ys i)
names_whole-append [] ys i = refl
names_whole-append (Whole j ∷ xs) ys i = ap (λ b. same_id j i || b) (names_whole-append xs ys i)
    ∙ or_again (same_id j i) (names_whole xs i) (names_whole ys i)
  where
    or_again : (a b c : Bool) → (a || (b || c)) ≡ ((a || b) || c)
    or_again true b c = refl
    or_again false b c = refl
names_whole-append (Part j n ∷ xs) ys i = names_whole-append xs ys i

pub parts_of-append : (xs ys : List SkipId) (i : RequestId) → parts_of (xs ++ ys) i ≡ parts_of xs i ++ parts_of ys i
parts_of-append [] ys i = refl
parts_of-append (Whole j ∷ xs) ys i = parts_of-append xs ys i
parts_of-append (Part j n ∷ xs) ys i = elim (same_id j i) as
    (λ b. cond b (n ∷ parts_of (xs ++ ys) i) (parts_of (xs ++ ys) i) ≡ cond b (n ∷ parts_of xs i) (parts_of xs i) ++ parts_of ys i) [
      | true ↦ ap (λ l. n ∷ l) (parts_of-append xs ys i)
      | false ↦ parts_of-append xs ys i
    ]

-- members of a request name no request as a whole
pub names_whole-parts : (j : RequestId) (ns : List ℕ) (i : RequestId) → names_whole (map (Part j) ns) i ≡ false
names_whole-parts j [] i = refl
names_whole-parts j (n ∷ ns) i = names_whole-parts j ns i

pub parts_of-own : (i : RequestId) (ns : List ℕ) → parts_of (map (Part i) ns) i ≡ ns
parts_of-own i [] = refl
parts_of-own i (n ∷ ns) =
    ap (λ b. cond b (n ∷ parts_of (map (Part i) ns) i) (parts_of (map (Part i) ns) i)) (same_id-refl i)
    ∙ ap (λ l. n ∷ l) (parts_of-own i ns)

pub parts_of-other : (j : RequestId) (ns : List ℕ) (i : RequestId) → (j ≡ i → ⊥) → parts_of (map (Part j) ns) i ≡ []
parts_of-other j [] i differ = refl
parts_of-other j (n ∷ ns) i differ =
    ap (λ b. cond b (n ∷ parts_of (map (Part j) ns) i) (parts_of (map (Part j) ns) i)) (ne-same_id j i differ)
    ∙ parts_of-other j ns i differ

-- ---- the names of what starved of a request

-- the numbers of its members that starved, where it has a reply
abbrev pub parts_told : Task → Option Content → List ℕ
parts_told task None = []
parts_told task (Some reply) = starved_in task reply

-- the names tell of the request whether it starved as a whole, and which of its members did
pub record Tells (names : List SkipId) (id : RequestId) (task : Task) (reply : Option Content) : Type 0 where
  pub whole : names_whole names id ≡ is_none reply
  pub parts : parts_of names id ≡ parts_told task reply

-- the request's own names do, with names behind them that don't speak of it
tells_own : (id : RequestId) (task : Task) (reply : Option Content) (names : List SkipId) → names_whole names id ≡ false →
    parts_of names id ≡ [] → Tells (starved_names id task reply ++ names) id task reply
tells_own id task None names whole parts = record { whole = ap (λ b. b || names_whole names id) (same_id-refl id); parts = parts }
tells_own id task (Some reply) names whole parts = record {
  whole = names_whole-append (map (Part id) (starved_in task reply)) names id
      ∙ ap (λ b. b || names_whole names id) (names_whole-parts id (starved_in task reply) id) ∙ whole;
  parts = parts_of-append (map (Part id) (starved_in task reply)) names id
      ∙ ap (λ l. parts_of (map (Part id) (starved_in task reply)) id ++ l) parts
      ∙ append-nil _ ∙ parts_of-own id (starved_in task reply);
}

-- another request's names before them say nothing of it
others_whole : (j : RequestId) (task : Task) (reply : Option Content) (names : List SkipId) (i : RequestId) → (j ≡ i → ⊥) →
    names_whole (starved_names j task reply ++ names) i ≡ names_whole names i
others_whole j task None names i differ = ap (λ b. b || names_whole names i) (ne-same_id j i differ)
others_whole j task (Some reply) names i differ = names_whole-append (map (Part j) (starved_in task reply)) names i
    ∙ ap (λ b. b || names_whole names i) (names_whole-parts j (starved_in task reply) i)

others_parts : (j : RequestId) (task : Task) (reply : Option Content) (names : List SkipId) (i : RequestId) → (j ≡ i → ⊥) →
    parts_of (starved_names j task reply ++ names) i ≡ parts_of names i
others_parts j task None names i differ = refl
others_parts j task (Some reply) names i differ = parts_of-append (map (Part j) (starved_in task reply)) names i
    ∙ ap (λ l. l ++ parts_of names i) (parts_of-other j (starved_in task reply) i differ)

-- ---- the reply, again

-- it starved as a whole, or its reply is what its task is answered on this map
abbrev pub IsAnswer : Map → Task → Option Content → Type 0
IsAnswer m task None = Unit {0}
IsAnswer m task (Some reply) = AnswersOn m task reply

-- run with names that tell of it, the request ends so again
pub ends_again : (names : List SkipId) (id : RequestId) (task : Task) (reply : Option Content) (m : Map) → Tells names id task reply →
    IsAnswer m task reply → reply ≡ cond (names_whole names id) None (Some (deed_effect (task, parts_of names id) m).1)
ends_again names id task None m tells answers =
    sym (ap (λ b. cond b None (Some (deed_effect (task, parts_of names id) m).1)) tells.whole)
ends_again names id task (Some reply) m tells answers =
    ap Some answers ∙ ap (λ ns. Some (deed_effect (task, ns) m).1) (sym tells.parts)
    ∙ sym (ap (λ b. cond b None (Some (deed_effect (task, parts_of names id) m).1)) tells.whole)

-- ---- the names of what starved of a layer

none_whole : (es : List Ended) (i : RequestId) → (In i (ids_of es) → ⊥) → names_whole (starved_among es) i ≡ false
none_whole [] i out = refl
none_whole (e ∷ es) i out = others_whole e.id e.task e.reply (starved_among es) i (λ same. out (inl (sym same)))
    ∙ none_whole es i (λ there. out (inr there))

none_parts : (es : List Ended) (i : RequestId) → (In i (ids_of es) → ⊥) → parts_of (starved_among es) i ≡ []
none_parts [] i out = refl
none_parts (e ∷ es) i out = others_parts e.id e.task e.reply (starved_among es) i (λ same. out (inl (sym same)))
    ∙ none_parts es i (λ there. out (inr there))

-- they tell of each of these requests
abbrev pub TellsEach : List SkipId → List Ended → Type 0
TellsEach names [] = Unit {0}
TellsEach names (e ∷ es) = Tells names e.id e.task e.reply × TellsEach names es

tells_behind : (j : RequestId) (task : Task) (reply : Option Content) (names : List SkipId) (es : List Ended) →
    (In j (ids_of es) → ⊥) → TellsEach names es → TellsEach (starved_names j task reply ++ names) es
tells_behind j task reply names [] out tells = tt
tells_behind j task reply names (e ∷ es) out tells = (
  record {
    whole = others_whole j task reply names e.id (λ same. out (inl same)) ∙ tells.0.whole;
    parts = others_parts j task reply names e.id (λ same. out (inl same)) ∙ tells.0.parts;
  },
  tells_behind j task reply names es (λ there. out (inr there)) tells.1,
)

-- where each id stands once, the names of what starved among requests tell of each of them
pub starved_tell : (es : List Ended) → EachOnce (ids_of es) → TellsEach (starved_among es) es
starved_tell [] once = tt
starved_tell (e ∷ es) once = (
  tells_own e.id e.task e.reply (starved_among es) (none_whole es e.id once.0) (none_parts es e.id once.0),
  tells_behind e.id e.task e.reply (starved_among es) es once.0 (starved_tell es once.1),
)
