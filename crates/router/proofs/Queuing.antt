-- What an open list makes of a request.
use Rattle.std.proofs.Common.{arith, IsSome, ◌≡◌, ◌∷◌, ◌++◌, true, false, cond, List, [], None, Result, Ok, Err, refl, ap, sym, ◌∙◌}
use Rattle.std.proofs.lemmas.Bool.{false≢true}
use Rattle.std.proofs.lemmas.Grind.{common_steps}
use Rattle.command_table.specs.Reading.{reading}
use Rattle.command_table.specs.Words.{Word}
use Rattle.command_table.specs.declared.refusal.Refusal.{Refusal}
use Rattle.router.specs.Lists.{is_listing, is_open_list, listed_members}
use Rattle.sessions.specs.Control.{control_in}
use Rattle.sessions.specs.Member.{member_of}
use Rattle.sessions.specs.Session.{Answer, Go, asks, asked, take_up, with_member, plain}
use Rattle.sessions.specs.declared.batch.Batch.{Batch}
use Rattle.sessions.specs.declared.batch.Batch.TheVariants.{Exec}
use Rattle.sessions.specs.declared.member.Member.{Member}
use Rattle.sessions.specs.declared.session.Session.{Session}
use Rattle.sessions.specs.declared.session.Session.TheVariants.{Free, Listing, Spoilt}
use Rattle.worded.specs.Reading.{members_of}
use Rattle.worded.proofs.BatchWords.{members_of-push}

-- ---- a request of another name than the three

taken_up : (session : Session) (words : List Word) → control_in words ≡ None → asks session words ≡ take_up session (reading words)
taken_up session words none = ap (asked session words) none

member_queued : (members : List Member) (read : Result Member Refusal) (after : Session) (list now : List (List Word)) (words : List Word)
    → members_of list ≡ Ok members → read ≡ member_of (reading words) → after ≡ with_member members read
    → now ≡ cond (is_listing after) (list ++ words ∷ []) [] → members_of now ≡ Ok (listed_members after)
member_queued members (Ok member) after list now words own is left kept =
    let more = members_of-push list words members member own (sym is) in
    let same = kept ∙ ap (λ s. cond (is_listing s) (list ++ words ∷ []) []) left in
    ap members_of same ∙ more ∙ ap (λ s. Ok (listed_members s)) (sym left)
member_queued members (Err refusal) after list now words own is left kept =
    let same = kept ∙ ap (λ s. cond (is_listing s) (list ++ words ∷ []) []) left in
    ap members_of same ∙ ap (λ s. Ok (listed_members s)) (sym left)

words_queued : (session after : Session) (list now : List (List Word)) (words : List Word) → is_open_list session ≡ true
    → members_of list ≡ Ok (listed_members session) → after ≡ (take_up session (reading words)).0
    → now ≡ cond (is_listing after) (list ++ words ∷ []) [] → members_of now ≡ Ok (listed_members after)
words_queued Free after list now words listed own left kept = absurd (false≢true listed)
words_queued (Listing members) after list now words listed own left kept =
    member_queued members (member_of (reading words)) after list now words own refl left kept
words_queued Spoilt after list now words listed own left kept =
    let same = kept ∙ ap (λ s. cond (is_listing s) (list ++ words ∷ []) []) left in
    ap members_of same ∙ ap (λ s. Ok (listed_members s)) (sym left)

-- the words of the members are those of the list that is open then
pub queue_keeps_words : (session after : Session) (answer : Answer) (list now : List (List Word)) (words : List Word)
    → is_open_list session ≡ true → control_in words ≡ None → members_of list ≡ Ok (listed_members session)
    → (after, answer) ≡ asks session words → now ≡ cond (is_listing after) (list ++ words ∷ []) []
    → members_of now ≡ Ok (listed_members after)
queue_keeps_words session after answer list now words listed none own e kept =
    words_queued session after list now words listed own (ap (λ p. p.0) (e ∙ taken_up session words none)) kept

no_run : (session : Session) (words : List Word) (batch : Batch) → is_open_list session ≡ true
    → Go batch ≡ (take_up session (reading words)).1 → ⊥
no_run Free words batch listed e = false≢true listed
no_run (Listing members) words batch listed e = cc
no_run Spoilt words batch listed e = cc

-- and nothing is run of it
pub queue_runs_none : (session after : Session) (words : List Word) (batch : Batch) → is_open_list session ≡ true
    → control_in words ≡ None → (after, Go batch) ≡ asks session words → ⊥
queue_runs_none session after words batch listed none e =
    no_run session words batch listed (ap (λ p. p.1) (e ∙ taken_up session words none))

-- ---- one of the three names

-- without members any more, no words are kept
pub keep_own : (after : Session) (list now : List (List Word)) → (is_listing after ≡ true → members_of list ≡ Ok (listed_members after))
    → now ≡ cond (is_listing after) list [] → members_of now ≡ Ok (listed_members after)
keep_own Free list now own kept = ap members_of kept
keep_own (Listing members) list now own kept = ap members_of kept ∙ own refl
keep_own Spoilt list now own kept = ap members_of kept

-- a list that is run is open no more
pub run_leaves_none : (session after : Session) (words : List Word) (members : List Member) → IsSome (control_in words)
    → (after, Go (Exec members)) ≡ asks session words → after ≡ Free
run_leaves_none Free after words members some e = grind (arith, common_steps)
run_leaves_none (Listing []) after words members some e = grind (arith, common_steps)
run_leaves_none (Listing (m ∷ ms)) after words members some e = grind (arith, common_steps)
run_leaves_none Spoilt after words members some e = grind (arith, common_steps)

pub run_keeps_none : (after : Session) (list now : List (List Word)) → after ≡ Free → now ≡ cond (is_listing after) list []
    → members_of now ≡ Ok (listed_members after)
run_keeps_none after list now left kept =
    keep_own after list now (λ on. absurd (false≢true (ap is_listing (sym left) ∙ on))) kept

-- ---- a connection on which no list is open

-- a request of another name is a command where no list is open
pub plain_asked : (words : List Word) → control_in words ≡ None → asks Free words ≡ (Free, plain (reading words))
plain_asked words none = taken_up Free words none

-- a session without an open list
pub is_free : (session : Session) → is_open_list session ≡ false → session ≡ Free
is_free Free shut = refl
is_free (Listing members) shut = absurd (false≢true (sym shut))
is_free Spoilt shut = absurd (false≢true (sym shut))
