-- What a row tells of what starved.
use Rattle.std.proofs.Common.{◌≡◌, ℕ, zero, suc, ◌+◌, ◌-◌, ◌<◌, ◌≤◌, min, List, [], ◌∷◌, ◌++◌, length, map, take, drop, get_or, Bool, true, false, cond}
use Rattle.std.proofs.Common.{Option, Some, None, Result, Ok, Err, refl, ap, sym, ◌∙◌, arith, length-append}
use Rattle.std.specs.List.{flat_map, AllByRecursion}
use Rattle.std.specs.Str.{bytes_eq}
use Rattle.std.proofs.lemmas.List.{append_assoc, append-nil, length-map, length-take-le, map-append, map_push, take-map, take_min, take_more}
use Rattle.std.proofs.lemmas.List.{take-append-drop}
use Rattle.std.proofs.lemmas.List.Concat.{flat_map-append}
use Rattle.tasks.specs.Starved.{is_want, wants_from, wants_in, starved_in}
use Rattle.command_table.specs.Reading.{reading}
use Rattle.command_table.specs.CommandRow.{Reading}
use Rattle.command_table.specs.Words.{Word}
use Rattle.command_table.specs.declared.refusal.Refusal.{Refusal}
use Rattle.groups.specs.declared.request.RequestId.{RequestId}
use Rattle.groups.specs.declared.skip_id.SkipId.{SkipId}
use Rattle.groups.specs.declared.skip_id.SkipId.TheVariants.{Part}
use Rattle.journal.specs.Names.{AreNumbered}
use Rattle.layer_results.specs.Results.{member_count, starved_by, names_by, row_names, names_of}
use Rattle.layer_results.specs.Wants.{wants_among}
use Rattle.layer_results.specs.declared.done.DoneRow.{DoneRow}
use Rattle.packing.specs.Codes.{number_code, number_at, word_code, word_at, words_code, WordsFit}
use Rattle.packing.specs.CodeLaws.{number_at-code, word_at-code, words_code-is}
use Rattle.resp.specs.Content.{Content, Contents, SimpleText, ErrorLine, Number, BulkText, Nothing, Several, NoMore, Then, content, contents, text_or_null}
use Rattle.resp.specs.declared.reply.Reply.{Reply}
use Rattle.sessions.specs.Control.{exec_name}
use Rattle.sessions.specs.declared.batch.Batch.TheVariants.{Plain, Exec}
use Rattle.sessions.specs.declared.member.Member.{Member}
use Rattle.tasks.specs.Tasks.{Task, task_reading, starved_names}
use Rattle.worded.specs.Reading.{member_in, members_in, with_first, as_exec, as_plain}

-- ---- the places of an array

pub wants_taken : (count n : ℕ) (cs : List Content) → wants_from count n (contents cs) ≡ wants_among n (take count cs)
wants_taken zero n cs = refl
wants_taken (suc count) n [] = refl
wants_taken (suc count) n (c ∷ cs) = rw (wants_taken count (suc n) cs) refl

with_one : (b : Bool) (n : ℕ) (xs ys : List ℕ) → cond b (n ∷ (xs ++ ys)) (xs ++ ys) ≡ cond b (n ∷ xs) xs ++ ys
with_one true n xs ys = refl
with_one false n xs ys = refl

-- bulk strings and nulls tell nothing
pub no_wants : (count n : ℕ) (texts : List (Option (List ℕ))) → wants_from count n (contents (map text_or_null texts)) ≡ []
no_wants zero n texts = refl
no_wants (suc count) n [] = refl
no_wants (suc count) n (None ∷ texts) = no_wants count (suc n) texts
no_wants (suc count) n (Some text ∷ texts) = no_wants count (suc n) texts

wants_push : (n k : ℕ) (cs : List Content) (c : Content) → k ≡ n + length cs
    → wants_among n (cs ++ c ∷ []) ≡ wants_among n cs ++ cond (is_want c) (k ∷ []) []
wants_push n k [] c here = let same : n ≡ k = omega arith in ap (λ m. cond (is_want c) (m ∷ []) []) same
wants_push n k (d ∷ cs) c here =
    rw (wants_push (suc n) k cs c (omega arith)) (with_one (is_want d) n (wants_among (suc n) cs) (cond (is_want c) (k ∷ []) []))

long_take : (replies : List Reply) (i : ℕ) → i ≤ length replies → length (map content (take i replies)) ≡ i
long_take replies i within = length-map (take i replies) content ∙ length-take-le i replies within

wants_step : (replies : List Reply) (i : ℕ) (reply : Reply) → i < length replies → reply ≡ get_or replies i reply
    → wants_among 1 (map content (take (i + 1) replies))
    ≡ wants_among 1 (map content (take i replies)) ++ cond (is_want (content reply)) ((i + 1) ∷ []) []
wants_step replies i reply within there =
    let one : take (i + 1) replies ≡ take i replies ++ reply ∷ [] =
    take_more replies i reply within ∙ ap (λ r. take i replies ++ r ∷ []) (sym there) in
    let long = long_take replies i (omega arith) in
    ap (λ rs. wants_among 1 (map content rs)) one ∙ ap (wants_among 1) (map_push content (take i replies) reply)
    ∙ wants_push 1 (i + 1) (map content (take i replies)) (content reply) (omega (arith, long))

-- one place more: it says so, or it doesn't
pub wants_more : (replies : List Reply) (i : ℕ) (reply : Reply) → i < length replies → reply ≡ get_or replies i reply
    → true ≡ is_want (content reply)
    → wants_among 1 (map content (take (i + 1) replies)) ≡ wants_among 1 (map content (take i replies)) ++ (i + 1) ∷ []
wants_more replies i reply within there want =
    wants_step replies i reply within there
    ∙ ap (λ b. wants_among 1 (map content (take i replies)) ++ cond b ((i + 1) ∷ []) []) (sym want)

pub wants_same : (replies : List Reply) (i : ℕ) (reply : Reply) → i < length replies → reply ≡ get_or replies i reply
    → false ≡ is_want (content reply)
    → wants_among 1 (map content (take (i + 1) replies)) ≡ wants_among 1 (map content (take i replies))
wants_same replies i reply within there other =
    wants_step replies i reply within there
    ∙ ap (λ b. wants_among 1 (map content (take i replies)) ++ cond b ((i + 1) ∷ []) []) (sym other)
    ∙ append-nil (wants_among 1 (map content (take i replies)))

-- a member's name behind the others
pub parts_more : (id : RequestId) (before names more : List SkipId) (xs ys : List ℕ) (k : ℕ) → names ≡ before ++ map (Part id) xs
    → ys ≡ xs ++ k ∷ [] → more ≡ names ++ Part id k ∷ [] → more ≡ before ++ map (Part id) ys
parts_more id before names more xs ys k put step pushed =
    pushed ∙ ap (λ ns. ns ++ Part id k ∷ []) put ∙ append_assoc before (map (Part id) xs) (Part id k ∷ [])
    ∙ ap (λ ns. before ++ ns) (sym (ap (map (Part id)) step ∙ map_push (Part id) xs k))

-- at most so many places
pub places_taken : (count places : ℕ) (replies : List Reply) → places ≡ min count (length replies)
    → wants_from count 1 (contents (map content replies)) ≡ wants_among 1 (map content (take places replies))
places_taken count places replies least =
    wants_taken count 1 (map content replies)
    ∙ ap (wants_among 1) (take-map content count replies)
    ∙ ap (λ rs. wants_among 1 (map content rs)) (sym (take_min count replies) ∙ ap (λ n. take n replies) (sym least))

both_few : (b : Bool) (n : ℕ) (xs ys : List ℕ) → length xs ≤ length ys → length (cond b (n ∷ xs) xs) ≤ length (cond b (n ∷ ys) ys)
both_few true n xs ys few = omega arith
both_few false n xs ys few = few

wants_front : (n : ℕ) (cs ds : List Content) → length (wants_among n cs) ≤ length (wants_among n (cs ++ ds))
wants_front n [] ds = omega arith
wants_front n (c ∷ cs) ds = both_few (is_want c) n (wants_among (suc n) cs) (wants_among (suc n) (cs ++ ds)) (wants_front (suc n) cs ds)

few_with : (b : Bool) (n k : ℕ) (xs : List ℕ) → length xs ≤ k → length (cond b (n ∷ xs) xs) ≤ suc k
few_with true n k xs few = omega arith
few_with false n k xs few = omega arith

wants_few : (n : ℕ) (cs : List Content) → length (wants_among n cs) ≤ length cs
wants_few n [] = omega arith
wants_few n (c ∷ cs) = few_with (is_want c) n (length cs) (wants_among (suc n) cs) (wants_few (suc n) cs)

-- no more say so than there are
pub wants_so_far : (replies : List Reply) (i : ℕ) → i ≤ length replies → length (wants_among 1 (map content (take i replies))) ≤ i
wants_so_far replies i within =
    let long = long_take replies i within in omega (arith, long, wants_few 1 (map content (take i replies)))

pub wants_rest : (replies : List Reply) (i : ℕ)
    → length (wants_among 1 (map content (take i replies))) ≤ length (wants_among 1 (map content replies))
wants_rest replies i =
    let whole : map content replies ≡ map content (take i replies) ++ map content (drop i replies) =
    ap (map content) (sym (take-append-drop i replies)) ∙ map-append content (take i replies) (drop i replies) in
    rw whole (wants_front 1 (map content (take i replies)) (map content (drop i replies)))

-- ---- the rows

pub names_step : (rows : List DoneRow) (i : ℕ) (row : DoneRow) → i < length rows → row ≡ get_or rows i row
    → names_of (take (i + 1) rows) ≡ names_of (take i rows) ++ row_names row
names_step rows i row within there =
    let one : take (i + 1) rows ≡ take i rows ++ row ∷ [] =
    take_more rows i row within ∙ ap (λ r. take i rows ++ r ∷ []) (sym there) in
    ap names_of one ∙ flat_map-append row_names (take i rows) (row ∷ [])
    ∙ ap (λ ns. names_of (take i rows) ++ ns) (append-nil (row_names row))

pub names_rest : (rows : List DoneRow) (i : ℕ) → length (names_of (take i rows)) ≤ length (names_of rows)
names_rest rows i =
    let e = ap length (sym (flat_map-append row_names (take i rows) (drop i rows)) ∙ ap names_of (take-append-drop i rows)) in
    omega (arith, e, length-append (names_of (take i rows)) (names_of (drop i rows)))

-- ---- members are numbered from 1

abbrev FromOn : ℕ → List ℕ → Type 0
FromOn n numbers = AllByRecursion (λ k. n ≤ k) numbers

later : (n : ℕ) (numbers : List ℕ) → FromOn (suc n) numbers → FromOn n numbers
later n [] all = tt
later n (k ∷ ks) all = (let h = all.0 in omega arith, later n ks all.1)

one_or_none : (b : Bool) (n : ℕ) (numbers : List ℕ) → FromOn (suc n) numbers → FromOn n (cond b (n ∷ numbers) numbers)
one_or_none true n numbers all = (omega arith, later n numbers all)
one_or_none false n numbers all = later n numbers all

wants_from-on : (count n : ℕ) (replies : Contents) → FromOn n (wants_from count n replies)
wants_from-on zero n replies = tt
wants_from-on (suc count) n NoMore = tt
wants_from-on (suc count) n (Then reply replies) =
    one_or_none (is_want reply) n (wants_from count (suc n) replies) (wants_from-on count (suc n) replies)

wants_in-on : (count : ℕ) (reply : Content) → FromOn 1 (wants_in count reply)
wants_in-on count (SimpleText line) = tt
wants_in-on count (ErrorLine line) = tt
wants_in-on count (Number n) = tt
wants_in-on count (BulkText bytes) = tt
wants_in-on count Nothing = tt
wants_in-on count (Several replies) = wants_from-on count 1 replies

parts_numbered : (id : RequestId) (numbers : List ℕ) → FromOn 1 numbers → AreNumbered (map (Part id) numbers)
parts_numbered id [] all = tt
parts_numbered id (n ∷ ns) all = (all.0, parts_numbered id ns all.1)

names_by-numbered : (id : RequestId) (words : List Word) (reply : Option Content) → AreNumbered (names_by id words reply)
names_by-numbered id words None = (tt, tt)
names_by-numbered id words (Some reply) = parts_numbered id (starved_by words reply) (wants_in-on (member_count words) reply)

both_numbered : (xs ys : List SkipId) → AreNumbered xs → AreNumbered ys → AreNumbered (xs ++ ys)
both_numbered [] ys a b = b
both_numbered (x ∷ xs) ys a b = (a.0, both_numbered xs ys a.1 b)

pub names_numbered : (rows : List DoneRow) → AreNumbered (names_of rows)
names_numbered [] = tt
names_numbered (row ∷ rows) = both_numbered (row_names row) (names_of rows) (names_by-numbered row.id row.words _) (names_numbered rows)

-- ---- at most as many as there are members

wants_from-few : (count n : ℕ) (replies : Contents) → length (wants_from count n replies) ≤ count
wants_from-few zero n replies = omega arith
wants_from-few (suc count) n NoMore = omega arith
wants_from-few (suc count) n (Then reply replies) =
    few_with (is_want reply) n count (wants_from count (suc n) replies) (wants_from-few count (suc n) replies)

pub wants_in-few : (count : ℕ) (reply : Content) → length (wants_in count reply) ≤ count
wants_in-few count (SimpleText line) = omega arith
wants_in-few count (ErrorLine line) = omega arith
wants_in-few count (Number n) = omega arith
wants_in-few count (BulkText bytes) = omega arith
wants_in-few count Nothing = omega arith
wants_in-few count (Several replies) = wants_from-few count 1 replies

-- ---- words in their code

-- what is read at the front of the words' code: how many there are, and the first one
pub record IsHead (words : List Word) (count : ℕ) (first : Word) : Type 0 where
  pub behind : List Word
  pub whole : words ≡ first ∷ behind
  pub counted : count ≡ suc (length behind)

pub head_of : (words : List Word) (bytes rest first : List ℕ) (count : ℕ) → bytes ≡ words_code words → WordsFit words
    → count ≡ (number_at bytes).0 → rest ≡ (number_at bytes).1 → first ≡ (word_at rest).0 → IsHead words count first
head_of [] bytes rest first count coded fit e f g = absurd (let some = fit.some in omega arith)
head_of (name ∷ words) bytes rest first count coded fit e f g =
    let whole : bytes ≡ number_code (suc (length words)) ++ flat_map word_code (name ∷ words) = coded ∙ words_code-is (name ∷ words) in
    let number : number_at bytes ≡ (suc (length words), flat_map word_code (name ∷ words)) =
    ap number_at whole ∙ number_at-code (suc (length words)) (flat_map word_code (name ∷ words)) fit.count in
    let behind : rest ≡ word_code name ++ flat_map word_code words = f ∙ ap (λ p. p.1) number in
    let word : word_at rest ≡ (name, flat_map word_code words) = ap word_at behind
    ∙ word_at-code name (flat_map word_code words) fit.each.0 in
    let same : first ≡ name = g ∙ ap (λ p. p.0) word in
    record { behind = words; whole = ap (λ n. n ∷ words) (sym same); counted = e ∙ ap (λ p. p.0) number }

pub members_at : (words : List Word) (count : ℕ) (first : Word) (b : Bool) → IsHead words count first → b ≡ bytes_eq first exec_name
    → member_count words ≡ cond b (count - 1) 0
members_at words count first b head is =
    ap member_count head.whole ∙ ap (λ t. cond t (length head.behind) 0) (sym is)
    ∙ (let same : length head.behind ≡ count - 1 = omega (arith, head.counted) in ap (λ n. cond b n 0) same)

-- ---- words that say a task

-- the members of a task
abbrev pub task_members : Task → ℕ
task_members (Plain command) = 0
task_members (Exec members) = length members

with_first-length : (first : Result Member Refusal) (read : Result (List Member) Refusal) (members : List Member) (n : ℕ)
    → with_first first read ≡ Ok members → ((rest : List Member) → read ≡ Ok rest → length rest ≡ n) → length members ≡ suc n
with_first-length (Ok member) (Ok rest) members n e all =
    let same : member ∷ rest ≡ members = cc in omega (arith, ap length same, all rest refl)
with_first-length (Ok member) (Err refusal) members n e all = cc
with_first-length (Err refusal) read members n e all = cc

members_in-length : (words : List Word) (members : List Member) → members_in words ≡ Ok members → length members ≡ length words
members_in-length [] members e = let same : [] ≡ members = cc in omega (arith, ap length same)
members_in-length (word ∷ words) members e =
    with_first-length (member_in word) (members_in words) members (length words) e (λ rest. members_in-length words rest)

exec_members : (read : Result (List Member) Refusal) (task : Task) (n : ℕ) → as_exec read ≡ Ok task
    → ((members : List Member) → read ≡ Ok members → length members ≡ n) → task_members task ≡ n
exec_members (Ok []) task n e all = cc
exec_members (Ok (member ∷ members)) task n e all =
    let same : Exec (member ∷ members) ≡ task = cc in ap task_members (sym same) ∙ all (member ∷ members) refl
exec_members (Err refusal) task n e all = cc

plain_members : (read : Reading) (task : Task) → as_plain read ≡ Ok task → task_members task ≡ 0
plain_members (Ok command) task e = let same : Plain command ≡ task = cc in ap task_members (sym same)
plain_members (Err refusal) task e = cc

-- a task has as many members as its words say
pub member_count_by_task : (words : List Word) (task : Task) → task_reading words ≡ Ok task → member_count words ≡ task_members task
member_count_by_task [] task read = cc
member_count_by_task (name ∷ words) task read =
    elim (bytes_eq name exec_name)
    as (λ b. cond b (as_exec (members_in words)) (as_plain (reading (name ∷ words))) ≡ Ok task
    → cond b (length words) 0 ≡ task_members task) [
      | true ↦ λ e. sym (exec_members (members_in words) task (length words) e (members_in-length words))
      | false ↦ λ e. sym (plain_members (reading (name ∷ words)) task e)
    ] read

none_wanted : (reply : Content) → wants_in 0 reply ≡ []
none_wanted (SimpleText line) = refl
none_wanted (ErrorLine line) = refl
none_wanted (Number n) = refl
none_wanted (BulkText bytes) = refl
none_wanted Nothing = refl
none_wanted (Several replies) = refl

starved_in-members : (task : Task) (reply : Content) → wants_in (task_members task) reply ≡ starved_in task reply
starved_in-members (Plain command) reply = none_wanted reply
starved_in-members (Exec members) reply = refl

-- and its reply tells the same of them
pub starved_by_task : (words : List Word) (task : Task) (reply : Content) → task_reading words ≡ Ok task
    → starved_by words reply ≡ starved_in task reply
starved_by_task words task reply read =
    ap (λ n. wants_in n reply) (member_count_by_task words task read) ∙ starved_in-members task reply

pub names_by_task : (id : RequestId) (words : List Word) (task : Task) (reply : Option Content) → task_reading words ≡ Ok task
    → names_by id words reply ≡ starved_names id task reply
names_by_task id words task None read = refl
names_by_task id words task (Some reply) read = ap (map (Part id)) (starved_by_task words task reply read)
