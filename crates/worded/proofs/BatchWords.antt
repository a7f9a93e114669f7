-- What words that say a batch are read as.
use Rattle.std.proofs.Common.{◌≡◌, ◌<◌, List, [], ◌∷◌, ◌++◌, length, map, true, false, Result, Ok, Err, refl, ap, sym, ◌∙◌}
use Rattle.std.proofs.Common.{cond, arith}
use Rattle.std.specs.List.{AllByRecursion}
use Rattle.std.specs.Str.{bytes_eq}
use Rattle.std.specs.Cmp.Lexicographic.{bytes_decides}
use Rattle.std.proofs.lemmas.List.{append_assoc, append-nil}
use Rattle.command_table.specs.Reading.{reading}
use Rattle.command_table.specs.Words.{Word}
use Rattle.command_table.specs.declared.command.Command.{Command}
use Rattle.command_table.specs.declared.refusal.Refusal.{Refusal}
use Rattle.command_table.specs.declared.refusal.Refusal.TheVariants.{Unknown}
use Rattle.packing.specs.Codes.{words_at, words_code, WordsFit}
use Rattle.packing.specs.CodeLaws.{words_at-code}
use Rattle.sessions.specs.Control.{exec_name}
use Rattle.sessions.specs.Member.{member_of}
use Rattle.sessions.specs.declared.batch.Batch.TheVariants.{Plain, Exec}
use Rattle.sessions.specs.declared.member.Member.{Member}
use Rattle.worded.specs.Faults.{IsFaultOf}
use Rattle.worded.specs.declared.fault.WordedFault.{WordedFault}
use Rattle.worded.specs.declared.fault.WordedFault.TheVariants.{Refused, Memory}
use Rattle.worded.specs.Reading.{exec_words, member_in, members_in, with_first, as_exec, as_plain, batch_reading, members_of}

-- ---- a command's own words

-- no command is named so
exec-unknown : (words : List Word) → reading (exec_name ∷ words) ≡ Err Unknown
exec-unknown words = refl

-- a command's own words say it
pub plain-reading : (words : List Word) (command : Command) → reading words ≡ Ok command → batch_reading words ≡ Ok (Plain command)
plain-reading [] command read = cc
plain-reading (name ∷ words) command read =
    elim (bytes_eq name exec_name)
    as (λ b. bytes_eq name exec_name ≡ b → cond b (as_exec (members_in words)) (as_plain (reading (name ∷ words))) ≡ Ok (Plain command)) [
      | true ↦ λ is.
          let named : name ≡ exec_name = (bytes_decides name exec_name).0 is in
          let none : reading (name ∷ words) ≡ Err Unknown = ap (λ n. reading (n ∷ words)) named ∙ exec-unknown words in cc
      | false ↦ λ _. ap as_plain read
    ] refl

-- ---- the words of an EXEC

-- these members, and behind them those that are read of more words
abbrev pub behind : List Member → Result (List Member) Refusal → Result (List Member) Refusal
behind members (Ok more) = Ok (members ++ more)
behind members (Err refusal) = Err refusal

pub behind-none : (read : Result (List Member) Refusal) → behind [] read ≡ read
behind-none (Ok more) = refl
behind-none (Err refusal) = refl

pub behind-one : (members : List Member) (member : Member) (read : Result (List Member) Refusal)
    → behind members (with_first (Ok member) read) ≡ behind (members ++ member ∷ []) read
behind-one members member (Ok more) = ap Ok (sym (append_assoc members (member ∷ []) more))
behind-one members member (Err refusal) = refl

-- one member more was read
pub read_more : (members more : List Member) (member : Member) (whole left rest : List Word) (word : Word)
    → members_in whole ≡ behind members (members_in left) → left ≡ word ∷ rest → member_in word ≡ Ok member
    → more ≡ members ++ member ∷ [] → members_in whole ≡ behind more (members_in rest)
read_more members more member whole left rest word so_far cut read pushed =
    so_far ∙ ap (λ l. behind members (members_in l)) cut ∙ ap (λ m. behind members (with_first m (members_in rest))) read
    ∙ behind-one members member (members_in rest) ∙ ap (λ ms. behind ms (members_in rest)) (sym pushed)

-- or why it can't be
pub read_fault : (members : List Member) (whole left rest : List Word) (word : Word) (fault : WordedFault)
    → members_in whole ≡ behind members (members_in left) → left ≡ word ∷ rest → IsFaultOf (member_in word) fault
    → IsFaultOf (as_exec (members_in whole)) fault
read_fault members whole left rest word (Refused refusal) so_far cut is =
    ap as_exec (so_far ∙ ap (λ l. behind members (members_in l)) cut ∙ ap (λ m. behind members (with_first m (members_in rest))) is)
read_fault members whole left rest word Memory so_far cut is = tt

member_in-code : (words : List Word) → WordsFit words → member_in (words_code words) ≡ member_of (reading words)
member_in-code words fit =
    ap (λ ws. member_of (reading ws))
    (ap (λ p. p.0) (ap words_at (sym (append-nil (words_code words))) ∙ words_at-code words [] fit))

members_in-codes : (requests : List (List Word)) → AllByRecursion WordsFit requests
    → members_in (map words_code requests) ≡ members_of requests
members_in-codes [] fit = refl
members_in-codes (words ∷ requests) fit =
    ap (λ member. with_first member (members_in (map words_code requests))) (member_in-code words fit.0)
    ∙ ap (with_first (member_of (reading words))) (members_in-codes requests fit.1)

as_exec-some : (members : List Member) → 0 < length members → as_exec (Ok members) ≡ Ok (Exec members)
as_exec-some [] some = absurd (omega arith)
as_exec-some (member ∷ members) some = refl

-- the words of an EXEC are read as its members
pub exec-reading : (requests : List (List Word)) (members : List Member) → AllByRecursion WordsFit requests
    → members_of requests ≡ Ok members → 0 < length members → batch_reading (exec_words requests) ≡ Ok (Exec members)
exec-reading requests members fit read some = ap as_exec (members_in-codes requests fit ∙ read) ∙ as_exec-some members some

-- one request more is read as one member more
with_last : (first : Result Member Refusal) (read : Result (List Member) Refusal) (members : List Member) (member : Member)
    → with_first first read ≡ Ok members → ((rest : List Member) → read ≡ Ok rest → (more : Result (List Member) Refusal)
    → more ≡ Ok (rest ++ member ∷ []) → with_first first more ≡ Ok (members ++ member ∷ []))
with_last (Ok one) read members member e rest is more last =
    let same : one ∷ rest ≡ members = (let k = ap (with_first (Ok one)) (sym is) in cc) in
    ap (with_first (Ok one)) last ∙ ap (λ ms. Ok (ms ++ member ∷ [])) same
with_last (Err refusal) read members member e rest is more last = cc

first_read : (first : Result Member Refusal) (read : Result (List Member) Refusal) (members : List Member)
    → with_first first read ≡ Ok members → (rest : List Member) × (read ≡ Ok rest)
first_read (Ok one) (Ok rest) members e = (rest, refl)
first_read (Ok one) (Err refusal) members e = cc
first_read (Err refusal) read members e = cc

pub members_of-push : (requests : List (List Word)) (words : List Word) (members : List Member) (member : Member)
    → members_of requests ≡ Ok members → member_of (reading words) ≡ Ok member
    → members_of (requests ++ words ∷ []) ≡ Ok (members ++ member ∷ [])
members_of-push [] words members member read last =
    let none : [] ≡ members = cc in ap (λ m. with_first m (Ok [])) last ∙ ap (λ ms. Ok (ms ++ member ∷ [])) none
members_of-push (first ∷ requests) words members member read last =
    let rest = first_read (member_of (reading first)) (members_of requests) members read in
    with_last (member_of (reading first)) (members_of requests) members member read rest.0 rest.1 (members_of (requests ++ words ∷ []))
    (members_of-push requests words rest.0 member rest.1 last)
