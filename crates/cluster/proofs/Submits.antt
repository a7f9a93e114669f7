-- The Submits among steps to which one is added.
use Rattle.std.proofs.Common.{◌≡◌, ℕ, suc, ◌+◌, ◌==◌, List, [], ◌∷◌, ◌++◌, refl, sym, ap, ◌∙◌, arith, eq-eqb}
use Rattle.std.proofs.lemmas.Bool.{cond-true}
use Rattle.std.proofs.lemmas.List.{append_assoc}
use Rattle.cluster.specs.Submits.{submit_in, submits, submit_by, submits_by, IsSaid}
use Rattle.journal.specs.declared.step.Step.{Step}
use Rattle.journal.specs.declared.step.Step.TheVariants.{Submit}
use Rattle.groups.specs.declared.request.ConnId.{ConnId}
use Rattle.groups.specs.declared.request.RequestId.{RequestId}

-- ---- how many

pub submits-append : (xs ys : List Step) → submits (xs ++ ys) ≡ submits xs + submits ys
submits-append [] ys = omega arith
submits-append (x ∷ xs) ys = omega (arith, submits-append xs ys)

pub submits_by-append : (c : ℕ) (xs ys : List Step) → submits_by c (xs ++ ys) ≡ submits_by c xs + submits_by c ys
submits_by-append c [] ys = omega arith
submits_by-append c (x ∷ xs) ys = omega (arith, submits_by-append c xs ys)

pub submits-one : (xs : List Step) (s : Step) → submits (xs ++ s ∷ []) ≡ submits xs + submit_in s
submits-one xs s = omega (arith, submits-append xs (s ∷ []))

-- a Submit is one of its own connection
pub own_submit : (conn : ConnId) (words : List (List ℕ)) → submit_by conn.0 (Submit conn words) ≡ 1
own_submit conn words = cond-true (conn.0 == conn.0) 1 0 (eq-eqb conn.0 conn.0 refl)

-- ---- the words of one

-- of two places in one list at which as many Submits of the connection are before, both are the same
split_once : (conn : ConnId) (ws ws' : List (List ℕ)) (bs cs xs ys : List Step) → xs ++ Submit conn ws ∷ bs ≡ ys ++ Submit conn ws' ∷ cs →
    submits_by conn.0 xs ≡ submits_by conn.0 ys → (ws ≡ ws') × (xs ≡ ys)
split_once conn ws ws' bs cs [] [] same count = (cc, refl)
split_once conn ws ws' bs cs [] (y ∷ ys) same count =
    let head : Submit conn ws ≡ y = cc in
    let own = sym (ap (submit_by conn.0) head) ∙ own_submit conn ws in
    absurd (omega arith)
split_once conn ws ws' bs cs (x ∷ xs) [] same count =
    let head : x ≡ Submit conn ws' = cc in
    let own = ap (submit_by conn.0) head ∙ own_submit conn ws' in
    absurd (omega arith)
split_once conn ws ws' bs cs (x ∷ xs) (y ∷ ys) same count =
    let head : x ≡ y = cc in
    let tail : xs ++ Submit conn ws ∷ bs ≡ ys ++ Submit conn ws' ∷ cs = cc in
    let one = ap (submit_by conn.0) head in
    let rest = split_once conn ws ws' bs cs xs ys tail (omega arith) in
    (rest.0, λ k. head k ∷ rest.1 k)

-- a request is submitted once, with these words, and behind these steps
pub said_once : (steps : List Step) (i : RequestId) (ws ws' : List (List ℕ)) (said : IsSaid steps i ws) (again : IsSaid steps i ws') →
    (ws ≡ ws') × (said.before ≡ again.before)
said_once steps i ws ws' said again =
    let one = said.number in
    let two = again.number in
    split_once i.conn ws ws' said.behind again.behind said.before again.before (sym said.split ∙ again.split) (omega arith)

-- what was said is said of the longer list, and met the same session
abbrev pub said_later : (steps more : List Step) (i : RequestId) (ws : List (List ℕ)) → IsSaid steps i ws → IsSaid (steps ++ more) i ws
said_later steps more i ws said = record {
  before = said.before;
  behind = said.behind ++ more;
  split = ap (λ h. h ++ more) said.split ∙ append_assoc said.before (Submit i.conn ws ∷ said.behind) more;
  number = said.number;
}

-- a request's Submit is said of it
pub said_now : (steps steps' : List Step) (i : RequestId) (ws : List (List ℕ)) → steps' ≡ steps ++ Submit i.conn ws ∷ [] →
    i.seq ≡ suc (submits_by i.conn.0 steps) → IsSaid steps' i ws
said_now steps steps' i ws longer number = record { before = steps; behind = []; split = longer; number = number }
