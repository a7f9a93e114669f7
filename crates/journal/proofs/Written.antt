-- A trace's text as it is put, piece by piece.
use Rattle.std.proofs.Common.{◌≡◌, ◌≢◌, ℕ, ◌+◌, ◌-◌, ◌<◌, List, [], ◌∷◌, ◌++◌, length, map, refl, sym, ap, ◌∙◌, codes}
use Rattle.std.specs.Fmt.{decimal}
use Rattle.std.specs.List.{flat_map}
use Rattle.std.proofs.lemmas.List.{append_assoc, append-nil}
use Rattle.std.proofs.lemmas.List.Concat.{flat_map-append}
use Rattle.packing.specs.Codes.{many, number_at, word_at, words_at}
use Rattle.journal.specs.Codes.{run_at, skip_at, skips_at, submit_at, submit_of}
use Rattle.packing.specs.CodeLaws.{many_one, length-many}
use Rattle.groups.specs.declared.request.ConnId.{ConnId}
use Rattle.groups.specs.declared.skip_id.SkipId.{SkipId}
use Rattle.journal.specs.declared.step.Step.{Step}
use Rattle.journal.specs.declared.step.Step.TheVariants.{Submit, Run}
use Rattle.journal.specs.TraceText.{word_text, skip_text, step_line, ended, first_line, max_line, end_line, trace_text}
use Rattle.journal.specs.declared.version.TheConstants.{WRITTEN_VERSION}

flat_map-map : {A B : Type 0} (f : B → List ℕ) (g : A → B) (xs : List A) → flat_map f (map g xs) ≡ flat_map (λ x. f (g x)) xs
flat_map-map f g [] = refl
flat_map-map f g (x ∷ xs) = ap (λ c. f (g x) ++ c) (flat_map-map f g xs)

pub submit-written : (conn : ConnId) (words : List (List ℕ))
    → ended (step_line (Submit conn words)) ≡ codes "submit " ++
    (decimal conn.0 ++ (flat_map (λ word. 32 ∷ word_text word) words ++ 10 ∷ []))
submit-written conn words =
    ap (λ c. codes "submit " ++ (decimal conn.0 ++ c) ++ 10 ∷ []) (flat_map-map (λ arg. 32 ∷ arg) word_text words) ∙ simp append_assoc

pub run-written : (starved : List SkipId) → ended (step_line (Run starved)) ≡ codes "run" ++
    (flat_map (λ name. 32 ∷ skip_text name) starved ++ 10 ∷ [])
run-written starved = ap (λ c. codes "run" ++ c ++ 10 ∷ []) (flat_map-map (λ arg. 32 ∷ arg) skip_text starved)

pub trace-written : (max : ℕ) (steps : List Step)
    → trace_text max steps ≡ ended (first_line WRITTEN_VERSION) ++ (ended (max_line max) ++
    (flat_map (λ step. ended (step_line step)) steps ++ ended (end_line (length steps))))
trace-written max steps =
    ap (λ c. ended (first_line WRITTEN_VERSION) ++ (ended (max_line max) ++ c))
    (flat_map-append ended (map step_line steps) (end_line (length steps) ∷ [])
    ∙ ap (λ c. c ++ (ended (end_line (length steps)) ++ [])) (flat_map-map ended step_line steps)
    ∙ ap (λ c. flat_map (λ step. ended (step_line step)) steps ++ c) (append-nil (ended (end_line (length steps)))))

-- what is read of bytes is put, one behind another: what was put, and what is left, stay all
pub put_more : {A : Type 0} (text : A → List ℕ) (at : List ℕ → A × List ℕ) (n i : ℕ) (rest before all : List ℕ) → i < n
    → before ++ flat_map text (many at (n - i) rest).0 ≡ all
    → (before ++ text (at rest).0) ++ flat_map text (many at (n - (i + 1)) (at rest).1).0 ≡ all
put_more text at n i rest before all less is =
    append_assoc before (text (at rest).0) (flat_map text (many at (n - (i + 1)) (at rest).1).0)
    ∙ ap (λ l. before ++ l) (sym (ap (flat_map text) (many_one at n i rest less).0)) ∙ is

pub run_at-is : (bytes : List ℕ) → run_at bytes ≡
    (Run (many skip_at (number_at bytes).0 (number_at bytes).1).0, (many skip_at (number_at bytes).0 (number_at bytes).1).1)
unfolding run_at skips_at
run_at-is bytes = refl

-- what so many bytes say that count no word, and what those say that count some
module _ (bytes : List ℕ) where
  abbrev conn : ℕ
  conn = (number_at bytes).0

  abbrev count : ℕ
  count = (number_at (number_at bytes).1).0

  abbrev words : List (List ℕ) × List ℕ
  words = many word_at count (number_at (number_at bytes).1).1

  pub submit_at-rest : (submit_at bytes).1 ≡ words.1
  unfolding submit_at words_at
  submit_at-rest = refl

  pub submit_at-none : count ≡ 0 → ended (step_line (submit_at bytes).0) ≡ codes "open\n"
  unfolding submit_at words_at
  submit_at-none none = rw none refl

  pub submit_at-some : count ≢ 0 → ended (step_line (submit_at bytes).0) ≡ codes "submit " ++
      (decimal conn ++ (flat_map (λ word. 32 ∷ word_text word) words.0 ++ 10 ∷ []))
  unfolding submit_at words_at
  submit_at-some some = by_words words.0 (λ none. some (sym (length-many word_at count (number_at (number_at bytes).1).1) ∙ ap length none))
    where
      by_words : (ws : List (List ℕ)) → ws ≢ [] → ended (step_line (submit_of conn ws)) ≡ codes "submit " ++
          (decimal conn ++ (flat_map (λ word. 32 ∷ word_text word) ws ++ 10 ∷ []))
      by_words [] some = absurd (some refl)
      by_words (w ∷ ws) some = submit-written (record { 0 = conn }) (w ∷ ws)

-- texts that were put one behind another
pub in-turn : (before first second third last : List ℕ)
    → (((before ++ first) ++ second) ++ third) ++ last ≡ before ++ (first ++ (second ++ (third ++ last)))
in-turn before first second third last = simp append_assoc
