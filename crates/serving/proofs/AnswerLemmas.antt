-- Requests that are asked and answered one after another.
use Rattle.std.proofs.Common.{◌≡◌, ℕ, ◌<◌, length, List, [], ◌∷◌, ◌++◌, Option, None, Some, Err, refl, sym, ap, ◌∙◌, subst, append_assoc}
use Rattle.std.proofs.Common.{append-nil}
use Rattle.std.specs.List.{AllByRecursion}
use Rattle.std.proofs.lemmas.List.Concat.{flat_map-append}
use Rattle.resp_decoder.specs.declared.limits.Limits.{Limits}
use Rattle.resp_decoder.specs.Texts.{Stream, IsLawful, item_text}
use Rattle.serving.specs.declared.door.DoorFault.TheVariants.{Ended}
use Rattle.serving.specs.Answers.{Answer, answer_text, answers_text, Runs, GoesOn, EndsBy, Answered}
use Rattle.resp_decoder.proofs.Streams.{stream_none, stream_then, stream_more}
use Rattle.serving.proofs.StreamLemmas.{stream_request}

AllByRecursion-append : {X : Type 0} (P : X → Type 0) (xs ys : List X) → AllByRecursion P xs → AllByRecursion P ys
    → AllByRecursion P (xs ++ ys)
AllByRecursion-append P [] ys p q = q
AllByRecursion-append P (x ∷ xs) ys p q = (p.0, AllByRecursion-append P xs ys p.1 q)

module _ {S Reason : Type 0} (asks : S → List (List ℕ) → Answer Reason → S → Type 0) where
  pub Runs-append : (s mid t : S) (requests more : List (List (List ℕ))) (answers others : List (Answer Reason))
      → Runs asks s requests answers mid → Runs asks mid more others t → Runs asks s (requests ++ more) (answers ++ others) t
  Runs-append s mid t [] more [] others p q = subst (λ v. Runs asks v more others t) p q
  Runs-append s mid t [] more (a ∷ answers) others p q = absurd p
  Runs-append s mid t (r ∷ requests) more [] others p q = absurd p
  Runs-append s mid t (r ∷ requests) more (a ∷ answers) others p q = (p.0, p.1, Runs-append p.0 mid t requests more answers others p.2 q)

pub EndsBy-append : {Reason : Type 0} (ended : Option Reason) (answers others : List (Answer Reason))
    → AllByRecursion GoesOn answers → EndsBy ended others → EndsBy ended (answers ++ others)
EndsBy-append None answers others p q = AllByRecursion-append GoesOn answers others p q
EndsBy-append (Some reason) answers others p q = (
  answers ++ q.0,
  ap (λ l. answers ++ l) q.1 ∙ sym (append_assoc answers q.0 (Err (Ended reason) ∷ [])),
  AllByRecursion-append GoesOn answers q.0 p q.2,
)

pub answers_text-append : {Reason : Type 0} (answers others : List (Answer Reason))
    → answers_text (answers ++ others) ≡ answers_text answers ++ answers_text others
answers_text-append answers others = flat_map-append answer_text answers others

module _ {S Reason : Type 0} (asks : S → List (List ℕ) → Answer Reason → S → Type 0) (limits : Limits) where
  -- nothing is asked yet
  pub answered_start : (stream : List ℕ) (s : S) → Answered asks limits stream stream s s None []
  answered_start stream s = record { requests = []; taken = stream_none limits stream; run = refl; ending = tt }

  pub answered_join : (stream mid rest : List ℕ) (s u t : S) (ended : Option Reason) (answers others : List (Answer Reason))
      → Answered asks limits stream mid s u None answers → Answered asks limits mid rest u t ended others
      → Answered asks limits stream rest s t ended (answers ++ others)
  answered_join stream mid rest s u t ended answers others p q = record {
    requests = p.requests ++ q.requests;
    taken = stream_then limits stream p.requests q.requests mid rest p.taken q.taken;
    run = Runs-append asks s u t p.requests q.requests answers others p.run q.run;
    ending = EndsBy-append ended answers others p.ending q.ending;
  }

  -- more bytes come
  pub answered_fed : (stream rest : List ℕ) (s t : S) (ended : Option Reason) (answers : List (Answer Reason)) (piece : List ℕ)
      → Answered asks limits stream rest s t ended answers → Answered asks limits (stream ++ piece) (rest ++ piece) s t ended answers
  answered_fed stream rest s t ended answers piece p = record {
    requests = p.requests;
    taken = stream_more limits stream p.requests rest piece p.taken;
    run = p.run;
    ending = p.ending;
  }

  -- requests with no words are passed over
  pub answered_past : (stream mid rest : List ℕ) (s t : S) (ended : Option Reason) (answers : List (Answer Reason))
      → Answered asks limits stream mid s t ended answers → Stream limits mid [] rest → Answered asks limits stream rest s t ended answers
  answered_past stream mid rest s t ended answers p q = record {
    requests = p.requests;
    taken = subst (λ l. Stream limits stream l rest) (append-nil p.requests) (stream_then limits stream p.requests [] mid rest p.taken q);
    run = p.run;
    ending = p.ending;
  }

  -- one more request is asked
  pub answered_more : (stream mid rest : List ℕ) (s u t : S) (ended : Option Reason) (answers : List (Answer Reason))
      (words : List (List ℕ)) (answer : Answer Reason)
      → Answered asks limits stream mid s u None answers → Stream limits mid [] (item_text (Some words) ++ rest)
      → 0 < length words → IsLawful limits (Some words) → asks u words answer t → EndsBy ended (answer ∷ [])
      → Answered asks limits stream rest s t ended (answers ++ answer ∷ [])
  answered_more stream mid rest s u t ended answers words answer p front some lawful asked ending =
      answered_join stream mid rest s u t ended answers (answer ∷ []) p record {
        requests = words ∷ [];
        taken = stream_then limits mid [] (words ∷ []) (item_text (Some words) ++ rest) rest front
            (stream_request limits words rest some lawful);
        run = (t, asked, refl);
        ending = ending;
      }
