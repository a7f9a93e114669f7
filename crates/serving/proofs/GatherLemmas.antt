-- What gathering has done so far, and how it goes on and pauses.
use Rattle.std.proofs.Common.{◌≡◌, ◌≢◌, ℕ, ◌<◌, ◌≤◌, List, [], ◌∷◌, ◌++◌, length, Option, None, Some, Ok, Err}
use Rattle.std.proofs.Common.{refl, sym, ap, ◌∙◌, subst}
use Rattle.std.proofs.Common.{append-nil, inl, inr, arith}
use Rattle.resp_decoder.specs.declared.fault.Fault.{Fault}
use Rattle.resp_decoder.specs.Decoding.{Held, with_bytes, TakesRequest, WaitsForMore, Fails, IsCause}
use Rattle.resp_decoder.specs.FaultText.{fault_text}
use Rattle.resp_decoder.specs.Texts.{Stream, IsOpen, IsFault, IsLawful, item_text}
use Rattle.serving.specs.declared.door.DoorFault.TheVariants.{Ended}
use Rattle.serving.specs.declared.gather.Pause.{Pause}
use Rattle.serving.specs.declared.gather.Pause.TheVariants.{Full, Waits, Faulty, Starved, Closed}
use Rattle.serving.specs.Answers.{Answer, answer_text, answers_text, EndsBy, Answered}
use Rattle.serving.specs.declared.gather.TheConstants.{GATHERED}
use Rattle.serving.specs.Gathers.{AddsReply, AddsLine, Gathers}
use Rattle.serving.specs.Serves.{IsBatch}
use Rattle.resp_decoder.proofs.Taking.{taking_shorter}
use Rattle.serving.proofs.StreamLemmas.{length-rest-le}
use Rattle.serving.proofs.AnswerLemmas.{answered_start, answered_past, answered_more, answers_text-append}

-- The requests before the bytes that are held now were answered, and what is gathered are the texts of the answers.
pub record Gathering {S Reason : Type 0} (asks : S → List (List ℕ) → Answer Reason → S → Type 0) (old new : Held) (s t : S)
    (gathered : List ℕ) : Type 0 where
  pub answers : List (Answer Reason)
  pub answered : Answered asks old.limits old.bytes new.bytes s t None answers
  pub held : new ≡ with_bytes old new.bytes
  pub all_texts : gathered ≡ answers_text answers
  pub small : IsBatch answers
  pub fewer : 0 < length gathered → length new.bytes < length old.bytes

-- a text behind others
answers_text-one : {Reason : Type 0} (gathered after : List ℕ) (answers : List (Answer Reason)) (answer : Answer Reason)
    → gathered ≡ answers_text answers → after ≡ gathered ++ answer_text answer → after ≡ answers_text (answers ++ answer ∷ [])
answers_text-one gathered after answers answer p e =
    e ∙ ap (λ l. l ++ answer_text answer) p ∙ ap (λ l. answers_text answers ++ l) (sym (append-nil (answer_text answer)))
    ∙ sym (answers_text-append answers (answer ∷ []))

-- one answer more than those of which the texts are no more than may be gathered
one_more_small : {Reason : Type 0} (gathered : List ℕ) (answers : List (Answer Reason)) (answer : Answer Reason)
    → gathered ≡ answers_text answers → length gathered ≤ GATHERED → IsBatch (answers ++ answer ∷ [])
one_more_small gathered answers answer texts few = inr (answers, answer, refl, subst (λ l. length l ≤ GATHERED) texts few)

same_limits : (old now : Held) → now ≡ with_bytes old now.bytes → now.limits ≡ old.limits
same_limits old now p = ap (λ (h : Held). h.limits) p

module _ {S Reason : Type 0} (asks : S → List (List ℕ) → Answer Reason → S → Type 0) (old : Held) (s : S) where
  pub gathering_start : (gathered : List ℕ) → gathered ≡ [] → Gathering asks old old s s gathered
  gathering_start gathered none = record {
    answers = [];
    answered = answered_start asks old.limits old.bytes s;
    held = refl;
    all_texts = none;
    small = inl refl;
    fewer = λ some. absurd (omega (arith, some, ap length none));
  }

  -- one request more, at which the connection ended or not
  asked : (now new : Held) (u t : S) (gathered : List ℕ) (words : List (List ℕ)) (answer : Answer Reason) (ended : Option Reason)
      → (p : Gathering asks old now s u gathered) → TakesRequest now words new → asks u words answer t → EndsBy ended (answer ∷ [])
      → Answered asks old.limits old.bytes new.bytes s t ended (p.answers ++ answer ∷ [])
  asked now new u t gathered words answer ended p takes answers ending =
      let same = same_limits old now p.held in
      answered_more asks old.limits old.bytes now.bytes new.bytes s u t ended p.answers words answer p.answered
      (subst (λ l. Stream l now.bytes [] (item_text (Some words) ++ new.bytes)) same takes.front) takes.has_name
      (subst (λ l. IsLawful l (Some words)) same takes.lawful) answers ending

  held_after : (now new : Held) (u : S) (gathered : List ℕ) → Gathering asks old now s u gathered → new ≡ with_bytes now new.bytes
      → new ≡ with_bytes old new.bytes
  held_after now new u gathered p e = e ∙ ap (λ (h : Held). with_bytes h new.bytes) p.held

  pub gathering_more : (now new : Held) (u t : S) (room : ℕ) (gathered after : List ℕ) (words : List (List ℕ))
      → Gathering asks old now s u gathered → TakesRequest now words new → AddsReply asks u words t room gathered after (Ok tt)
      → length gathered ≤ GATHERED → Gathering asks old new s t after
  gathering_more now new u t room gathered after words p takes adds few = record {
    answers = p.answers ++ adds.0 ∷ [];
    answered = asked now new u t gathered words adds.0 None p takes adds.1 (adds.2, tt);
    held = held_after now new u gathered p takes.unchanged;
    all_texts = answers_text-one gathered after p.answers adds.0 p.all_texts adds.3;
    small = one_more_small gathered p.answers adds.0 p.all_texts few;
    fewer = λ some. omega (
      arith,
      taking_shorter now new words takes,
      length-rest-le old.limits old.bytes now.bytes p.answered.requests p.answered.taken,
    );
  }

  pub gathers_full : (now : Held) (t : S) (gathered : List ℕ) → Gathering asks old now s t gathered → 0 < length gathered
      → Gathers asks old now s t gathered Full
  gathers_full now t gathered p some = record {
    rest = now.bytes;
    answers = p.answers;
    answered = p.answered;
    small = p.small;
    pauses = (p.held, p.fewer some, p.all_texts);
  }

  pub gathers_waits : (now new : Held) (t : S) (gathered : List ℕ) → Gathering asks old now s t gathered → WaitsForMore now new
      → Gathers asks old new s t gathered Waits
  gathers_waits now new t gathered p waits =
      let same = same_limits old now p.held in
      record {
        rest = new.bytes;
        answers = p.answers;
        answered = answered_past asks old.limits old.bytes now.bytes new.bytes s t None p.answers p.answered
            (subst (λ l. Stream l now.bytes [] new.bytes) same waits.front);
        small = p.small;
        pauses = (held_after now new t gathered p waits.unchanged, subst (λ l. IsOpen l new.bytes) same waits.rest_open, p.all_texts);
      }

  pub gathers_line : (now new : Held) (t : S) (room : ℕ) (gathered after : List ℕ) (fault : Fault) (pause : Pause Reason)
      → Gathering asks old now s t gathered → old.fault ≡ None → (fault ≢ Fault.Memory → Fails now fault new)
      → AddsLine fault room gathered after pause → Gathers asks old new s t after pause
  gathers_line now new t room gathered after fault Full p clean fails adds = absurd adds
  gathers_line now new t room gathered after fault Waits p clean fails adds = absurd adds
  gathers_line now new t room gathered after fault (Closed reason) p clean fails adds = absurd adds
  gathers_line now new t room gathered after fault Starved p clean fails adds =
      record { rest = now.bytes; answers = p.answers; answered = p.answered; small = p.small; pauses = inl (adds.0 ∙ p.all_texts) }
  gathers_line now new t room gathered after fault (Faulty shown) p clean fails adds =
      let same = same_limits old now p.held in
      let none : now.fault ≡ None = ap (λ (h : Held). h.fault) p.held ∙ clean in
      let cause : IsCause now fault None = subst (IsCause now fault) none (fails adds.1).cause in
      record {
        rest = cause.0;
        answers = p.answers;
        answered = answered_past asks old.limits old.bytes now.bytes cause.0 s t None p.answers p.answered
            (subst (λ l. Stream l now.bytes [] cause.0) same cause.1);
        small = p.small;
        pauses = (
          subst (IsFault old.limits cause.0) (sym adds.0) (subst (λ l. IsFault l cause.0 fault) same cause.2),
          adds.2 ∙ ap (λ l. l ++ fault_text fault) p.all_texts ∙ ap (λ f. answers_text p.answers ++ fault_text f) (sym adds.0),
        );
      }

  pub gathers_reply : (now new : Held) (u t : S) (room : ℕ) (gathered after : List ℕ) (words : List (List ℕ)) (pause : Pause Reason)
      → Gathering asks old now s u gathered → TakesRequest now words new → AddsReply asks u words t room gathered after (Err pause)
      → length gathered ≤ GATHERED → Gathers asks old new s t after pause
  gathers_reply now new u t room gathered after words Full p takes adds few = absurd adds
  gathers_reply now new u t room gathered after words Waits p takes adds few = absurd adds
  gathers_reply now new u t room gathered after words (Faulty fault) p takes adds few = absurd adds
  gathers_reply now new u t room gathered after words Starved p takes adds few = record {
    rest = new.bytes;
    answers = p.answers ++ adds.0 ∷ [];
    answered = asked now new u t gathered words adds.0 None p takes adds.1 (adds.2, tt);
    small = one_more_small gathered p.answers adds.0 p.all_texts few;
    pauses = inr (p.answers, adds.0, refl, adds.3 ∙ p.all_texts);
  }
  gathers_reply now new u t room gathered after words (Closed reason) p takes adds few =
      let last : Answer Reason = Err (Ended reason) in
      record {
        rest = new.bytes;
        answers = p.answers ++ last ∷ [];
        answered = asked now new u t gathered words last (Some reason) p takes adds.0 ([], refl, tt);
        small = one_more_small gathered p.answers last p.all_texts few;
        pauses = answers_text-one gathered after p.answers last p.all_texts (adds.1 ∙ sym (append-nil gathered));
      }
