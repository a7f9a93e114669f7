-- The answers to the requests held, as they are gathered and written.
use Rattle.std.proofs.Common.{◌≡◌, ℕ, ◌<◌, List, [], ◌∷◌, ◌++◌, length, Option, None, Some, Ok, Err, refl, sym, ap, ◌∙◌, subst}
use Rattle.std.proofs.Common.{append_assoc, append-nil, inl, inr}
use Rattle.std.specs.Io.KnownBytes.{Appends}
use Rattle.std.proofs.KnownBytes.{Appends-trans, Appends-nil}
use Rattle.resp_decoder.specs.declared.fault.Fault.{Fault}
use Rattle.resp_decoder.specs.declared.limits.Limits.{Limits}
use Rattle.resp_decoder.specs.Decoding.{Held, with_bytes}
use Rattle.resp_decoder.specs.FaultText.{fault_text}
use Rattle.resp_decoder.specs.Texts.{IsOpen, IsFault}
use Rattle.serving.specs.declared.gather.Pause.{Pause}
use Rattle.serving.specs.declared.gather.Pause.TheVariants.{Full, Waits, Faulty, Starved, Closed}
use Rattle.serving.specs.declared.outcome.ServeFault.{ServeFault}
use Rattle.serving.specs.declared.outcome.ServeFault.TheVariants.{Read, Write, Memory, Door}
use Rattle.serving.specs.Answers.{Answer, answer_text, answers_text, Answered}
use Rattle.serving.specs.Serves.{IsAllOrAllButLast, IsBatch, IsLastLine, IsBeginning, Breaks}
use Rattle.serving.specs.Sent.{AppendsPart}
use Rattle.serving.specs.Gathers.{Pauses, Gathers, AnswersHeld, closed_by}
use Rattle.serving.proofs.AnswerLemmas.{answered_start, answered_join, answers_text-append}

-- texts that were written behind those of earlier answers
pub appends_texts : {Reason : Type 0} (old mid new : Option (List ℕ)) (answers others : List (Answer Reason)) (line : List ℕ)
    → Appends old mid (answers_text answers) → Appends mid new (answers_text others ++ line)
    → Appends old new (answers_text (answers ++ others) ++ line)
appends_texts old mid new answers others line p q =
    subst (Appends old new)
    (sym (append_assoc (answers_text answers) (answers_text others) line) ∙ ap (λ l. l ++ line) (sym (answers_text-append answers others)))
    (Appends-trans old mid new (answers_text answers) (answers_text others ++ line) p q)

pub appends_all : {Reason : Type 0} (old mid new : Option (List ℕ)) (answers others : List (Answer Reason))
    → Appends old mid (answers_text answers) → Appends mid new (answers_text others) → Appends old new (answers_text (answers ++ others))
appends_all old mid new answers others p q =
    subst (Appends old new) (sym (answers_text-append answers others))
    (Appends-trans old mid new (answers_text answers) (answers_text others) p q)

-- all of the texts, or all but the last, behind earlier ones
all_but_last_behind : {Reason : Type 0} (answers others : List (Answer Reason)) (text : List ℕ)
    → IsAllOrAllButLast others text → IsAllOrAllButLast (answers ++ others) (answers_text answers ++ text)
all_but_last_behind {Reason} answers others text p =
    elim p as (λ _. IsAllOrAllButLast (answers ++ others) (answers_text answers ++ text)) [
      | inl all ↦ inl (ap (λ l. answers_text answers ++ l) all ∙ sym (answers_text-append answers others))
      | inr w ↦ inr (
        answers ++ w.0,
        w.1,
        ap (λ l. answers ++ l) w.2 ∙ sym (append_assoc answers w.0 (w.1 ∷ [])),
        ap (λ l. answers_text answers ++ l) w.3 ∙ sym (answers_text-append answers w.0),
      )
    ]

-- a beginning of the texts, behind earlier ones
beginning_behind : {Reason : Type 0} (limits : Limits) (rest : List ℕ) (answers others : List (Answer Reason)) (text : List ℕ)
    → IsBeginning limits rest others text → IsBeginning limits rest (answers ++ others) (answers_text answers ++ text)
beginning_behind limits rest answers others text p = record {
  before = answers ++ p.before;
  batch = p.batch;
  whole = ap (λ l. answers ++ l) p.whole ∙ sym (append_assoc answers p.before p.batch);
  small = p.small;
  line = p.line;
  last = p.last;
  sent = p.sent;
  unsent = p.unsent;
  split = p.split;
  written = ap (λ l. answers_text answers ++ l) p.written ∙ sym (append_assoc (answers_text answers) (answers_text p.before) p.sent)
      ∙ ap (λ l. l ++ p.sent) (sym (answers_text-append answers p.before));
}

-- what a fault leaves, behind answers that were written before
pub breaks_behind : {Reason : Type 0} (limits : Limits) (rest : List ℕ) (old mid new : Option (List ℕ))
    (answers others : List (Answer Reason)) (fault : ServeFault Reason)
    → Appends old mid (answers_text answers) → Breaks limits rest others mid new fault
    → Breaks limits rest (answers ++ others) old new fault
breaks_behind limits rest old mid new answers others Read p q = (q.0, appends_all old mid new answers others p q.1)
breaks_behind limits rest old mid new answers others Write p q = (
  answers_text answers ++ q.0,
  beginning_behind limits rest answers others q.0 q.1,
  Appends-trans old mid new (answers_text answers) q.0 p q.2,
)
breaks_behind limits rest old mid new answers others Memory p q =
    (answers_text answers ++ q.0, all_but_last_behind answers others q.0 q.1, Appends-trans old mid new (answers_text answers) q.0 p q.2)
breaks_behind limits rest old mid new answers others (Door reason) p q = appends_all old mid new answers others p q

-- what is gathered is a beginning of the texts of the answers and of the last line
abbrev Covers : {Reason : Type 0} → Limits → List ℕ → List (Answer Reason) → List ℕ → Type 0
Covers limits rest answers gathered =
    (line : List ℕ) × (more : List ℕ) × IsLastLine limits rest line × (answers_text answers ++ line ≡ gathered ++ more)

gathered_begins : {Reason : Type 0} (old new : Held) (rest : List ℕ) (answers : List (Answer Reason)) (gathered : List ℕ)
    (pause : Pause Reason)
    → Pauses old new rest answers gathered pause → Covers old.limits rest answers gathered
gathered_begins old new rest answers gathered Full p = ([], [], inl refl, ap (λ l. l ++ []) (sym p.2))
gathered_begins old new rest answers gathered Waits p = ([], [], inl refl, ap (λ l. l ++ []) (sym p.2))
gathered_begins old new rest answers gathered (Closed reason) p = ([], [], inl refl, ap (λ l. l ++ []) (sym p))
gathered_begins old new rest answers gathered (Faulty fault) p =
    (fault_text fault, [], inr (fault, p.0, refl), sym p.1 ∙ sym (append-nil gathered))
gathered_begins old new rest answers gathered Starved p =
    elim p as (λ _. Covers old.limits rest answers gathered) [
      | inl all ↦ ([], [], inl refl, ap (λ l. l ++ []) (sym all))
      | inr w ↦ (
        [],
        answer_text w.1 ++ [],
        inl refl,
        append-nil (answers_text answers) ∙ ap answers_text w.2 ∙ answers_text-append w.0 (w.1 ∷ [])
            ∙ ap (λ l. l ++ (answer_text w.1 ++ [])) (sym w.3),
      )
    ]

-- of what is gathered a part was sent
sent_begins : {Reason : Type 0} (limits : Limits) (rest : List ℕ) (answers : List (Answer Reason)) (gathered sent unsent : List ℕ)
    → Covers limits rest answers gathered → IsBatch answers → gathered ≡ sent ++ unsent → IsBeginning limits rest answers sent
sent_begins limits rest answers gathered sent unsent p small e = record {
  before = [];
  batch = answers;
  whole = refl;
  small = small;
  line = p.0;
  last = p.2;
  sent = sent;
  unsent = unsent ++ p.1;
  split = p.3 ∙ ap (λ l. l ++ p.1) e ∙ append_assoc sent unsent p.1;
  written = refl;
}

-- The requests before the bytes that are held now were answered, and the replies written.
pub record Writing {S Reason : Type 0} (asks : S → List (List ℕ) → Answer Reason → S → Type 0) (old new : Held) (s t : S)
    (before after : Option (List ℕ)) : Type 0 where
  pub answers : List (Answer Reason)
  pub answered : Answered asks old.limits old.bytes new.bytes s t None answers
  pub held : new ≡ with_bytes old new.bytes
  pub written : Appends before after (answers_text answers)

module _ {S Reason : Type 0} (asks : S → List (List ℕ) → Answer Reason → S → Type 0) (old : Held) (s : S) (before : Option (List ℕ)) where
  pub writing_start : Writing asks old old s s before before
  writing_start = record { answers = []; answered = answered_start asks old.limits old.bytes s; held = refl; written = Appends-nil before }

  -- the answers that were gathered, behind those that were written
  joined : (now new : Held) (u t : S) (middle : Option (List ℕ)) (gathered : List ℕ) (pause : Pause Reason)
      → (p : Writing asks old now s u before middle) → (q : Gathers asks now new u t gathered pause)
      → Answered asks old.limits old.bytes q.rest s t (closed_by pause) (p.answers ++ q.answers)
  joined now new u t middle gathered pause p q =
      answered_join asks old.limits old.bytes now.bytes q.rest s u t (closed_by pause) p.answers q.answers p.answered
      (subst (λ l. Answered asks l now.bytes q.rest u t (closed_by pause) q.answers) (ap (λ (h : Held). h.limits) p.held) q.answered)

  bytes_left : (now new : Held) (rest : List ℕ) → new ≡ with_bytes now rest → new.bytes ≡ rest
  bytes_left now new rest e = ap (λ (h : Held). h.bytes) e

  held_left : (now new : Held) (rest : List ℕ) → now ≡ with_bytes old now.bytes → new ≡ with_bytes now rest → new ≡ with_bytes old rest
  held_left now new rest p e = e ∙ ap (λ (h : Held). with_bytes h rest) p

  pub writing_more : (now new : Held) (u t : S) (middle after : Option (List ℕ)) (gathered : List ℕ)
      → Writing asks old now s u before middle → Gathers asks now new u t gathered Full → Appends middle after gathered
      → Writing asks old new s t before after
  writing_more now new u t middle after gathered p q sent =
      let same = sym (bytes_left now new q.rest q.pauses.0) in
      record {
        answers = p.answers ++ q.answers;
        answered = subst (λ l. Answered asks old.limits old.bytes l s t None (p.answers ++ q.answers)) same
            (joined now new u t middle gathered Full p q);
        held = held_left now new q.rest p.held q.pauses.0 ∙ ap (with_bytes old) same;
        written = appends_all before middle after p.answers q.answers p.written (subst (Appends middle after) q.pauses.2 sent);
      }

  pub writing_shorter : (now new : Held) (u t : S) (gathered : List ℕ) → Gathers asks now new u t gathered Full
      → length new.bytes < length now.bytes
  writing_shorter now new u t gathered q = subst (λ l. length l < length now.bytes) (sym (bytes_left now new q.rest q.pauses.0)) q.pauses.1

  pub answers_waits : (now new : Held) (u t : S) (middle after : Option (List ℕ)) (gathered : List ℕ)
      → Writing asks old now s u before middle → Gathers asks now new u t gathered Waits → Appends middle after gathered
      → AnswersHeld asks old new s t before after (Ok None)
  answers_waits now new u t middle after gathered p q sent = record {
    rest = q.rest;
    answers = p.answers ++ q.answers;
    ended = None;
    answered = joined now new u t middle gathered Waits p q;
    tells = refl;
    empties = (
      held_left now new q.rest p.held q.pauses.0,
      subst (λ l. IsOpen l q.rest) (ap (λ (h : Held). h.limits) p.held) q.pauses.1,
      appends_all before middle after p.answers q.answers p.written (subst (Appends middle after) q.pauses.2 sent),
    );
  }

  pub answers_faulty : (now new : Held) (u t : S) (middle after : Option (List ℕ)) (gathered : List ℕ) (fault : Fault)
      → Writing asks old now s u before middle → Gathers asks now new u t gathered (Faulty fault) → Appends middle after gathered
      → AnswersHeld asks old new s t before after (Ok (Some fault))
  answers_faulty now new u t middle after gathered fault p q sent = record {
    rest = q.rest;
    answers = p.answers ++ q.answers;
    ended = None;
    answered = joined now new u t middle gathered (Faulty fault) p q;
    tells = refl;
    empties = (
      subst (λ l. IsFault l q.rest fault) (ap (λ (h : Held). h.limits) p.held) q.pauses.0,
      appends_texts before middle after p.answers q.answers (fault_text fault) p.written (subst (Appends middle after) q.pauses.1 sent),
    );
  }

  pub answers_starved : (now new : Held) (u t : S) (middle after : Option (List ℕ)) (gathered : List ℕ)
      → Writing asks old now s u before middle → Gathers asks now new u t gathered Starved → Appends middle after gathered
      → AnswersHeld asks old new s t before after (Err Memory)
  answers_starved now new u t middle after gathered p q sent = record {
    rest = q.rest;
    answers = p.answers ++ q.answers;
    ended = None;
    answered = joined now new u t middle gathered Starved p q;
    tells = refl;
    empties = breaks_behind old.limits q.rest before middle after p.answers q.answers Memory p.written (gathered, q.pauses, sent);
  }

  pub answers_closed : (now new : Held) (u t : S) (middle after : Option (List ℕ)) (gathered : List ℕ) (reason : Reason)
      → Writing asks old now s u before middle → Gathers asks now new u t gathered (Closed reason) → Appends middle after gathered
      → AnswersHeld asks old new s t before after (Err (Door reason))
  answers_closed now new u t middle after gathered reason p q sent = record {
    rest = q.rest;
    answers = p.answers ++ q.answers;
    ended = Some reason;
    answered = joined now new u t middle gathered (Closed reason) p q;
    tells = refl;
    empties = appends_all before middle after p.answers q.answers p.written (subst (Appends middle after) q.pauses sent);
  }

  pub answers_unsent : (now new : Held) (u t : S) (middle after : Option (List ℕ)) (gathered : List ℕ) (pause : Pause Reason)
      → Writing asks old now s u before middle → Gathers asks now new u t gathered pause → AppendsPart middle after gathered
      → AnswersHeld asks old new s t before after (Err Write)
  answers_unsent now new u t middle after gathered pause p q part =
      let begins = sent_begins now.limits q.rest q.answers gathered part.0 part.1
      (gathered_begins now new q.rest q.answers gathered pause q.pauses) q.small part.2 in
      record {
        rest = q.rest;
        answers = p.answers ++ q.answers;
        ended = closed_by pause;
        answered = joined now new u t middle gathered pause p q;
        tells = tt;
        empties = breaks_behind old.limits q.rest before middle after p.answers q.answers Write p.written
            (part.0, subst (λ l. IsBeginning l q.rest q.answers part.0) (ap (λ (h : Held). h.limits) p.held) begins, part.3);
      }
