-- Serving a connection, read by read.
use Rattle.std.proofs.Common.{◌≡◌, ℕ, ◌<◌, ◌≤◌, List, [], ◌∷◌, ◌++◌, length, Option, None, Some, Ok, Err, Bool, true, false, IsTrue, ◌↔◌}
use Rattle.std.proofs.Common.{take, refl, sym, ap, ◌∙◌, subst, append-nil, inl, arith}
use Rattle.std.proofs.lemmas.Bool.{false≢true}
use Rattle.std.specs.Io.KnownBytes.{Appends, Consumes, Keeps, IsAtEnd}
use Rattle.std.proofs.KnownBytes.{Appends-nil, Consumes-trans, Consumes-nil, Consumes-kept}
use Rattle.resp_decoder.specs.declared.fault.Fault.{Fault}
use Rattle.resp_decoder.specs.declared.limits.Limits.{Limits}
use Rattle.resp_decoder.specs.Decoding.{Held, with_bytes, nothing_held, fed}
use Rattle.resp_decoder.specs.FaultText.{fault_text}
use Rattle.resp_decoder.specs.Texts.{Stream, IsOpen}
use Rattle.serving.specs.declared.outcome.Served.TheVariants.{End, Inside, Protocol}
use Rattle.serving.specs.declared.outcome.ServeFault.{ServeFault}
use Rattle.serving.specs.declared.outcome.ServeFault.TheVariants.{Read, Write, Memory, Door}
use Rattle.serving.specs.declared.connection.TheConstants.{PIECE}
use Rattle.serving.specs.Answers.{Answer, answers_text, Answered}
use Rattle.serving.specs.Serves.{Serves, Remains}
use Rattle.serving.specs.Gathers.{AnswersHeld}
use Rattle.resp_decoder.proofs.Streams.{open_nothing}
use Rattle.serving.proofs.StreamLemmas.{at_most_piece}
use Rattle.serving.proofs.AnswerLemmas.{answered_start, answered_join, answered_fed}
use Rattle.serving.proofs.WriteLemmas.{appends_texts, appends_all, breaks_behind}

-- a decoder with no fault takes a piece in
fed_held : (limits : Limits) (held : Held) (piece : List ℕ) → held ≡ with_bytes (nothing_held limits) held.bytes
    → fed held piece ≡ with_bytes (nothing_held limits) (held.bytes ++ piece)
fed_held limits held piece e = ap (λ (h : Held). fed h piece) e

-- no byte is held where none is pending
nothing_waits : (pending : Bool) (bytes : List ℕ) → (IsTrue pending ↔ (0 < length bytes)) → pending ≡ false → bytes ≡ []
nothing_waits pending [] waits e = refl
nothing_waits pending (b ∷ bs) waits e = absurd (false≢true (sym e ∙ waits.1 (omega arith)))

-- All requests that were read are answered and their replies written; the decoder holds an open rest.
pub record Serving {S Reason : Type 0} (asks : S → List (List ℕ) → Answer Reason → S → Type 0) (limits : Limits)
    (before left old now : Option (List ℕ)) (s t : S) (held : Held) : Type 0 where
  pub read : List ℕ
  pub answers : List (Answer Reason)
  pub consumed : Consumes before left read
  pub answered : Answered asks limits read held.bytes s t None answers
  pub kept : held ≡ with_bytes (nothing_held limits) held.bytes
  pub rest_open : IsOpen limits held.bytes
  pub written : Appends old now (answers_text answers)

module _ {S Reason : Type 0} (asks : S → List (List ℕ) → Answer Reason → S → Type 0) (limits : Limits) (before old : Option (List ℕ))
    (s : S) where
  pub serving_start : (held : Held) → held ≡ nothing_held limits → Serving asks limits before before old old s s held
  serving_start held e =
      let none : held.bytes ≡ [] = ap (λ (h : Held). h.bytes) e in
      record {
        read = [];
        answers = [];
        consumed = Consumes-nil before;
        answered = subst (λ l. Answered asks limits [] l s s None []) (sym none) (answered_start asks limits [] s);
        kept = e ∙ ap (with_bytes (nothing_held limits)) (sym none);
        rest_open = subst (IsOpen limits) (sym none) (open_nothing limits);
        written = Appends-nil old;
      }

  -- a read that was interrupted takes nothing
  pub serving_again : (left after now : Option (List ℕ)) (t : S) (held : Held)
      → Serving asks limits before left old now s t held → Keeps left after → Serving asks limits before after old now s t held
  serving_again left after now t held p kept = record {
    read = p.read;
    answers = p.answers;
    consumed = Consumes-kept before left after p.read p.consumed kept;
    answered = p.answered;
    kept = p.kept;
    rest_open = p.rest_open;
    written = p.written;
  }

  pub serves_unread : (left now : Option (List ℕ)) (t : S) (held : Held) → Serving asks limits before left old now s t held
      → Serves asks limits before left old now s t (Err Read)
  serves_unread left now t held p = record {
    read = p.read;
    rest = held.bytes;
    answers = p.answers;
    ended = None;
    consumed = p.consumed;
    answered = p.answered;
    tells = refl;
    leaves = (tt, (p.rest_open, p.written));
  }

  -- no memory before anything was read
  pub serves_nothing : Serves asks limits before before old old s s (Err Memory)
  serves_nothing = record {
    read = [];
    rest = [];
    answers = [];
    ended = None;
    consumed = Consumes-nil before;
    answered = answered_start asks limits [] s;
    tells = refl;
    leaves = (
      record { held = []; piece = []; whole = refl; held_open = open_nothing limits; short = omega arith },
      ([], inl refl, Appends-nil old),
    );
  }

  remains : (fault : ServeFault Reason) (bytes piece rest : List ℕ) (requests : List (List (List ℕ)))
      → Stream limits (bytes ++ piece) requests rest → IsOpen limits bytes → length piece ≤ PIECE → Remains limits rest fault
  remains Read bytes piece rest requests p opened short = tt
  remains Write bytes piece rest requests p opened short = tt
  remains Memory bytes piece rest requests p opened short = at_most_piece limits bytes piece rest requests p opened short
  remains (Door reason) bytes piece rest requests p opened short = tt

  -- the read took no byte
  read_none : (left after : Option (List ℕ)) (read buffer : List ℕ) (n : ℕ) → Consumes before left read
      → Consumes left after (take n buffer) → n ≡ 0 → Consumes before after read
  read_none left after read buffer n p q none =
      subst (Consumes before after) (append-nil read)
      (Consumes-trans before left after read [] p (subst (λ k. Consumes left after (take k buffer)) none q))

  pub serves_end : (left after now : Option (List ℕ)) (t : S) (held : Held) (buffer : List ℕ) (n : ℕ) (pending : Bool)
      → Serving asks limits before left old now s t held → 0 < length buffer
      → Consumes left after (take n buffer) × (n ≡ 0 → 0 < length buffer → IsAtEnd after) → n ≡ 0
      → (IsTrue pending ↔ (0 < length held.bytes)) → pending ≡ false
      → Serves asks limits before after old now s t (Ok End)
  serves_end left after now t held buffer n pending p room took none waits e = record {
    read = p.read;
    rest = held.bytes;
    answers = p.answers;
    ended = None;
    consumed = read_none left after p.read buffer n p.consumed took.0 none;
    answered = p.answered;
    tells = refl;
    leaves = (nothing_waits pending held.bytes waits e, took.1 none room, p.written);
  }

  pub serves_inside : (left after now : Option (List ℕ)) (t : S) (held : Held) (buffer : List ℕ) (n : ℕ) (pending : Bool)
      → Serving asks limits before left old now s t held → 0 < length buffer
      → Consumes left after (take n buffer) × (n ≡ 0 → 0 < length buffer → IsAtEnd after) → n ≡ 0
      → (IsTrue pending ↔ (0 < length held.bytes)) → pending ≡ true
      → Serves asks limits before after old now s t (Ok Inside)
  serves_inside left after now t held buffer n pending p room took none waits e = record {
    read = p.read;
    rest = held.bytes;
    answers = p.answers;
    ended = None;
    consumed = read_none left after p.read buffer n p.consumed took.0 none;
    answered = p.answered;
    tells = refl;
    leaves = (waits.0 e, p.rest_open, took.1 none room, p.written);
  }

  -- a piece was read for which the decoder has no memory
  pub serves_unfed : (left after now : Option (List ℕ)) (t : S) (held : Held) (piece : List ℕ)
      → Serving asks limits before left old now s t held → Consumes left after piece → length piece ≤ PIECE
      → Serves asks limits before after old now s t (Err Memory)
  serves_unfed left after now t held piece p took short = record {
    read = p.read ++ piece;
    rest = held.bytes ++ piece;
    answers = p.answers;
    ended = None;
    consumed = Consumes-trans before left after p.read piece p.consumed took;
    answered = answered_fed asks limits p.read held.bytes s t None p.answers piece p.answered;
    tells = refl;
    leaves = (
      record { held = held.bytes; piece = piece; whole = refl; held_open = p.rest_open; short = short },
      (answers_text p.answers, inl refl, p.written),
    );
  }

  -- the answers to a piece, behind those before it
  joined : (left now : Option (List ℕ)) (t u : S) (held : Held) (piece rest : List ℕ) (ended : Option Reason)
      (others : List (Answer Reason))
      → (p : Serving asks limits before left old now s t held) → Answered asks limits (held.bytes ++ piece) rest t u ended others
      → Answered asks limits (p.read ++ piece) rest s u ended (p.answers ++ others)
  joined left now t u held piece rest ended others p q =
      answered_join asks limits (p.read ++ piece) (held.bytes ++ piece) rest s t u ended p.answers others
      (answered_fed asks limits p.read held.bytes s t None p.answers piece p.answered) q

  -- what was held when a piece had come
  fed_to : (left now : Option (List ℕ)) (t : S) (held given : Held) (piece : List ℕ)
      → Serving asks limits before left old now s t held → given ≡ fed held piece
      → given ≡ with_bytes (nothing_held limits) (held.bytes ++ piece)
  fed_to left now t held given piece p e = e ∙ fed_held limits held piece p.kept

  pub can_answer : (left now : Option (List ℕ)) (t : S) (held given : Held) (piece : List ℕ)
      → Serving asks limits before left old now s t held → given ≡ fed held piece → given.fault ≡ None
  can_answer left now t held given piece p e = ap (λ (h : Held). h.fault) (fed_to left now t held given piece p e)

  module _ (left after now new : Option (List ℕ)) (t u : S) (held given next : Held) (piece : List ℕ) where
    pub serving_more : Serving asks limits before left old now s t held → Consumes left after piece → given ≡ fed held piece
        → AnswersHeld asks given next t u now new (Ok None) → Serving asks limits before after old new s u next
    serving_more p took e answers =
        let given_is = fed_to left now t held given piece p e in
        let q : AnswersHeld asks (with_bytes (nothing_held limits) (held.bytes ++ piece)) next t u now new (Ok None)
        = subst (λ (h : Held). AnswersHeld asks h next t u now new (Ok None)) given_is answers in
        let bytes : next.bytes ≡ q.rest = ap (λ (h : Held). h.bytes) q.empties.0 in
        record {
          read = p.read ++ piece;
          answers = p.answers ++ q.answers;
          consumed = Consumes-trans before left after p.read piece p.consumed took;
          answered = subst (λ l. Answered asks limits (p.read ++ piece) l s u None (p.answers ++ q.answers)) (sym bytes)
              (joined left now t u held piece q.rest None q.answers p
              (subst (λ o. Answered asks limits (held.bytes ++ piece) q.rest t u o q.answers) q.tells q.answered));
          kept = q.empties.0 ∙ ap (with_bytes (nothing_held limits)) (sym bytes);
          rest_open = subst (IsOpen limits) (sym bytes) q.empties.1;
          written = appends_all old now new p.answers q.answers p.written q.empties.2;
        }

    pub serves_fault : (fault : Fault) → Serving asks limits before left old now s t held → Consumes left after piece
        → given ≡ fed held piece
        → AnswersHeld asks given next t u now new (Ok (Some fault)) → Serves asks limits before after old new s u (Ok (Protocol fault))
    serves_fault fault p took e answers =
        let given_is = fed_to left now t held given piece p e in
        let q : AnswersHeld asks (with_bytes (nothing_held limits) (held.bytes ++ piece)) next t u now new (Ok (Some fault))
        = subst (λ (h : Held). AnswersHeld asks h next t u now new (Ok (Some fault))) given_is answers in
        record {
          read = p.read ++ piece;
          rest = q.rest;
          answers = p.answers ++ q.answers;
          ended = q.ended;
          consumed = Consumes-trans before left after p.read piece p.consumed took;
          answered = joined left now t u held piece q.rest q.ended q.answers p q.answered;
          tells = q.tells;
          leaves = (q.empties.0, appends_texts old now new p.answers q.answers (fault_text fault) p.written q.empties.1);
        }

    pub serves_broken : (fault : ServeFault Reason) → Serving asks limits before left old now s t held → Consumes left after piece
        → given ≡ fed held piece
        → AnswersHeld asks given next t u now new (Err fault) → length piece ≤ PIECE
        → Serves asks limits before after old new s u (Err fault)
    serves_broken fault p took e answers short =
        let given_is = fed_to left now t held given piece p e in
        let q : AnswersHeld asks (with_bytes (nothing_held limits) (held.bytes ++ piece)) next t u now new (Err fault)
        = subst (λ (h : Held). AnswersHeld asks h next t u now new (Err fault)) given_is answers in
        record {
          read = p.read ++ piece;
          rest = q.rest;
          answers = p.answers ++ q.answers;
          ended = q.ended;
          consumed = Consumes-trans before left after p.read piece p.consumed took;
          answered = joined left now t u held piece q.rest q.ended q.answers p q.answered;
          tells = q.tells;
          leaves = (
            remains fault held.bytes piece q.rest q.answered.requests q.answered.taken p.rest_open short,
            breaks_behind limits q.rest old now new p.answers q.answers fault p.written q.empties,
          );
        }
