-- Taking one request after another, and one piece after another.
use Rattle.std.proofs.Common.{◌≡◌, ℕ, ◌+◌, ◌<◌, List, [], ◌∷◌, ◌++◌, length, take, drop, get_or, true, false, Bor, Option, Some, None, refl}
use Rattle.std.proofs.Common.{sym, ap, subst, ◌∙◌, append_assoc, arith}
use Rattle.std.proofs.lemmas.List.{length-append, append-nil, take_more, take-append-drop}
use Rattle.std.proofs.lemmas.List.Concat.{flat_map-append}
use Rattle.std.specs.Option.{is_some}
use Rattle.std.specs.List.{flat_map}
use Rattle.resp_decoder.specs.declared.fault.Fault.{Fault}
use Rattle.resp_decoder.specs.declared.limits.Limits.{Limits}
use Rattle.resp_decoder.specs.Texts.{item_text, IsLawful, requests_of, Stream, IsOpen, IsFault, Ends, Decodes}
use Rattle.resp_decoder.specs.Decoding.{Held, with_bytes, nothing_held, fed, IsCause, TakesRequest, WaitsForMore, Fails}
use Rattle.resp_decoder.specs.Pieces.{whole, TakesAll}
use Rattle.resp_decoder.proofs.Streams.{stream_none, stream_then, stream_one, stream_more, fault_more, open_nothing, one_decoding}

-- what holds before each request is taken
pub record Taking (old : Held) (first : List (List (List ℕ))) (now : Held) (requests : List (List (List ℕ))) : Type 0 where
  pub taken : List (List (List ℕ))
  pub gathered : requests ≡ first ++ taken
  pub stream : Stream old.limits old.bytes taken now.bytes
  pub unchanged : now ≡ with_bytes old now.bytes
  pub no_fault : old.fault ≡ None

pub taking_none : (old : Held) (first : List (List (List ℕ))) → old.fault ≡ None → Taking old first old first
taking_none old first none = record {
  taken = [];
  gathered = sym (append-nil first);
  stream = stream_none old.limits old.bytes;
  unchanged = refl;
  no_fault = none;
}

limits_same : (old now : Held) → now ≡ with_bytes old now.bytes → now.limits ≡ old.limits
limits_same old now e = ap (λ (h : Held). h.limits) e

-- a request with a name is one request
one_request : (words : List (List ℕ)) → 0 < length words → requests_of (Some words) ≡ words ∷ []
one_request [] positive = absurd (omega arith)
one_request (word ∷ words) positive = refl

pub taking_more : (old : Held) (first : List (List (List ℕ))) (now : Held) (requests : List (List (List ℕ))) (words : List (List ℕ))
    (new : Held) → Taking old first now requests → TakesRequest now words new
    → Taking old first new (requests ++ words ∷ [])
taking_more old first now requests words new t r =
    let limits = limits_same old now t.unchanged in
    let lawful = subst (λ (l : Limits). IsLawful l (Some words)) limits r.lawful in
    let front = subst (λ (l : Limits). Stream l now.bytes [] (item_text (Some words) ++ new.bytes)) limits r.front in
    let one = subst (λ (list : List (List (List ℕ))). Stream old.limits (item_text (Some words) ++ new.bytes) list new.bytes)
    (one_request words r.has_name) (stream_one old.limits (Some words) new.bytes lawful) in
    let both = stream_then old.limits now.bytes [] (words ∷ []) (item_text (Some words) ++ new.bytes) new.bytes front one in
    record {
      taken = t.taken ++ words ∷ [];
      gathered = ap (λ (list : List (List (List ℕ))). list ++ words ∷ []) t.gathered ∙ append_assoc first t.taken (words ∷ []);
      stream = stream_then old.limits old.bytes t.taken (words ∷ []) now.bytes new.bytes t.stream both;
      unchanged = r.unchanged ∙ ap (λ (h : Held). with_bytes h new.bytes) t.unchanged;
      no_fault = t.no_fault;
    }

-- each request takes bytes away
pub taking_shorter : (now new : Held) (words : List (List ℕ)) → TakesRequest now words new → length new.bytes < length now.bytes
taking_shorter now new words r =
    let text = flat_map item_text r.front.items in
    let len : length now.bytes ≡ length text + (length (item_text (Some words)) + length new.bytes) =
    ap length r.front.whole ∙ length-append text (item_text (Some words) ++ new.bytes)
    ∙ ap (λ (n : ℕ). length text + n) (length-append (item_text (Some words)) new.bytes) in
    omega (arith, len)

pub takes_open : (old : Held) (first : List (List (List ℕ))) (now : Held) (requests : List (List (List ℕ))) (new : Held)
    → (t : Taking old first now requests) → WaitsForMore now new → TakesAll old t.taken None new
takes_open old first now requests new t w =
    let limits = limits_same old now t.unchanged in
    let front = subst (λ (l : Limits). Stream l now.bytes [] new.bytes) limits w.front in
    record {
      rest = new.bytes;
      stream = subst (λ (list : List (List (List ℕ))). Stream old.limits old.bytes list new.bytes) (append-nil t.taken)
          (stream_then old.limits old.bytes t.taken [] now.bytes new.bytes t.stream front);
      ends = subst (λ (l : Limits). IsOpen l new.bytes) limits w.rest_open;
      stays = λ e. w.unchanged ∙ ap (λ (h : Held). with_bytes h new.bytes) t.unchanged;
    }

pub takes_fault : (old : Held) (first : List (List (List ℕ))) (now : Held) (requests : List (List (List ℕ))) (fault : Fault) (new : Held)
    → (t : Taking old first now requests) → Fails now fault new → TakesAll old t.taken (Some fault) new
takes_fault old first now requests fault new t f =
    let limits = limits_same old now t.unchanged in
    let none : now.fault ≡ None = ap (λ (h : Held). h.fault) t.unchanged ∙ t.no_fault in
    let cause = subst (IsCause now fault) none f.cause in
    let front = subst (λ (l : Limits). Stream l now.bytes [] cause.0) limits cause.1 in
    record {
      rest = cause.0;
      stream = subst (λ (list : List (List (List ℕ))). Stream old.limits old.bytes list cause.0) (append-nil t.taken)
          (stream_then old.limits old.bytes t.taken [] now.bytes cause.0 t.stream front);
      ends = subst (λ (l : Limits). IsFault l cause.0 fault) limits cause.2;
      stays = λ e. absurd cc;
    }

-- ---- pieces

-- what holds before each piece: the stream so far is the requests so far, and an open rest, which is held
pub record Gathered (limits : Limits) (so_far : List ℕ) (now : Held) (requests : List (List (List ℕ))) : Type 0 where
  pub stream : Stream limits so_far requests now.bytes
  pub rest_open : IsOpen limits now.bytes
  pub unchanged : now ≡ with_bytes (nothing_held limits) now.bytes

pub gathered_none : (limits : Limits) → Gathered limits [] (nothing_held limits) []
gathered_none limits = record { stream = stream_none limits []; rest_open = open_nothing limits; unchanged = refl }

-- a piece is fed to a decoder without a fault
fed_whole : (now : Held) (piece : List ℕ) → now.fault ≡ None → fed now piece ≡ with_bytes now (now.bytes ++ piece)
fed_whole now piece none = rw none refl

pub fed_without_fault : (limits : Limits) (so_far : List ℕ) (now : Held) (requests : List (List (List ℕ))) (piece : List ℕ) (new : Held)
    → Gathered limits so_far now requests → new ≡ fed now piece → new ≡ with_bytes (nothing_held limits) (now.bytes ++ piece)
fed_without_fault limits so_far now requests piece new g e =
    let none : now.fault ≡ None = ap (λ (h : Held). h.fault) g.unchanged in
    e ∙ fed_whole now piece none ∙ ap (λ (h : Held). with_bytes h (now.bytes ++ piece)) g.unchanged

-- what holds behind a piece
pub record Behind (limits : Limits) (so_far : List ℕ) (requests : List (List (List ℕ))) (fault : Option Fault) (new : Held) : Type 0 where
  pub decodes : Decodes limits so_far requests fault
  pub goes_on : fault ≡ None → Gathered limits so_far new requests

pub gathered_more : (limits : Limits) (so_far : List ℕ) (now : Held) (requests : List (List (List ℕ))) (piece : List ℕ) (mid new : Held)
    (list others : List (List (List ℕ))) (fault : Option Fault) → Gathered limits so_far now requests
    → mid ≡ fed now piece → others ≡ requests ++ list → TakesAll mid list fault new → Behind limits (so_far ++ piece) others fault new
gathered_more limits so_far now requests piece mid new list others fault g fed_is others_are t =
    let mid_is = fed_without_fault limits so_far now requests piece mid g fed_is in
    let same_limits : mid.limits ≡ limits = ap (λ (h : Held). h.limits) mid_is in
    let more = stream_more limits so_far requests now.bytes piece g.stream in
    let taken : Stream limits (now.bytes ++ piece) list t.rest =
    subst (λ (l : Limits). Stream l (now.bytes ++ piece) list t.rest) same_limits
    (subst (λ (b : List ℕ). Stream mid.limits b list t.rest) (ap (λ (h : Held). h.bytes) mid_is) t.stream) in
    let ends : Ends limits t.rest fault = subst (λ (l : Limits). Ends l t.rest fault) same_limits t.ends in
    let stream : Stream limits (so_far ++ piece) others t.rest =
    subst (λ (r : List (List (List ℕ))). Stream limits (so_far ++ piece) r t.rest) (sym others_are)
    (stream_then limits (so_far ++ piece) requests list (now.bytes ++ piece) t.rest more taken) in
    record {
      decodes = (t.rest, stream, ends);
      goes_on = λ none.
          let new_is : new ≡ with_bytes (nothing_held limits) t.rest = t.stays none ∙ ap (λ (h : Held). with_bytes h t.rest) mid_is in
          let rest_is : t.rest ≡ new.bytes = sym (ap (λ (h : Held). h.bytes) new_is) in
          record {
            stream = subst (λ (b : List ℕ). Stream limits (so_far ++ piece) others b) rest_is stream;
            rest_open = subst (IsOpen limits) rest_is (subst (Ends limits t.rest) none ends);
            unchanged = new_is ∙ ap (λ (b : List ℕ). with_bytes (nothing_held limits) b) rest_is;
          };
    }

-- behind the last piece
pub gathered_all : (limits : Limits) (so_far : List ℕ) (now : Held) (requests : List (List (List ℕ))) → Gathered limits so_far now requests
    → Decodes limits so_far requests None
gathered_all limits so_far now requests g = (now.bytes, g.stream, g.rest_open)

-- a fault stays where it is, whatever follows
pub decoding_more : (limits : Limits) (so_far more : List ℕ) (requests : List (List (List ℕ))) (fault : Option Fault) → true ≡ is_some fault
    → Decodes limits so_far requests fault → Decodes limits (so_far ++ more) requests fault
decoding_more limits so_far more requests None e r = absurd cc
decoding_more limits so_far more requests (Some fault) e r =
    (r.0 ++ more, stream_more limits so_far requests r.0 more r.1, fault_more limits r.0 more fault r.2)

pub none_from_test : (fault : Option Fault) → false ≡ is_some fault → fault ≡ None
none_from_test None e = refl
none_from_test (Some fault) e = absurd cc

pub decoding_only : (limits : Limits) (stream : List ℕ) (requests others : List (List (List ℕ))) (fault fault' : Option Fault)
    → Decodes limits stream requests fault → Decodes limits stream others fault' → (requests ≡ others) × (fault ≡ fault')
decoding_only limits stream requests others fault fault' r s =
    let same = one_decoding limits stream requests others r.0 s.0 fault fault' r.1 r.2 s.1 s.2 in
    (same.0, same.2)

-- ---- the pieces of a stream

pub whole_more : (pieces : List (Bor (List ℕ))) (k : ℕ) (d : Bor (List ℕ)) → k < length pieces
    → whole (take (k + 1) pieces) ≡ whole (take k pieces) ++ (get_or pieces k d).now
whole_more pieces k d below =
    let piece = get_or pieces k d in
    ap whole (take_more pieces k d below) ∙ flat_map-append (λ (p : Bor (List ℕ)). p.now) (take k pieces) (piece ∷ [])
    ∙ ap (λ (t : List ℕ). whole (take k pieces) ++ t) (append-nil piece.now)

pub whole_cut : (pieces : List (Bor (List ℕ))) (k : ℕ) → whole pieces ≡ whole (take k pieces) ++ whole (drop k pieces)
whole_cut pieces k = ap whole (sym (take-append-drop k pieces))
    ∙ flat_map-append (λ (p : Bor (List ℕ)). p.now) (take k pieces) (drop k pieces)
