-- Streams of requests: how they join, how they end, and that each has one reading.
use Rattle.std.proofs.Common.{◌≡◌, ℕ, zero, suc, ◌+◌, ◌<◌, List, [], ◌∷◌, ◌++◌, length, Option, Some, None, Result, Ok, Err, ◌⊎◌, inl, inr}
use Rattle.std.proofs.Common.{refl, sym, ap, subst, ◌∙◌, append_assoc, arith}
use Rattle.std.specs.List.{flat_map, AllByRecursion}
use Rattle.std.proofs.lemmas.List.{append-nil, length-append}
use Rattle.std.proofs.lemmas.List.Concat.{flat_map-append}
use Rattle.resp_decoder.specs.declared.fault.Fault.{Fault}
use Rattle.resp_decoder.specs.declared.limits.Limits.{Limits}
use Rattle.resp_decoder.specs.declared.parsing.Stop.{Stop}
use Rattle.resp_decoder.specs.declared.parsing.Stop.TheVariants.{Open, Bad}
use Rattle.resp_decoder.specs.Texts.{Marked, bytes, Item, item_marks, item_text, IsLawful, requests_of, Stream, IsOpenIn, IsFaultIn, IsOpen}
use Rattle.resp_decoder.specs.Texts.{IsFault, Ends, Decodes}
use Rattle.resp_decoder.specs.Parsing.{Parsed, byte_at, head_at, item_at}
use Rattle.resp_decoder.proofs.Formats.{Reads, split, same_front, no_shorter, bytes-append}
use Rattle.resp_decoder.proofs.Bytes.{stopped}
use Rattle.resp_decoder.proofs.Items.{item_reads}

-- ---- what a reader says of an open rest and of a fault

result_cases : {X : Type 0} (q : Result X Stop) → ((x : X) × (q ≡ Ok x)) ⊎ ((stop : Stop) × (q ≡ Err stop))
result_cases (Ok x) = inl (x, refl)
result_cases (Err e) = inr (e, refl)

stop_cases : (stop : Stop) → (stop ≡ Open) ⊎ ((fault : Fault) × (stop ≡ Bad fault))
stop_cases Open = inl refl
stop_cases (Bad fault) = inr (fault, refl)

-- what begins a text, and goes on with a byte that no text has there
no_text : {A : Type 0} (lawful : A → Type 0) (marks : A → Marked) (b : List ℕ) (fault : Fault) → (f : IsFaultIn lawful marks b fault)
    → (value : A) → lawful value → (rest : List ℕ) → bytes (marks value) ≡ b ++ rest → ⊥
no_text lawful marks b fault f value h rest e =
    f.none value h (f.more ++ rest) (e ∙ ap (λ (t : List ℕ). t ++ rest) f.split ∙ append_assoc (bytes f.before) (f.bad ∷ f.more) rest)

-- an open rest begins a text
open_text : {A : Type 0} (lawful : A → Type 0) (marks : A → Marked) (b : List ℕ) → (o : IsOpenIn lawful marks b)
    → bytes (marks o.value) ≡ b ++ o.next.0 ∷ bytes o.after
open_text lawful marks b o = ap bytes o.text ∙ bytes-append o.before (o.next ∷ o.after)
    ∙ ap (λ (t : List ℕ). t ++ o.next.0 ∷ bytes o.after) (sym o.split)

pub open_is : {A : Type 0} (r : List ℕ → Parsed A) (lawful : A → Type 0) (marks : A → Marked) → Reads r lawful marks → (b : List ℕ)
    → IsOpenIn lawful marks b → r b ≡ Err Open
open_is {A} r lawful marks reads b o =
    elim (result_cases (r b)) [
      | inl x ↦
          let g = reads.got b x.0 x.1 in
          absurd (no_shorter r lawful marks reads o.value x.0.0 o.holds g.0 o.before o.next o.after x.0.1 o.text (sym o.split ∙ g.1))
      | inr s ↦ elim (stop_cases s.0) [
        | inl e ↦ s.1 ∙ ap (λ (t : Stop). Err t) e
        | inr f ↦
            let fault = reads.bad b f.0 (s.1 ∙ ap (λ (t : Stop). Err t) f.1) in
            absurd (no_text lawful marks b f.0 fault o.value o.holds (o.next.0 ∷ bytes o.after) (open_text lawful marks b o))
      ]
    ]

-- one place, and so one fault
same_fault : {A : Type 0} (r : List ℕ → Parsed A) (lawful : A → Type 0) (marks : A → Marked) → Reads r lawful marks
    → (b : List ℕ) (fault fault' : Fault) → IsFaultIn lawful marks b fault → IsFaultIn lawful marks b fault' → fault ≡ fault'
same_fault {A} r lawful marks reads b fault fault' f g =
    let text_f : bytes (marks f.value) ≡ bytes f.before ++ f.byte ∷ bytes f.after = ap bytes f.text
    ∙ bytes-append f.before ((f.byte, fault) ∷ f.after) in
    let text_g : bytes (marks g.value) ≡ bytes g.before ++ g.byte ∷ bytes g.after = ap bytes g.text
    ∙ bytes-append g.before ((g.byte, fault') ∷ g.after) in
    elim (split (bytes f.before) (f.bad ∷ f.more) (bytes g.before) g.bad g.more (sym f.split ∙ g.split)) [
      | inl p ↦
          absurd (g.none f.value f.holds (p.0 ++ f.byte ∷ bytes f.after) (text_f ∙ ap (λ (t : List ℕ). t ++ f.byte ∷ bytes f.after) p.1
          ∙ append_assoc (bytes g.before) (g.bad ∷ p.0) (f.byte ∷ bytes f.after)))
      | inr p ↦
          elim p.0 as (λ mid. bytes g.before ≡ bytes f.before ++ mid → f.bad ∷ f.more ≡ mid ++ g.bad ∷ g.more → fault ≡ fault') [
            | [] ↦ λ e rest.
                reads.places f.value g.value f.holds g.holds f.before (f.byte, fault) f.after g.before (g.byte, fault') g.after f.text
                g.text (sym (e ∙ append-nil (bytes f.before)))
            | m ∷ mid ↦ λ e rest.
                let head : m ≡ f.bad = cc in
                absurd (f.none g.value g.holds (mid ++ g.byte ∷ bytes g.after)
                (text_g ∙ ap (λ (t : List ℕ). t ++ g.byte ∷ bytes g.after) (e ∙ ap (λ (k : ℕ). bytes f.before ++ k ∷ mid) head)
                ∙ append_assoc (bytes f.before) (f.bad ∷ mid) (g.byte ∷ bytes g.after)))
          ] p.1 p.2
    ]

pub fault_is : {A : Type 0} (r : List ℕ → Parsed A) (lawful : A → Type 0) (marks : A → Marked) → Reads r lawful marks
    → (b : List ℕ) (fault : Fault) → IsFaultIn lawful marks b fault → r b ≡ Err (Bad fault)
fault_is {A} r lawful marks reads b fault f =
    elim (result_cases (r b)) [
      | inl x ↦
          let g = reads.got b x.0 x.1 in
          elim (split (bytes (marks x.0.0)) x.0.1 (bytes f.before) f.bad f.more (sym g.1 ∙ f.split)) [
            | inl p ↦ absurd (f.none x.0.0 g.0 p.0 p.1)
            | inr p ↦ absurd (no_shorter r lawful marks reads f.value x.0.0 f.holds g.0 f.before (f.byte, fault) f.after p.0 f.text p.1)
          ]
      | inr s ↦ elim (stop_cases s.0) [
        | inl e ↦
            let o = reads.part b (s.1 ∙ ap (λ (t : Stop). Err t) e) in
            absurd (no_text lawful marks b fault f o.value o.holds (o.next.0 ∷ bytes o.after) (open_text lawful marks b o))
        | inr g ↦
            let other = reads.bad b g.0 (s.1 ∙ ap (λ (t : Stop). Err t) g.1) in
            let same = same_fault r lawful marks reads b g.0 fault other f in
            s.1 ∙ ap (λ (t : Stop). Err t) g.1 ∙ ap (λ (t : Fault). Err (Bad t)) same
      ]
    ]

-- ---- one reading of a stream

-- no text begins the rest
abbrev pub Stops : Limits → List ℕ → Type 0
Stops limits rest = (stop : Stop) × (item_at limits rest ≡ Err stop)

item_again : (limits : Limits) (item : Item) (rest : List ℕ) → IsLawful limits item
    → item_at limits (item_text item ++ rest) ≡ Ok (item, rest)
item_again limits item rest h = (item_reads limits).again item h rest

not_begun : (limits : Limits) (item : Item) (rest more : List ℕ) → IsLawful limits item → Stops limits more
    → more ≡ item_text item ++ rest → ⊥
not_begun limits item rest more h stops e =
    let wrong : stopped {A = Item × List ℕ} stops.0 ≡ Ok (item, rest) = sym stops.1 ∙ ap (item_at limits) e
    ∙ item_again limits item rest h in
    cc

pub same_items : (limits : Limits) (items others : List Item) (rest rest' : List ℕ) → AllByRecursion (IsLawful limits) items
    → AllByRecursion (IsLawful limits) others → Stops limits rest → Stops limits rest'
    → flat_map item_text items ++ rest ≡ flat_map item_text others ++ rest' → (items ≡ others) × (rest ≡ rest')
same_items limits [] [] rest rest' h h' s s' e = (refl, e)
same_items limits [] (item ∷ others) rest rest' h h' s s' e =
    absurd (not_begun limits item (flat_map item_text others ++ rest') rest h'.0 s (e
    ∙ append_assoc (item_text item) (flat_map item_text others) rest'))
same_items limits (item ∷ items) [] rest rest' h h' s s' e =
    absurd (not_begun limits item (flat_map item_text items ++ rest) rest' h.0 s' (sym e
    ∙ append_assoc (item_text item) (flat_map item_text items) rest))
same_items limits (item ∷ items) (other ∷ others) rest rest' h h' s s' e =
    let cut : item_text item ++ (flat_map item_text items ++ rest) ≡ item_text other ++ (flat_map item_text others ++ rest') =
    sym (append_assoc (item_text item) (flat_map item_text items) rest) ∙ e
    ∙ append_assoc (item_text other) (flat_map item_text others) rest' in
    let front = same_front (item_at limits) (IsLawful limits) item_marks (item_reads limits) item other h.0 h'.0
    (flat_map item_text items ++ rest) (flat_map item_text others ++ rest') cut in
    let back = same_items limits items others rest rest' h.1 h'.1 s s' front.1 in
    (cc, back.1)

-- why an ending is none of a text
abbrev pub ending : Option Fault → Stop
ending None = Open
ending (Some fault) = Bad fault

ending_is : (fault fault' : Option Fault) → ending fault ≡ ending fault' → fault ≡ fault'
ending_is None None e = refl
ending_is None (Some fault) e = absurd cc
ending_is (Some fault) None e = absurd cc
ending_is (Some fault) (Some fault') e = let same : fault ≡ fault' = cc in ap (λ (f : Fault). Some f) same

pub ends_is : (limits : Limits) (rest : List ℕ) (fault : Option Fault) → Ends limits rest fault → item_at limits rest ≡ Err (ending fault)
ends_is limits rest None o = open_is (item_at limits) (IsLawful limits) item_marks (item_reads limits) rest o
ends_is limits rest (Some fault) f = fault_is (item_at limits) (IsLawful limits) item_marks (item_reads limits) rest fault f

pub ends_from : (limits : Limits) (rest : List ℕ) (fault : Option Fault) → item_at limits rest ≡ Err (ending fault) → Ends limits rest fault
ends_from limits rest None e = (item_reads limits).part rest e
ends_from limits rest (Some fault) e = (item_reads limits).bad rest fault e

pub one_decoding : (limits : Limits) (stream : List ℕ) (list list' : List (List (List ℕ))) (rest rest' : List ℕ)
    (fault fault' : Option Fault)
    → Stream limits stream list rest → Ends limits rest fault → Stream limits stream list' rest' → Ends limits rest' fault' → (list ≡ list')
    × (rest ≡ rest') × (fault ≡ fault')
one_decoding limits stream list list' rest rest' fault fault' s ends s' ends' =
    let stop = ends_is limits rest fault ends in
    let stop' = ends_is limits rest' fault' ends' in
    let same = same_items limits s.items s'.items rest rest' s.lawful s'.lawful (ending fault, stop) (ending fault', stop') (sym s.whole
    ∙ s'.whole) in
    let faults : stopped {A = Item × List ℕ} (ending fault) ≡ stopped (ending fault') = sym stop ∙ ap (item_at limits) same.1 ∙ stop' in
    let endings : ending fault ≡ ending fault' = cc in (
      s.requests_are ∙ ap (λ (items : List Item). flat_map requests_of items) same.0 ∙ sym s'.requests_are,
      same.1,
      ending_is fault fault' endings,
    )

pub one_fault : (limits : Limits) (rest : List ℕ) (fault fault' : Fault) → IsFault limits rest fault → IsFault limits rest fault'
    → fault ≡ fault'
one_fault limits rest fault fault' f g = same_fault (item_at limits) (IsLawful limits) item_marks (item_reads limits) rest fault fault' f g

-- ---- streams join

pub stream_none : (limits : Limits) (b : List ℕ) → Stream limits b [] b
stream_none limits b = record { items = []; lawful = tt; whole = refl; requests_are = refl }

all-append : (limits : Limits) (xs ys : List Item) → AllByRecursion (IsLawful limits) xs → AllByRecursion (IsLawful limits) ys
    → AllByRecursion (IsLawful limits) (xs ++ ys)
all-append limits [] ys h k = k
all-append limits (x ∷ xs) ys h k = (h.0, all-append limits xs ys h.1 k)

pub stream_then : (limits : Limits) (b : List ℕ) (list list' : List (List (List ℕ))) (mid rest : List ℕ) → Stream limits b list mid
    → Stream limits mid list' rest → Stream limits b (list ++ list') rest
stream_then limits b list list' mid rest s t = record {
  items = s.items ++ t.items;
  lawful = all-append limits s.items t.items s.lawful t.lawful;
  whole = s.whole ∙ ap (λ (w : List ℕ). flat_map item_text s.items ++ w) t.whole
      ∙ sym (append_assoc (flat_map item_text s.items) (flat_map item_text t.items) rest)
      ∙ ap (λ (w : List ℕ). w ++ rest) (sym (flat_map-append item_text s.items t.items));
  requests_are = ap (λ (w : List (List (List ℕ))). w ++ list') s.requests_are
      ∙ ap (λ (w : List (List (List ℕ))). flat_map requests_of s.items ++ w) t.requests_are
      ∙ sym (flat_map-append requests_of s.items t.items);
}

-- one item
pub stream_one : (limits : Limits) (item : Item) (rest : List ℕ) → IsLawful limits item
    → Stream limits (item_text item ++ rest) (requests_of item) rest
stream_one limits item rest h = record {
  items = item ∷ [];
  lawful = (h, tt);
  whole = ap (λ (w : List ℕ). w ++ rest) (sym (append-nil (item_text item)));
  requests_are = sym (append-nil (requests_of item));
}

-- what comes behind stays behind
pub stream_more : (limits : Limits) (b : List ℕ) (list : List (List (List ℕ))) (rest more : List ℕ) → Stream limits b list rest
    → Stream limits (b ++ more) list (rest ++ more)
stream_more limits b list rest more s = record {
  items = s.items;
  lawful = s.lawful;
  whole = ap (λ (w : List ℕ). w ++ more) s.whole ∙ append_assoc (flat_map item_text s.items) rest more;
  requests_are = s.requests_are;
}

-- the same fault stands in a longer rest
pub fault_more : (limits : Limits) (rest more : List ℕ) (fault : Fault) → IsFault limits rest fault → IsFault limits (rest ++ more) fault
fault_more limits rest more fault f = record {
  value = f.value;
  holds = f.holds;
  before = f.before;
  byte = f.byte;
  after = f.after;
  text = f.text;
  bad = f.bad;
  more = f.more ++ more;
  split = ap (λ (w : List ℕ). w ++ more) f.split ∙ append_assoc (bytes f.before) (f.bad ∷ f.more) more;
  none = f.none;
}

-- ---- every stream is read

nothing_at : (limits : Limits) → item_at limits [] ≡ Err Open
unfolding item_at head_at byte_at
nothing_at limits = refl

pub open_nothing : (limits : Limits) → IsOpen limits []
open_nothing limits = (item_reads limits).part [] (nothing_at limits)

some_text : (item : Item) → 0 < length (item_text item)
some_text None = omega arith
some_text (Some words) = omega arith

item_shorter : (limits : Limits) (b : List ℕ) (x : Item × List ℕ) → item_at limits b ≡ Ok x → length x.1 < length b
item_shorter limits b x e =
    let g = (item_reads limits).got b x e in
    let len : length b ≡ length (item_text x.0) + length x.1 = ap length g.1 ∙ length-append (item_text x.0) x.1 in
    omega (arith, len, some_text x.0)

abbrev stop_fault : Stop → Option Fault
stop_fault Open = None
stop_fault (Bad fault) = Some fault

ending-stop_fault : (stop : Stop) → ending (stop_fault stop) ≡ stop
ending-stop_fault Open = refl
ending-stop_fault (Bad fault) = refl

abbrev SomeDecoding : Limits → List ℕ → Type 0
SomeDecoding limits stream = (requests : List (List (List ℕ))) × (fault : Option Fault) × Decodes limits stream requests fault

decoding_within : (limits : Limits) (n : ℕ) (stream : List ℕ) → length stream < n → SomeDecoding limits stream
decoding_within limits zero stream within = absurd (omega arith)
decoding_within limits (suc n) stream within =
    elim (result_cases (item_at limits stream)) [
      | inl x ↦
          let g = (item_reads limits).got stream x.0 x.1 in
          let shorter = item_shorter limits stream x.0 x.1 in
          let others = decoding_within limits n x.0.1 (omega arith) in
          let first = subst (λ (w : List ℕ). Stream limits w (requests_of x.0.0) x.0.1) (sym g.1) (stream_one limits x.0.0 x.0.1 g.0) in (
            requests_of x.0.0 ++ others.0,
            others.1,
            (others.2.0, stream_then limits stream (requests_of x.0.0) others.0 x.0.1 others.2.0 first others.2.1, others.2.2),
          )
      | inr s ↦ (
        [],
        stop_fault s.0,
        (
          stream,
          stream_none limits stream,
          ends_from limits stream (stop_fault s.0) (s.1 ∙ ap (λ (t : Stop). Err t) (sym (ending-stop_fault s.0))),
        ),
      )
    ]

pub some_decoding : (limits : Limits) (stream : List ℕ) → (requests : List (List (List ℕ))) × (fault : Option Fault)
    × Decodes limits stream requests fault
some_decoding limits stream = decoding_within limits (suc (length stream)) stream (omega arith)

pub open_no_fault : (limits : Limits) (rest : List ℕ) (fault : Fault) → IsOpen limits rest → IsFault limits rest fault → ⊥
open_no_fault limits rest fault o f =
    let wrong : stopped {A = Item × List ℕ} Open ≡ stopped (Bad fault) = sym (ends_is limits rest None o)
    ∙ ends_is limits rest (Some fault) f in
    cc
