-- What makes a reader the reading of a set of texts, and readers one after another.
use Rattle.std.proofs.Common.{◌≡◌, ℕ, List, [], ◌∷◌, ◌++◌, Result, Ok, Err, ◌⊎◌, inl, inr, refl, sym, ap, subst, ◌∙◌, append_assoc}
use Rattle.std.proofs.lemmas.List.{map-append, append-nil}
use Rattle.resp_decoder.specs.declared.fault.Fault.{Fault}
use Rattle.resp_decoder.specs.declared.parsing.Stop.{Stop}
use Rattle.resp_decoder.specs.declared.parsing.Stop.TheVariants.{Open, Bad}
use Rattle.resp_decoder.specs.Texts.{Marked, bytes, mark, IsOpenIn, IsFaultIn}
use Rattle.resp_decoder.specs.Parsing.{Parsed, ◌>>=◌}

-- ---- one list cut in two ways

-- the first part of the one goes past the place of the other, or the other way round
pub split : (xs ys us : List ℕ) (z : ℕ) (vs : List ℕ) → xs ++ ys ≡ us ++ z ∷ vs → ((mid : List ℕ) × (xs ≡ us ++ z ∷ mid))
    ⊎ ((mid : List ℕ) × (us ≡ xs ++ mid) × (ys ≡ mid ++ z ∷ vs))
split [] ys us z vs e = inr (us, refl, e)
split (x ∷ xs) ys [] z vs e = inl (xs, cc)
split (x ∷ xs) ys (u ∷ us) z vs e =
    let same : x ≡ u = cc in
    elim (split xs ys us z vs cc) [ inl p ↦ inl (p.0, cc) | inr p ↦ inr (p.0, cc, p.2) ]

pub split_marked : (xs ys us : Marked) (z : ℕ × Fault) (vs : Marked) → xs ++ ys ≡ us ++ z ∷ vs → ((mid : Marked) × (xs ≡ us ++ z ∷ mid))
    ⊎ ((mid : Marked) × (us ≡ xs ++ mid) × (ys ≡ mid ++ z ∷ vs))
split_marked [] ys us z vs e = inr (us, refl, e)
split_marked (x ∷ xs) ys [] z vs e = inl (xs, cc)
split_marked (x ∷ xs) ys (u ∷ us) z vs e =
    let same : x ≡ u = cc in
    elim (split_marked xs ys us z vs cc) [ inl p ↦ inl (p.0, cc) | inr p ↦ inr (p.0, cc, p.2) ]

pub bytes-append : (xs ys : Marked) → bytes (xs ++ ys) ≡ bytes xs ++ bytes ys
bytes-append xs ys = map-append (λ m. m.0) xs ys

pub bytes-mark : (fault : Fault) (bs : List ℕ) → bytes (mark fault bs) ≡ bs
bytes-mark fault [] = refl
bytes-mark fault (b ∷ bs) = ap (λ (t : List ℕ). b ∷ t) (bytes-mark fault bs)

-- ---- results

pub bind_ok : {A B : Type 0} (r : Result A Stop) (f : A → Result B Stop) (y : B) → (r >>= f) ≡ Ok y → (x : A) × (r ≡ Ok x) × (f x ≡ Ok y)
bind_ok (Ok x) f y e = (x, refl, e)
bind_ok (Err d) f y e = absurd cc

pub bind_err : {A B : Type 0} (r : Result A Stop) (f : A → Result B Stop) (stop : Stop) → (r >>= f) ≡ Err stop → (r ≡ Err stop)
    ⊎ ((x : A) × (r ≡ Ok x) × (f x ≡ Err stop))
bind_err (Ok x) f stop e = inr (x, refl, e)
bind_err (Err d) f stop e = inl (let same : d ≡ stop = cc in cc)

abbrev pub done : {A : Type 0} → A → Result A Stop
done x = Ok x

pub ok_is : {A : Type 0} (x y : A) → done x ≡ done y → x ≡ y
ok_is x y e = cc

-- ---- readers

-- two texts that agree up to a place have the same fault there
abbrev pub ArePlaced : {A : Type 0} → (A → Type 0) → (A → Marked) → Type 0
ArePlaced {A} lawful marks = (x y : A) → lawful x → lawful y
    → (before : Marked) (next : ℕ × Fault) (after before' : Marked) (next' : ℕ × Fault) (after' : Marked)
    → marks x ≡ before ++ next ∷ after → marks y ≡ before' ++ next' ∷ after' → bytes before ≡ bytes before' → next.1 ≡ next'.1

pub record Reads {A : Type 0} (r : List ℕ → Parsed A) (lawful : A → Type 0) (marks : A → Marked) : Type 0 where
  pub got : (b : List ℕ) (x : A × List ℕ) → r b ≡ Ok x → lawful x.0 × (b ≡ bytes (marks x.0) ++ x.1)
  pub again : (a : A) → lawful a → (rest : List ℕ) → r (bytes (marks a) ++ rest) ≡ Ok (a, rest)
  pub part : (b : List ℕ) → r b ≡ Err Open → IsOpenIn lawful marks b
  pub bad : (b : List ℕ) (fault : Fault) → r b ≡ Err (Bad fault) → IsFaultIn lawful marks b fault
  pub places : ArePlaced lawful marks

-- no text begins another
pub same_front : {A : Type 0} (r : List ℕ → Parsed A) (lawful : A → Type 0) (marks : A → Marked) → Reads r lawful marks
    → (x y : A) → lawful x → lawful y → (u v : List ℕ) → bytes (marks x) ++ u ≡ bytes (marks y) ++ v → (x ≡ y) × (u ≡ v)
same_front {A} r lawful marks reads x y hx hy u v e =
    let both = ok_is (x, u) (y, v) (sym (reads.again x hx u) ∙ ap r e ∙ reads.again y hy v) in
    (ap (λ (p : A × List ℕ). p.0) both, ap (λ (p : A × List ℕ). p.1) both)

-- ---- one reader after another

abbrev pub pair : {A B : Type 0} → (List ℕ → Parsed A) → (A → List ℕ → Parsed B) → List ℕ → Parsed (A × B)
pair r s b = r b >>= λ x. s x.0 x.1 >>= λ y. Ok ((x.0, y.0), y.1)

abbrev pub Both : {A B : Type 0} → (A → Type 0) → (A → B → Type 0) → A × B → Type 0
Both P Q p = P p.0 × Q p.0 p.1

abbrev pub both_marks : {A B : Type 0} → (A → Marked) → (A → B → Marked) → A × B → Marked
both_marks m n p = m p.0 ++ n p.0 p.1

nothing_before : (x : ℕ) (xs ys : List ℕ) → [] ≡ xs ++ x ∷ ys → ⊥
nothing_before x [] ys e = cc
nothing_before x (z ∷ xs) ys e = cc

-- a text can't end within another
pub no_shorter : {A : Type 0} (r : List ℕ → Parsed A) (lawful : A → Type 0) (marks : A → Marked) → Reads r lawful marks
    → (x y : A) → lawful x → lawful y → (before : Marked) (next : ℕ × Fault) (after : Marked) (mid : List ℕ)
    → marks x ≡ before ++ next ∷ after → bytes before ≡ bytes (marks y) ++ mid → ⊥
no_shorter r lawful marks reads x y hx hy before next after mid text e =
    let whole : bytes (marks x) ≡ bytes (marks y) ++ (mid ++ next.0 ∷ bytes after) =
    ap bytes text ∙ bytes-append before (next ∷ after) ∙ ap (λ (t : List ℕ). t ++ next.0 ∷ bytes after) e
    ∙ append_assoc (bytes (marks y)) mid (next.0 ∷ bytes after) in
    nothing_before next.0 mid (bytes after)
    (same_front r lawful marks reads x y hx hy [] (mid ++ next.0 ∷ bytes after) (append-nil (bytes (marks x)) ∙ whole)).1

pair_got : {A B : Type 0} (r : List ℕ → Parsed A) (P : A → Type 0) (m : A → Marked) (s : A → List ℕ → Parsed B) (Q : A → B → Type 0) (n : A
    → B → Marked)
    → Reads r P m → ((a : A) → P a → Reads (s a) (Q a) (n a)) → (b : List ℕ) (z : (A × B) × List ℕ) → pair r s b ≡ Ok z
    → Both P Q z.0 × (b ≡ bytes (both_marks m n z.0) ++ z.1)
pair_got {A} {B} r P m s Q n reads then_reads b z e =
    let first = bind_ok (r b) (λ x. s x.0 x.1 >>= λ y. Ok ((x.0, y.0), y.1)) z e in
    let x = first.0 in
    let second = bind_ok (s x.0 x.1) (λ y. Ok ((x.0, y.0), y.1)) z first.2 in
    let y = second.0 in
    let g = reads.got b x first.1 in
    let h = (then_reads x.0 g.0).got x.1 y second.1 in
    let whole : b ≡ bytes (m x.0 ++ n x.0 y.0) ++ y.1 =
    g.1 ∙ ap (λ (t : List ℕ). bytes (m x.0) ++ t) h.1 ∙ sym (append_assoc (bytes (m x.0)) (bytes (n x.0 y.0)) y.1)
    ∙ ap (λ (t : List ℕ). t ++ y.1) (sym (bytes-append (m x.0) (n x.0 y.0))) in
    subst (λ (w : (A × B) × List ℕ). Both P Q w.0 × (b ≡ bytes (both_marks m n w.0) ++ w.1)) (ok_is ((x.0, y.0), y.1) z second.2)
    ((g.0, h.0), whole)

pair_again : {A B : Type 0} (r : List ℕ → Parsed A) (P : A → Type 0) (m : A → Marked) (s : A → List ℕ → Parsed B) (Q : A → B
    → Type 0) (n : A → B → Marked)
    → Reads r P m → ((a : A) → P a → Reads (s a) (Q a) (n a)) → (p : A × B) → Both P Q p → (rest : List ℕ)
    → pair r s (bytes (both_marks m n p) ++ rest) ≡ Ok (p, rest)
pair_again r P m s Q n reads then_reads p h rest =
    let cut : bytes (m p.0 ++ n p.0 p.1) ++ rest ≡ bytes (m p.0) ++ (bytes (n p.0 p.1) ++ rest) =
    ap (λ (t : List ℕ). t ++ rest) (bytes-append (m p.0) (n p.0 p.1)) ∙ append_assoc (bytes (m p.0)) (bytes (n p.0 p.1)) rest in
    ap (pair r s) cut ∙ rw (reads.again p.0 h.0 (bytes (n p.0 p.1) ++ rest), (then_reads p.0 h.0).again p.1 h.1 rest) refl

pair_part : {A B : Type 0} (r : List ℕ → Parsed A) (P : A → Type 0) (m : A → Marked) (s : A → List ℕ → Parsed B) (Q : A → B → Type 0) (n : A
    → B → Marked)
    → Reads r P m → ((a : A) → P a → Reads (s a) (Q a) (n a)) → ((a : A) → P a → (b : B) × Q a b) → (b : List ℕ) → pair r s b ≡ Err Open
    → IsOpenIn (Both P Q) (both_marks m n) b
pair_part r P m s Q n reads then_reads some b e =
    elim (bind_err (r b) (λ x. s x.0 x.1 >>= λ y. Ok ((x.0, y.0), y.1)) Open e) [
      | inl stopped ↦
          let o = reads.part b stopped in
          let follow = some o.value o.holds in
          record {
            value = (o.value, follow.0);
            holds = (o.holds, follow.1);
            before = o.before;
            next = o.next;
            after = o.after ++ n o.value follow.0;
            text = ap (λ (t : Marked). t ++ n o.value follow.0) o.text ∙ append_assoc o.before (o.next ∷ o.after) (n o.value follow.0);
            split = o.split;
          }
      | inr first ↦
          let x = first.0 in
          let g = reads.got b x first.1 in
          elim (bind_err (s x.0 x.1) (λ y. Ok ((x.0, y.0), y.1)) Open first.2) [
            | inl stopped ↦
                let o = (then_reads x.0 g.0).part x.1 stopped in
                record {
                  value = (x.0, o.value);
                  holds = (g.0, o.holds);
                  before = m x.0 ++ o.before;
                  next = o.next;
                  after = o.after;
                  text = ap (λ (t : Marked). m x.0 ++ t) o.text ∙ sym (append_assoc (m x.0) o.before (o.next ∷ o.after));
                  split = g.1 ∙ ap (λ (t : List ℕ). bytes (m x.0) ++ t) o.split ∙ sym (bytes-append (m x.0) o.before);
                }
            | inr second ↦ absurd cc
          ]
    ]

pair_bad : {A B : Type 0} (r : List ℕ → Parsed A) (P : A → Type 0) (m : A → Marked) (s : A → List ℕ → Parsed B) (Q : A → B → Type 0) (n : A
    → B → Marked)
    → Reads r P m → ((a : A) → P a → Reads (s a) (Q a) (n a)) → ((a : A) → P a → (b : B) × Q a b) → (b : List ℕ) (fault : Fault)
    → pair r s b ≡ Err (Bad fault) → IsFaultIn (Both P Q) (both_marks m n) b fault
pair_bad {A} {B} r P m s Q n reads then_reads some b fault e =
    elim (bind_err (r b) (λ x. s x.0 x.1 >>= λ y. Ok ((x.0, y.0), y.1)) (Bad fault) e) [
      | inl stopped ↦
          let o = reads.bad b fault stopped in
          let follow = some o.value o.holds in
          record {
            value = (o.value, follow.0);
            holds = (o.holds, follow.1);
            before = o.before;
            byte = o.byte;
            after = o.after ++ n o.value follow.0;
            text = ap (λ (t : Marked). t ++ n o.value follow.0) o.text
                ∙ append_assoc o.before ((o.byte, fault) ∷ o.after) (n o.value follow.0);
            bad = o.bad;
            more = o.more;
            split = o.split;
            none = λ other h tail same.
                elim (split (bytes (m other.0)) (bytes (n other.0 other.1)) (bytes o.before) o.bad tail
                (sym (bytes-append (m other.0) (n other.0 other.1)) ∙ same)) [
                  | inl p ↦ o.none other.0 h.0 p.0 p.1
                  | inr p ↦ no_shorter r P m reads o.value other.0 o.holds h.0 o.before (o.byte, fault) o.after p.0 o.text p.1
                ];
          }
      | inr first ↦
          let x = first.0 in
          let g = reads.got b x first.1 in
          elim (bind_err (s x.0 x.1) (λ y. Ok ((x.0, y.0), y.1)) (Bad fault) first.2) [
            | inl stopped ↦
                let o = (then_reads x.0 g.0).bad x.1 fault stopped in
                record {
                  value = (x.0, o.value);
                  holds = (g.0, o.holds);
                  before = m x.0 ++ o.before;
                  byte = o.byte;
                  after = o.after;
                  text = ap (λ (t : Marked). m x.0 ++ t) o.text ∙ sym (append_assoc (m x.0) o.before ((o.byte, fault) ∷ o.after));
                  bad = o.bad;
                  more = o.more;
                  split = g.1 ∙ ap (λ (t : List ℕ). bytes (m x.0) ++ t) o.split
                      ∙ sym (append_assoc (bytes (m x.0)) (bytes o.before) (o.bad ∷ o.more))
                      ∙ ap (λ (t : List ℕ). t ++ o.bad ∷ o.more) (sym (bytes-append (m x.0) o.before));
                  none = λ other h tail same.
                      let cut : bytes (m other.0) ++ bytes (n other.0 other.1) ≡ bytes (m x.0) ++ (bytes o.before ++ o.bad ∷ tail) =
                      sym (bytes-append (m other.0) (n other.0 other.1)) ∙ same
                      ∙ ap (λ (t : List ℕ). t ++ o.bad ∷ tail) (bytes-append (m x.0) o.before)
                      ∙ append_assoc (bytes (m x.0)) (bytes o.before) (o.bad ∷ tail) in
                      let front = same_front r P m reads other.0 x.0 h.0 g.0 (bytes (n other.0 other.1))
                      (bytes o.before ++ o.bad ∷ tail) cut in
                      let moved = subst (λ (a : A). Q a other.1 × (bytes (n a other.1) ≡ bytes o.before ++ o.bad ∷ tail)) front.0 (
                        h.1,
                        front.1,
                      ) in
                      o.none other.1 moved.0 tail moved.1;
                }
            | inr second ↦ absurd cc
          ]
    ]

pair_places : {A B : Type 0} (r : List ℕ → Parsed A) (P : A → Type 0) (m : A → Marked) (s : A → List ℕ → Parsed B) (Q : A → B
    → Type 0) (n : A → B → Marked)
    → Reads r P m → ((a : A) → P a → Reads (s a) (Q a) (n a)) → ArePlaced (Both P Q) (both_marks m n)
pair_places {A} {B} r P m s Q n reads then_reads x y hx hy before next after before' next' after' tx ty same =
    elim (split_marked (m x.0) (n x.0 x.1) before next after tx) [
      | inl p ↦ elim (split_marked (m y.0) (n y.0 y.1) before' next' after' ty) [
        | inl q ↦ reads.places x.0 y.0 hx.0 hy.0 before next p.0 before' next' q.0 p.1 q.1 same
        | inr q ↦ absurd (no_shorter r P m reads x.0 y.0 hx.0 hy.0 before next p.0 (bytes q.0) p.1 (same ∙ ap bytes q.1
            ∙ bytes-append (m y.0) q.0))
      ]
      | inr p ↦ elim (split_marked (m y.0) (n y.0 y.1) before' next' after' ty) [
        | inl q ↦ absurd (no_shorter r P m reads y.0 x.0 hy.0 hx.0 before' next' q.0 (bytes p.0) q.1 (sym same ∙ ap bytes p.1
            ∙ bytes-append (m x.0) p.0))
        | inr q ↦
            let cut : bytes (m x.0) ++ bytes p.0 ≡ bytes (m y.0) ++ bytes q.0 =
            sym (bytes-append (m x.0) p.0) ∙ sym (ap bytes p.1) ∙ same ∙ ap bytes q.1 ∙ bytes-append (m y.0) q.0 in
            let front = same_front r P m reads x.0 y.0 hx.0 hy.0 (bytes p.0) (bytes q.0) cut in
            let moved = subst (λ (a : A). Q a x.1 × (n a x.1 ≡ p.0 ++ next ∷ after)) front.0 (hx.1, p.2) in
            (then_reads y.0 hy.0).places x.1 y.1 moved.0 hy.1 p.0 next after q.0 next' after' moved.1 q.2 front.1
      ]
    ]

-- Reading a text and then one that may depend on its value, where some lawful value always follows.
pub pair_reads : {A B : Type 0} (r : List ℕ → Parsed A) (P : A → Type 0) (m : A → Marked) (s : A → List ℕ → Parsed B) (Q : A → B
    → Type 0) (n : A → B → Marked)
    → Reads r P m → ((a : A) → P a → Reads (s a) (Q a) (n a)) → ((a : A) → P a → (b : B) × Q a b)
    → Reads (pair r s) (Both P Q) (both_marks m n)
pair_reads r P m s Q n reads then_reads some = record {
  got = pair_got r P m s Q n reads then_reads;
  again = pair_again r P m s Q n reads then_reads;
  part = pair_part r P m s Q n reads then_reads some;
  bad = pair_bad r P m s Q n reads then_reads some;
  places = pair_places r P m s Q n reads then_reads;
}

-- ---- a reader seen otherwise

abbrev pub seen : {A C : Type 0} → (A → C) → (List ℕ → Parsed A) → List ℕ → Parsed C
seen f r b = r b >>= λ x. Ok (f x.0, x.1)

seen_got : {A C : Type 0} (r : List ℕ → Parsed A) (P : A → Type 0) (m : A → Marked) (f : A → C) (Q : C → Type 0) (n : C → Marked)
    → Reads r P m → ((a : A) → P a → Q (f a) × (n (f a) ≡ m a)) → (b : List ℕ) (z : C × List ℕ) → seen f r b ≡ Ok z
    → Q z.0 × (b ≡ bytes (n z.0) ++ z.1)
seen_got {A} {C} r P m f Q n reads to b z e =
    let first = bind_ok (r b) (λ x. Ok (f x.0, x.1)) z e in
    let x = first.0 in
    let g = reads.got b x first.1 in
    let t = to x.0 g.0 in
    subst (λ (w : C × List ℕ). Q w.0 × (b ≡ bytes (n w.0) ++ w.1)) (ok_is (f x.0, x.1) z first.2) (
      t.0,
      g.1
          ∙ ap (λ (k : Marked). bytes k ++ x.1) (sym t.1),
    )

seen_again : {A C : Type 0} (r : List ℕ → Parsed A) (P : A → Type 0) (m : A → Marked) (f : A → C) (Q : C → Type 0) (n : C → Marked)
    → Reads r P m → ((a : A) → P a → Q (f a) × (n (f a) ≡ m a)) → ((c : C) → Q c → (a : A) × P a × (f a ≡ c)) → (c : C) → Q c
    → (rest : List ℕ) → seen f r (bytes (n c) ++ rest) ≡ Ok (c, rest)
seen_again {A} {C} r P m f Q n reads to from c h rest =
    let a = from c h in
    let at : seen f r (bytes (n (f a.0)) ++ rest) ≡ Ok (f a.0, rest) =
    ap (λ (k : Marked). seen f r (bytes k ++ rest)) (to a.0 a.1).1 ∙ rw (reads.again a.0 a.1 rest) refl in
    subst (λ (w : C). seen f r (bytes (n w) ++ rest) ≡ Ok (w, rest)) a.2 at

seen_part : {A C : Type 0} (r : List ℕ → Parsed A) (P : A → Type 0) (m : A → Marked) (f : A → C) (Q : C → Type 0) (n : C → Marked)
    → Reads r P m → ((a : A) → P a → Q (f a) × (n (f a) ≡ m a)) → (b : List ℕ) → seen f r b ≡ Err Open → IsOpenIn Q n b
seen_part r P m f Q n reads to b e =
    elim (bind_err (r b) (λ x. Ok (f x.0, x.1)) Open e) [
      | inl stopped ↦
          let o = reads.part b stopped in
          let t = to o.value o.holds in
          record { value = f o.value; holds = t.0; before = o.before; next = o.next; after = o.after; text = t.1 ∙ o.text; split = o.split }
      | inr first ↦ absurd cc
    ]

seen_bad : {A C : Type 0} (r : List ℕ → Parsed A) (P : A → Type 0) (m : A → Marked) (f : A → C) (Q : C → Type 0) (n : C → Marked)
    → Reads r P m → ((a : A) → P a → Q (f a) × (n (f a) ≡ m a)) → ((c : C) → Q c → (a : A) × P a × (f a ≡ c)) → (b : List ℕ) (fault : Fault)
    → seen f r b ≡ Err (Bad fault) → IsFaultIn Q n b fault
seen_bad r P m f Q n reads to from b fault e =
    elim (bind_err (r b) (λ x. Ok (f x.0, x.1)) (Bad fault) e) [
      | inl stopped ↦
          let o = reads.bad b fault stopped in
          let t = to o.value o.holds in
          record {
            value = f o.value;
            holds = t.0;
            before = o.before;
            byte = o.byte;
            after = o.after;
            text = t.1 ∙ o.text;
            bad = o.bad;
            more = o.more;
            split = o.split;
            none = λ other h tail same.
                let a = from other h in
                o.none a.0 a.1 tail (sym (ap bytes (sym (ap n a.2) ∙ (to a.0 a.1).1)) ∙ same);
          }
      | inr first ↦ absurd cc
    ]

seen_places : {A C : Type 0} (P : A → Type 0) (m : A → Marked) (f : A → C) (Q : C → Type 0) (n : C → Marked)
    → ArePlaced P m → ((a : A) → P a → Q (f a) × (n (f a) ≡ m a)) → ((c : C) → Q c → (a : A) × P a × (f a ≡ c)) → ArePlaced Q n
seen_places P m f Q n placed to from x y hx hy before next after before' next' after' tx ty same =
    let a = from x hx in
    let c = from y hy in
    placed a.0 c.0 a.1 c.1 before next after before' next' after' (sym (to a.0 a.1).1 ∙ ap n a.2 ∙ tx) (sym (to c.0 c.1).1
    ∙ ap n c.2 ∙ ty) same

-- Reading the same texts, for values that stand for them as well.
pub seen_reads : {A C : Type 0} (r : List ℕ → Parsed A) (P : A → Type 0) (m : A → Marked) (f : A → C) (Q : C → Type 0) (n : C → Marked)
    → Reads r P m → ((a : A) → P a → Q (f a) × (n (f a) ≡ m a)) → ((c : C) → Q c → (a : A) × P a × (f a ≡ c)) → Reads (seen f r) Q n
seen_reads r P m f Q n reads to from = record {
  got = seen_got r P m f Q n reads to;
  again = seen_again r P m f Q n reads to from;
  part = seen_part r P m f Q n reads to;
  bad = seen_bad r P m f Q n reads to from;
  places = seen_places P m f Q n reads.places to from;
}

-- The same reader in other words.
pub same_reads : {A : Type 0} (r s : List ℕ → Parsed A) (P : A → Type 0) (m : A → Marked) → Reads r P m → ((b : List ℕ) → s b ≡ r b)
    → Reads s P m
same_reads r s P m reads same = record {
  got = λ b x e. reads.got b x (sym (same b) ∙ e);
  again = λ a h rest. same (bytes (m a) ++ rest) ∙ reads.again a h rest;
  part = λ b e. reads.part b (sym (same b) ∙ e);
  bad = λ b fault e. reads.bad b fault (sym (same b) ∙ e);
  places = reads.places;
}

-- ---- the smallest readers

-- a reader of nothing
pub none_reads : {A : Type 0} (a : A) → Reads {A = A} (λ b. Ok (a, b)) (λ x. x ≡ a) (λ x. [])
none_reads {A} a = record {
  got = λ b x e. subst (λ (w : A × List ℕ). (w.0 ≡ a) × (b ≡ w.1)) (ok_is (a, b) x e) (refl, refl);
  again = λ x h rest. ap (λ (y : A). Ok (y, rest)) (sym h);
  part = λ b e. absurd cc;
  bad = λ b fault e. absurd cc;
  places = λ x y hx hy before next after before' next' after' tx ty same. absurd (no_place before next after tx);
} where
  no_place : (before : Marked) (next : ℕ × Fault) (after : Marked) → [] ≡ before ++ next ∷ after → ⊥
  no_place [] next after e = cc
  no_place (m ∷ before) next after e = cc

-- every mark of a text that is marked with one fault has that fault
pub one_mark : (fault : Fault) (bs : List ℕ) (before : Marked) (next : ℕ × Fault) (after : Marked) → mark fault bs ≡ before ++ next ∷ after
    → next.1 ≡ fault
one_mark fault [] [] next after e = absurd cc
one_mark fault [] (m ∷ before) next after e = absurd cc
one_mark fault (b ∷ bs) [] next after e = let head : (b, fault) ≡ next = cc in ap (λ (m : ℕ × Fault). m.1) (sym head)
one_mark fault (b ∷ bs) (m ∷ before) next after e = one_mark fault bs before next after cc

pub one_fault_places : {A : Type 0} (lawful : A → Type 0) (fault : Fault) (text : A → List ℕ) → ArePlaced lawful (λ a. mark fault (text a))
one_fault_places lawful fault text x y hx hy before next after before' next' after' tx ty same =
    one_mark fault (text x) before next after tx ∙ sym (one_mark fault (text y) before' next' after' ty)

-- ---- readers in do notation are pairs seen otherwise

abbrev pub mapped : {A B : Type 0} → (A → B) → Result (A × List ℕ) Stop → Result (B × List ℕ) Stop
mapped f r = r >>= λ x. Ok (f x.0, x.1)

then_seen_one : {A B C : Type 0} (g : A → B → C) (a : A) (q : Result (B × List ℕ) Stop)
    → mapped (λ b. g a b) q ≡ mapped (λ (z : A × B). g z.0 z.1) (mapped (λ b. (a, b)) q)
then_seen_one g a (Ok y) = refl
then_seen_one g a (Err e) = refl

then_seen_all : {A B C : Type 0} (g : A → B → C) (r : Result (A × List ℕ) Stop) (s : A → List ℕ → Parsed B)
    → (r >>= λ x. mapped (λ b. g x.0 b) (s x.0 x.1)) ≡ mapped (λ (z : A × B). g z.0 z.1) (r >>= λ x. mapped (λ b. (x.0, b)) (s x.0 x.1))
then_seen_all g (Ok x) s = then_seen_one g x.0 (s x.0 x.1)
then_seen_all g (Err e) s = refl

-- a value of both
pub then_seen : {A B C : Type 0} (g : A → B → C) (r : List ℕ → Parsed A) (s : A → List ℕ → Parsed B) (b : List ℕ)
    → (r b >>= λ x. mapped (λ y. g x.0 y) (s x.0 x.1)) ≡ seen (λ p. g p.0 p.1) (pair r s) b
then_seen g r s b = then_seen_all g (r b) s

second_one : {A B : Type 0} (a : A) (q : Result (B × List ℕ) Stop) → q ≡ mapped (λ (z : A × B). z.1) (mapped (λ b. (a, b)) q)
second_one a (Ok y) = refl
second_one a (Err e) = refl

second_all : {A B : Type 0} (r : Result (A × List ℕ) Stop) (s : A → List ℕ → Parsed B)
    → (r >>= λ x. s x.0 x.1) ≡ mapped (λ (z : A × B). z.1) (r >>= λ x. mapped (λ b. (x.0, b)) (s x.0 x.1))
second_all (Ok x) s = second_one x.0 (s x.0 x.1)
second_all (Err e) s = refl

-- the value of the second
pub second_seen : {A B : Type 0} (r : List ℕ → Parsed A) (s : A → List ℕ → Parsed B) (b : List ℕ)
    → (r b >>= λ x. s x.0 x.1) ≡ seen (λ p. p.1) (pair r s) b
second_seen r s b = second_all (r b) s
