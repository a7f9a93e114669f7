-- Reading one byte, a line's end, and so many bytes.
use Rattle.std.proofs.Common.{◌≡◌, ℕ, ◌-◌, ◌<◌, ◌≤◌, eqb, ltb, length, take, drop, replicate, List, [], ◌∷◌, ◌++◌, Result, Ok, Err, ◌⊎◌}
use Rattle.std.proofs.Common.{inl, inr, refl, sym, ap, subst, ◌∙◌, arith}
use Rattle.std.proofs.lemmas.Bool.{ltb-true, ltb-false, cond-true, cond-false, eq-eqb, cases_Bool}
use Rattle.std.proofs.lemmas.Bool.Decides.{eqb_tells}
use Rattle.std.proofs.lemmas.List.{map-append, take_at, drop_at, take-append-drop, length-append, length-take, length-replicate}
use Rattle.resp.specs.Text.{crlf}
use Rattle.resp_decoder.specs.declared.fault.Fault.{Fault}
use Rattle.resp_decoder.specs.declared.parsing.Stop.{Stop}
use Rattle.resp_decoder.specs.declared.parsing.Stop.TheVariants.{Open, Bad}
use Rattle.resp_decoder.specs.Texts.{bytes, mark, IsOpenIn, IsFaultIn}
use Rattle.resp_decoder.specs.Parsing.{NoValue, byte_at, line_at, some_at}
use Rattle.resp_decoder.proofs.Formats.{Reads, Both, both_marks, pair, seen, pair_reads, seen_reads, same_reads, second_seen, done, ok_is}
use Rattle.resp_decoder.proofs.Formats.{bytes-mark, one_fault_places}

abbrev pub Always : {A : Type 0} → A → Type 0
Always a = Unit {0}

-- ---- one byte

abbrev pub stopped : {A : Type 0} → Stop → Result A Stop
stopped stop = Err stop

byte_got : (byte : ℕ) (fault : Fault) (b : List ℕ) (x : NoValue × List ℕ) → byte_at byte fault b ≡ Ok x → Always x.0 × (b ≡ byte ∷ x.1)
unfolding byte_at
byte_got byte fault [] x e = absurd cc
byte_got byte fault (d ∷ ds) x e =
    elim (eqb_tells d byte) [
      | inl p ↦
          let rest : ds ≡ x.1 = ap (λ (w : NoValue × List ℕ). w.1)
          (ok_is (tt, ds) x (sym (cond-true (eqb d byte) (Ok (tt, ds)) (Err (Bad fault)) p.0) ∙ e)) in
          (tt, cc)
      | inr p ↦ let wrong : stopped (Bad fault) ≡ Ok x = sym (cond-false (eqb d byte) (Ok (tt, ds)) (Err (Bad fault)) p.0) ∙ e in absurd cc
    ]

byte_again : (byte : ℕ) (fault : Fault) (a : NoValue) → Always a → (rest : List ℕ) → byte_at byte fault (byte ∷ rest) ≡ Ok (a, rest)
unfolding byte_at
byte_again byte fault a h rest = cond-true (eqb byte byte) (Ok (tt, rest)) (Err (Bad fault)) (eq-eqb byte byte refl)

byte_part : (byte : ℕ) (fault : Fault) (b : List ℕ) → byte_at byte fault b ≡ Err Open
    → IsOpenIn {A = NoValue} Always (λ a. (byte, fault) ∷ []) b
unfolding byte_at
byte_part byte fault [] e = record { value = tt; holds = tt; before = []; next = (byte, fault); after = []; text = refl; split = refl }
byte_part byte fault (d ∷ ds) e =
    elim (eqb_tells d byte) [
      | inl p ↦ let wrong : done {A = NoValue × List ℕ} (tt, ds) ≡ Err Open =
          sym (cond-true (eqb d byte) (Ok (tt, ds)) (Err (Bad fault)) p.0) ∙ e in absurd cc
      | inr p ↦ let wrong : stopped {A = NoValue × List ℕ} (Bad fault) ≡ Err Open =
          sym (cond-false (eqb d byte) (Ok (tt, ds)) (Err (Bad fault)) p.0) ∙ e in absurd cc
    ]

byte_bad : (byte : ℕ) (fault : Fault) (b : List ℕ) (f : Fault) → byte_at byte fault b ≡ Err (Bad f)
    → IsFaultIn {A = NoValue} Always (λ a. (byte, fault) ∷ []) b f
unfolding byte_at
byte_bad byte fault [] f e = absurd cc
byte_bad byte fault (d ∷ ds) f e =
    elim (eqb_tells d byte) [
      | inl p ↦ let wrong : done {A = NoValue × List ℕ} (tt, ds) ≡ Err (Bad f) =
          sym (cond-true (eqb d byte) (Ok (tt, ds)) (Err (Bad fault)) p.0) ∙ e in absurd cc
      | inr p ↦
          let same : stopped {A = NoValue × List ℕ} (Bad fault) ≡ Err (Bad f) =
          sym (cond-false (eqb d byte) (Ok (tt, ds)) (Err (Bad fault)) p.0) ∙ e in
          let faults : fault ≡ f = cc in
          record {
            value = tt;
            holds = tt;
            before = [];
            byte = byte;
            after = [];
            text = ap (λ (g : Fault). (byte, g) ∷ []) faults;
            bad = d;
            more = ds;
            split = refl;
            none = λ other h tail e2. p.1 cc;
          }
    ]

pub byte_reads : (byte : ℕ) (fault : Fault) → Reads (byte_at byte fault) Always (λ a. (byte, fault) ∷ [])
byte_reads byte fault = record {
  got = byte_got byte fault;
  again = byte_again byte fault;
  part = byte_part byte fault;
  bad = byte_bad byte fault;
  places = one_fault_places Always fault (λ a. byte ∷ []);
}

-- ---- a line's end

line_seen : (fault : Fault) (b : List ℕ) → line_at fault b ≡ seen (λ p. p.1) (pair (byte_at 13 fault) (λ a. byte_at 10 fault)) b
unfolding line_at
line_seen fault b = second_seen (byte_at 13 fault) (λ a. byte_at 10 fault) b

pub line_reads : (fault : Fault) → Reads (line_at fault) Always (λ a. mark fault crlf)
line_reads fault =
    same_reads (seen (λ p. p.1) (pair (byte_at 13 fault) (λ a. byte_at 10 fault))) (line_at fault) Always (λ a. mark fault crlf)
    (seen_reads (pair (byte_at 13 fault) (λ a. byte_at 10 fault)) (Both Always (λ a. Always))
    (both_marks (λ a. (13, fault) ∷ []) (λ a b. (10, fault) ∷ [])) (λ p. p.1) Always (λ a. mark fault crlf)
    (pair_reads (byte_at 13 fault) Always (λ a. (13, fault) ∷ []) (λ a. byte_at 10 fault) (λ a. Always) (λ a b. (10, fault) ∷ [])
    (byte_reads 13 fault) (λ a h. byte_reads 10 fault) (λ a h. (tt, tt)))
    (λ a h. (tt, refl)) (λ c h. ((tt, tt), (tt, tt), refl)))
    (line_seen fault)

-- ---- so many bytes

abbrev pub HasLength : ℕ → List ℕ → Type 0
HasLength n word = length word ≡ n

some_cases : (n : ℕ) (b : List ℕ) → ((length b < n) × (some_at n b ≡ Err Open)) ⊎ ((n ≤ length b) × (some_at n b ≡ Ok (take n b, drop n b)))
unfolding some_at
some_cases n b =
    elim (cases_Bool (ltb (length b) n)) [
      | inl short ↦ inl (ltb-true (length b) n short, cond-true (ltb (length b) n) (Err Open) (Ok (take n b, drop n b)) short)
      | inr long ↦ inr (ltb-false (length b) n long, cond-false (ltb (length b) n) (Err Open) (Ok (take n b, drop n b)) long)
    ]

some_got : (n : ℕ) (fault : Fault) (b : List ℕ) (x : List ℕ × List ℕ) → some_at n b ≡ Ok x → HasLength n x.0
    × (b ≡ bytes (mark fault x.0) ++ x.1)
some_got n fault b x e =
    elim (some_cases n b) [
      | inl p ↦ let wrong : stopped Open ≡ Ok x = sym p.1 ∙ e in absurd cc
      | inr p ↦
          let len : length (take n b) ≡ n = omega (arith, length-take n b) in
          subst (λ (w : List ℕ × List ℕ). HasLength n w.0 × (b ≡ bytes (mark fault w.0) ++ w.1))
          (ok_is (take n b, drop n b) x (sym p.1 ∙ e))
          (len, sym (ap (λ (t : List ℕ). t ++ drop n b) (bytes-mark fault (take n b)) ∙ take-append-drop n b))
    ]

some_again : (n : ℕ) (fault : Fault) (a : List ℕ) → HasLength n a → (rest : List ℕ)
    → some_at n (bytes (mark fault a) ++ rest) ≡ Ok (a, rest)
some_again n fault a h rest =
    let whole : bytes (mark fault a) ++ rest ≡ a ++ rest = ap (λ (t : List ℕ). t ++ rest) (bytes-mark fault a) in
    ap (some_at n) whole ∙ elim (some_cases n (a ++ rest)) [
      | inl p ↦ absurd (omega (arith, length-append a rest, h, p.0))
      | inr p ↦ p.1 ∙ rw (take_at a rest n h, drop_at a rest n h) refl
    ]

some_part : (n : ℕ) (fault : Fault) (b : List ℕ) → some_at n b ≡ Err Open → IsOpenIn (HasLength n) (mark fault) b
some_part n fault b e =
    elim (some_cases n b) [
      | inl p ↦
          let lack = n - length b - 1 in
          record {
            value = b ++ 0 ∷ replicate lack 0;
            holds = omega (arith, length-append b (0 ∷ replicate lack 0), length-replicate {A = ℕ} lack 0, p.0);
            before = mark fault b;
            next = (0, fault);
            after = mark fault (replicate lack 0);
            text = map-append (λ (c : ℕ). (c, fault)) b (0 ∷ replicate lack 0);
            split = sym (bytes-mark fault b);
          }
      | inr p ↦ let wrong : done {A = List ℕ × List ℕ} (take n b, drop n b) ≡ Err Open = sym p.1 ∙ e in absurd cc
    ]

some_bad : (n : ℕ) (fault : Fault) (b : List ℕ) (f : Fault) → some_at n b ≡ Err (Bad f) → IsFaultIn (HasLength n) (mark fault) b f
some_bad n fault b f e =
    elim (some_cases n b) [
      | inl p ↦ let wrong : stopped {A = List ℕ × List ℕ} Open ≡ Err (Bad f) = sym p.1 ∙ e in absurd cc
      | inr p ↦ let wrong : done {A = List ℕ × List ℕ} (take n b, drop n b) ≡ Err (Bad f) = sym p.1 ∙ e in absurd cc
    ]

pub some_reads : (n : ℕ) (fault : Fault) → Reads (some_at n) (HasLength n) (mark fault)
some_reads n fault = record {
  got = some_got n fault;
  again = some_again n fault;
  part = some_part n fault;
  bad = some_bad n fault;
  places = one_fault_places (HasLength n) fault (λ a. a);
}
