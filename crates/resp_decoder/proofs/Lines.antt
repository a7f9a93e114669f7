-- Reading the line of a count or a length, as its digits: what byte may come next is a matter of where the line is.
use Rattle.std.proofs.Common.{◌≡◌, ℕ, ◌+◌, ◌-◌, ◌*◌, Bool, true, false, eqb, ltb, leb, ◌&&◌, cond, List, [], ◌∷◌, ◌++◌, Option, Some, None}
use Rattle.std.proofs.Common.{Ok, Err, ◌⊎◌, inl, inr, refl, sym, ap, subst, ◌∙◌, arith}
use Rattle.std.specs.Prelude.{MatchOption}
use Rattle.std.proofs.lemmas.Bool.{le-leb, and_right, cond-false}
use Rattle.resp.specs.Text.{crlf}
use Rattle.resp_decoder.specs.declared.fault.Fault.{Fault}
use Rattle.resp_decoder.specs.declared.fault.Fault.TheVariants.{BadLength}
use Rattle.resp_decoder.specs.declared.parsing.Stop.TheVariants.{Open, Bad}
use Rattle.resp_decoder.specs.Texts.{Marked, bytes, mark, IsOpenIn, IsFaultIn}
use Rattle.resp_decoder.specs.Parsing.{Parsed, line_at, is_more, is_first}
use Rattle.resp_decoder.proofs.Formats.{Reads, mapped, ok_is, bind_ok, bind_err, one_fault_places}
use Rattle.resp_decoder.proofs.Bytes.{stopped, line_reads}

-- where a line is: before a count or a length, behind `-` or `-1`, or behind the digits of a number
pub data Place : Type 0 where
  AtCount : Place
  AtLength : Place
  Minus : Place
  MinusOne : Place
  Digits : (n : ℕ) → Place

abbrev pub first_step : ℕ → ℕ → Option Place
first_step max b = cond (is_first max b) (Some (Digits (b - 48))) None

-- where one more byte of the line leads, if it may come
abbrev pub step : ℕ → Place → ℕ → Option Place
step max AtCount b = cond (eqb b 45) (Some Minus) (first_step max b)
step max AtLength b = first_step max b
step max Minus b = cond (eqb b 49) (Some MinusOne) None
step max MinusOne b = None
step max (Digits n) b = cond (is_more max n b) (Some (Digits (n * 10 + (b - 48)))) None

-- whether the line may end
abbrev pub final : Place → Bool
final AtCount = false
final AtLength = false
final Minus = false
final MinusOne = true
final (Digits n) = true

abbrev pub ended : Bool → List ℕ → Parsed (List ℕ)
ended true b = mapped (λ e. []) (line_at BadLength b)
ended false b = Err (Bad BadLength)

-- the bytes of the line, up to its end
unfoldable pub line_on : ℕ → Place → List ℕ → Parsed (List ℕ)
line_on max s [] = Err Open
line_on max s (b ∷ bs) = elim (step max s b) [ Some t ↦ mapped (λ ds. b ∷ ds) (line_on max t bs) | None ↦ ended (final s) (b ∷ bs) ]

-- the bytes of a whole line
unfoldable pub IsPath : ℕ → Place → List ℕ → Type 0
IsPath max s [] = final s ≡ true
IsPath max s (d ∷ ds) = MatchOption (step max s d) ⊥ (λ t. IsPath max t ds)

abbrev pub line_marks : List ℕ → Marked
line_marks ds = mark BadLength (ds ++ crlf)

-- ---- what the definitions say at a step

pub step_cases : (o : Option Place) → (o ≡ None) ⊎ ((t : Place) × (o ≡ Some t))
step_cases None = inl refl
step_cases (Some t) = inr (t, refl)

pub line_some : (max : ℕ) (s : Place) (b : ℕ) (bs : List ℕ) (t : Place) → step max s b ≡ Some t
    → line_on max s (b ∷ bs) ≡ mapped (λ ds. b ∷ ds) (line_on max t bs)
unfolding line_on
line_some max s b bs t e =
    ap (λ (o : Option Place). elim o as (λ q. Parsed (List ℕ)) [
      | Some u ↦ mapped (λ ds. b ∷ ds) (line_on max u bs)
      | None ↦ ended (final s) (b ∷ bs)
    ]) e

pub line_none : (max : ℕ) (s : Place) (b : ℕ) (bs : List ℕ) → step max s b ≡ None → line_on max s (b ∷ bs) ≡ ended (final s) (b ∷ bs)
unfolding line_on
line_none max s b bs e =
    ap (λ (o : Option Place). elim o as (λ q. Parsed (List ℕ)) [
      | Some t ↦ mapped (λ ds. b ∷ ds) (line_on max t bs)
      | None ↦ ended (final s) (b ∷ bs)
    ]) e

pub path_some : (max : ℕ) (s : Place) (d : ℕ) (ds : List ℕ) (t : Place) → step max s d ≡ Some t → IsPath max t ds → IsPath max s (d ∷ ds)
unfolding IsPath
path_some max s d ds t e path = rw e path

pub path_back : (max : ℕ) (s : Place) (d : ℕ) (ds : List ℕ) → IsPath max s (d ∷ ds) → (t : Place) × (step max s d ≡ Some t)
    × IsPath max t ds
unfolding IsPath
path_back max s d ds path =
    elim (step_cases (step max s d)) [ inl e ↦ absurd (rw e at path) | inr p ↦ (p.0, p.1, rw p.1 at path) ]

pub path_end : (max : ℕ) (s : Place) → final s ≡ true → IsPath max s []
unfolding IsPath
path_end max s e = e

pub end_final : (max : ℕ) (s : Place) → IsPath max s [] → final s ≡ true
unfolding IsPath
end_final max s path = path

no_return : (max : ℕ) (s : Place) → step max s 13 ≡ None
no_return max AtCount = refl
no_return max AtLength = refl
no_return max Minus = refl
no_return max MinusOne = refl
no_return max (Digits n) =
    cond-false (is_more max n 13) (Some (Digits (n * 10 + (13 - 48)))) None
    (and_right (ltb 0 n) (leb 48 13 && (leb 13 57 && leb (n * 10 + (13 - 48)) max)) refl)

-- each line can be ended
alive : (max : ℕ) (s : Place) → (ds : List ℕ) × IsPath max s ds
alive max AtCount = (48 ∷ [], path_some max AtCount 48 [] (Digits 0) (rw (le-leb 0 max (omega arith)) refl) (path_end max (Digits 0) refl))
alive max AtLength = (
  48 ∷ [],
  path_some max AtLength 48 [] (Digits 0) (rw (le-leb 0 max (omega arith)) refl) (path_end max (Digits 0) refl),
)
alive max Minus = (49 ∷ [], path_some max Minus 49 [] MinusOne refl (path_end max MinusOne refl))
alive max MinusOne = ([], path_end max MinusOne refl)
alive max (Digits n) = ([], path_end max (Digits n) refl)

-- ---- the laws

ended_cases : (b : Bool) (bs : List ℕ) → ((b ≡ true) × (ended b bs ≡ mapped (λ e. []) (line_at BadLength bs)))
    ⊎ ((b ≡ false) × (ended b bs ≡ Err (Bad BadLength)))
ended_cases true bs = inl (refl, refl)
ended_cases false bs = inr (refl, refl)

first_mark : (ds : List ℕ) → (b : ℕ) × (after : Marked) × (line_marks ds ≡ (b, BadLength) ∷ after)
first_mark [] = (13, mark BadLength (10 ∷ []), refl)
first_mark (d ∷ ds) = (d, line_marks ds, refl)

same_head : (before : List ℕ) (bad : ℕ) (more tail : List ℕ) (d : ℕ) (ds : List ℕ) (d' : ℕ) (ds' : List ℕ) → d ∷ ds ≡ before ++ bad ∷ more
    → d' ∷ ds' ≡ before ++ bad ∷ tail → d ≡ d'
same_head [] bad more tail d ds d' ds' e e' = cc
same_head (b ∷ before) bad more tail d ds d' ds' e e' = cc

line_got : (max : ℕ) (s : Place) (b : List ℕ) (x : List ℕ × List ℕ) → line_on max s b ≡ Ok x → IsPath max s x.0
    × (b ≡ bytes (line_marks x.0) ++ x.1)
unfolding line_on
line_got max s [] x e = absurd cc
line_got max s (d ∷ ds) x e =
    elim (step_cases (step max s d)) [
      | inl none ↦
          let e1 : ended (final s) (d ∷ ds) ≡ Ok x = sym (line_none max s d ds none) ∙ e in
          elim (ended_cases (final s) (d ∷ ds)) [
            | inl f ↦
                let y = bind_ok (line_at BadLength (d ∷ ds)) (λ z. Ok ([], z.1)) x (sym f.1 ∙ e1) in
                let g = (line_reads BadLength).got (d ∷ ds) y.0 y.1 in
                subst (λ (w : List ℕ × List ℕ). IsPath max s w.0 × (d ∷ ds ≡ bytes (line_marks w.0) ++ w.1)) (ok_is ([], y.0.1) x y.2)
                (path_end max s f.0, g.1)
            | inr f ↦ let wrong : stopped {A = List ℕ × List ℕ} (Bad BadLength) ≡ Ok x = sym f.1 ∙ e1 in absurd cc
          ]
      | inr p ↦
          let t = p.0 in
          let y = bind_ok (line_on max t ds) (λ z. Ok (d ∷ z.0, z.1)) x (sym (line_some max s d ds t p.1) ∙ e) in
          let g = line_got max t ds y.0 y.1 in
          subst (λ (w : List ℕ × List ℕ). IsPath max s w.0 × (d ∷ ds ≡ bytes (line_marks w.0) ++ w.1)) (ok_is (d ∷ y.0.0, y.0.1) x y.2)
          (path_some max s d y.0.0 t p.1 g.0, ap (λ (w : List ℕ). d ∷ w) g.1)
    ]

line_again : (max : ℕ) (s : Place) (ds : List ℕ) → IsPath max s ds → (rest : List ℕ) → line_on max s (bytes (line_marks ds) ++ rest)
    ≡ Ok (ds, rest)
line_again max s [] path rest =
    line_none max s 13 (10 ∷ rest) (no_return max s) ∙ ap (λ (f : Bool). ended f (13 ∷ 10 ∷ rest)) (end_final max s path)
    ∙ ap (mapped (λ e. [])) ((line_reads BadLength).again tt tt rest)
line_again max s (d ∷ ds) path rest =
    let p = path_back max s d ds path in
    line_some max s d (bytes (line_marks ds) ++ rest) p.0 p.1 ∙ ap (mapped (λ w. d ∷ w)) (line_again max p.0 ds p.2 rest)

line_part : (max : ℕ) (s : Place) (b : List ℕ) → line_on max s b ≡ Err Open → IsOpenIn (IsPath max s) line_marks b
line_part max s [] e =
    let a = alive max s in
    let m = first_mark a.0 in
    record { value = a.0; holds = a.1; before = []; next = (m.0, BadLength); after = m.1; text = m.2; split = refl }
line_part max s (d ∷ ds) e =
    elim (step_cases (step max s d)) [
      | inl none ↦
          let e1 : ended (final s) (d ∷ ds) ≡ Err Open = sym (line_none max s d ds none) ∙ e in
          elim (ended_cases (final s) (d ∷ ds)) [
            | inl f ↦
                elim (bind_err (line_at BadLength (d ∷ ds)) (λ z. Ok ([], z.1)) Open (sym f.1 ∙ e1)) [
                  | inl h ↦
                      let o = (line_reads BadLength).part (d ∷ ds) h in
                      record {
                        value = [];
                        holds = path_end max s f.0;
                        before = o.before;
                        next = o.next;
                        after = o.after;
                        text = o.text;
                        split = o.split;
                      }
                  | inr h ↦ absurd cc
                ]
            | inr f ↦ let wrong : stopped {A = List ℕ × List ℕ} (Bad BadLength) ≡ Err Open = sym f.1 ∙ e1 in absurd cc
          ]
      | inr p ↦
          let t = p.0 in
          elim (bind_err (line_on max t ds) (λ z. Ok (d ∷ z.0, z.1)) Open (sym (line_some max s d ds t p.1) ∙ e)) [
            | inl h ↦
                let o = line_part max t ds h in
                record {
                  value = d ∷ o.value;
                  holds = path_some max s d o.value t p.1 o.holds;
                  before = (d, BadLength) ∷ o.before;
                  next = o.next;
                  after = o.after;
                  text = ap (λ (w : Marked). (d, BadLength) ∷ w) o.text;
                  split = ap (λ (w : List ℕ). d ∷ w) o.split;
                }
            | inr h ↦ absurd cc
          ]
    ]

line_bad : (max : ℕ) (s : Place) (b : List ℕ) (fault : Fault) → line_on max s b ≡ Err (Bad fault)
    → IsFaultIn (IsPath max s) line_marks b fault
unfolding line_on
line_bad max s [] fault e = absurd cc
line_bad max s (d ∷ ds) fault e =
    elim (step_cases (step max s d)) [
      | inl none ↦
          let e1 : ended (final s) (d ∷ ds) ≡ Err (Bad fault) = sym (line_none max s d ds none) ∙ e in
          let no_step = λ (d' : ℕ) (ds' : List ℕ) (path : IsPath max s (d' ∷ ds')) (same : d ≡ d').
          let p = path_back max s d' ds' path in
          let wrong : None ≡ Some p.0 = sym none ∙ ap (step max s) same ∙ p.1 in
          absurd {A = ⊥} cc in
          elim (ended_cases (final s) (d ∷ ds)) [
            | inl f ↦
                elim (bind_err (line_at BadLength (d ∷ ds)) (λ z. Ok ([], z.1)) (Bad fault) (sym f.1 ∙ e1)) [
                  | inl h ↦
                      let o = (line_reads BadLength).bad (d ∷ ds) fault h in
                      record {
                        value = [];
                        holds = path_end max s f.0;
                        before = o.before;
                        byte = o.byte;
                        after = o.after;
                        text = o.text;
                        bad = o.bad;
                        more = o.more;
                        split = o.split;
                        none = λ other path tail same.
                            elim other as (λ w. IsPath max s w → bytes (line_marks w) ≡ bytes o.before ++ o.bad ∷ tail → ⊥) [
                              | [] ↦ λ q same2. o.none tt tt tail same2
                              | d' ∷ ds' ↦ λ q same2. no_step d' ds' q
                                  (same_head (bytes o.before) o.bad o.more tail d ds d' (bytes (line_marks ds')) o.split same2)
                            ] path same;
                      }
                  | inr h ↦ absurd cc
                ]
            | inr f ↦
                let same_fault : stopped {A = List ℕ × List ℕ} (Bad BadLength) ≡ Err (Bad fault) = sym f.1 ∙ e1 in
                let is_bad_length : BadLength ≡ fault = cc in
                let a = alive max s in
                let m = first_mark a.0 in
                record {
                  value = a.0;
                  holds = a.1;
                  before = [];
                  byte = m.0;
                  after = m.1;
                  text = m.2 ∙ ap (λ (g : Fault). (m.0, g) ∷ m.1) is_bad_length;
                  bad = d;
                  more = ds;
                  split = refl;
                  none = λ other path tail same.
                      elim other as (λ w. IsPath max s w → bytes (line_marks w) ≡ d ∷ tail → ⊥) [
                        | [] ↦ λ q same2. let open_line = end_final max s q in absurd cc
                        | d' ∷ ds' ↦ λ q same2. no_step d' ds' q cc
                      ] path same;
                }
          ]
      | inr p ↦
          let t = p.0 in
          elim (bind_err (line_on max t ds) (λ z. Ok (d ∷ z.0, z.1)) (Bad fault) (sym (line_some max s d ds t p.1) ∙ e)) [
            | inl h ↦
                let o = line_bad max t ds fault h in
                record {
                  value = d ∷ o.value;
                  holds = path_some max s d o.value t p.1 o.holds;
                  before = (d, BadLength) ∷ o.before;
                  byte = o.byte;
                  after = o.after;
                  text = ap (λ (w : Marked). (d, BadLength) ∷ w) o.text;
                  bad = o.bad;
                  more = o.more;
                  split = ap (λ (w : List ℕ). d ∷ w) o.split;
                  none = λ other path tail same.
                      elim other as (λ w. IsPath max s w → bytes (line_marks w) ≡ d ∷ (bytes o.before ++ o.bad ∷ tail) → ⊥) [
                        | [] ↦ λ q same2.
                            let is_return : 13 ≡ d = cc in
                            let none_left = sym (no_return max s) ∙ ap (step max s) is_return ∙ p.1 in
                            absurd {A = ⊥} cc
                        | d' ∷ ds' ↦ λ q same2.
                            let head : d' ≡ d = cc in
                            let back = path_back max s d' ds' q in
                            let same_place : Some back.0 ≡ Some t = sym back.1 ∙ ap (step max s) head ∙ p.1 in
                            let same_t : back.0 ≡ t = cc in
                            o.none ds' (subst (λ (w : Place). IsPath max w ds') same_t back.2) tail cc
                      ] path same;
                }
            | inr h ↦ absurd cc
          ]
    ]

pub lines_read : (max : ℕ) (s : Place) → Reads (line_on max s) (IsPath max s) line_marks
lines_read max s = record {
  got = line_got max s;
  again = line_again max s;
  part = line_part max s;
  bad = line_bad max s;
  places = one_fault_places (IsPath max s) BadLength (λ ds. ds ++ crlf);
}
