-- How the lines of a trace's beginning are read.
use Rattle.std.proofs.Common.{◌≡◌, ℕ, ◌+◌, ◌≤◌, ◌==◌, Bool, false, List, [], ◌∷◌, ◌++◌, length}
use Rattle.std.proofs.Common.{arith, refl, ap, sym, ◌∙◌, codes, length-append}
use Rattle.std.specs.List.{flat_map, starts_with, AllByRecursion}
use Rattle.std.proofs.lemmas.List.{append_assoc, flat_map_more}
use Rattle.journal.specs.TraceText.{HasNoLf, ended}
use Rattle.journal.specs.TraceReading.{IsLine}
use Rattle.replay.specs.Beginning.{has_end}

-- so many whole lines are read, of which the last is an end or not
pub record AreRead (text rest : List ℕ) (count : ℕ) (is_end : Bool) : Type 0 where
  pub lines : List (List ℕ)
  pub split : text ≡ flat_map ended lines ++ rest
  pub no_lf : AllByRecursion HasNoLf lines
  pub counted : count ≡ length lines
  pub ends : is_end ≡ has_end lines
  pub few : count + length rest ≤ length text

pub none_read : (text : List ℕ) → AreRead text text 0 false
none_read text = record { lines = []; split = refl; no_lf = tt; counted = refl; ends = refl; few = omega arith }

pub all_more : {A : Type 0} (P : A → Type 0) (xs : List A) (x : A) → AllByRecursion P xs → P x → AllByRecursion P (xs ++ x ∷ [])
all_more P [] x all p = (p, tt)
all_more P (y ∷ ys) x all p = (all.0, all_more P ys x all.1 p)

pub last_tells : (lines : List (List ℕ)) (line : List ℕ) → has_end (lines ++ line ∷ []) ≡ starts_with (λ a b. a == b) line (codes "end ")
last_tells [] line = refl
last_tells (one ∷ []) line = refl
last_tells (one ∷ next ∷ lines) line = last_tells (next ∷ lines) line

pub one_read : (text rest line behind : List ℕ) (count : ℕ) (was_end is_end : Bool) → AreRead text rest count was_end
    → IsLine rest line behind → is_end ≡ starts_with (λ a b. a == b) line (codes "end ")
    → AreRead text behind (count + 1) is_end
one_read text rest line behind count was_end is_end r is e = record {
  lines = r.lines ++ line ∷ [];
  split = r.split ∙ ap (λ x. flat_map ended r.lines ++ x) is.split ∙ sym (append_assoc (flat_map ended r.lines) (ended line) behind)
      ∙ ap (λ x. x ++ behind) (flat_map_more ended [] r.lines line);
  no_lf = all_more HasNoLf r.lines line r.no_lf is.no_lf;
  counted = ap (λ n. n + 1) r.counted ∙ sym (length-append r.lines (line ∷ []));
  ends = e ∙ sym (last_tells r.lines line);
  few = omega (arith, r.few, ap length is.split, length-append (ended line) behind, length-append line (10 ∷ []));
}
