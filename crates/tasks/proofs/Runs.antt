-- Members run in turn: one more behind the others, and the keys that those that are left have.
use Rattle.std.proofs.Common.{◌≡◌, ℕ, zero, suc, ◌+◌, ◌<◌, List, [], ◌∷◌, ◌++◌, All, length, arith}
use Rattle.std.proofs.Common.{ap, refl, subst, sym, ◌∙◌, append_assoc, length-append}
use Rattle.keyspace.specs.Map.{Map}
use Rattle.resp.specs.Content.{Content}
use Rattle.sessions.specs.declared.member.Member.{Member}
use Rattle.tasks.specs.Batch.{RunsFrom}
use Rattle.tasks.specs.Member.{Fares}
use Rattle.tasks.specs.Starved.{has}

pub runs-push : (takes : Member → Map → Type 0) (skip : List ℕ) (n k : ℕ) (old mid new : Map) (done : List Member) (replies : List Content) (member : Member)
    (reply : Content) → k ≡ n + length replies → RunsFrom takes skip n old done replies mid → Fares takes (has skip k) member mid new reply
    → RunsFrom takes skip n old (done ++ member ∷ []) (replies ++ reply ∷ []) new
runs-push takes skip n k old mid new [] [] member reply at run fares = (
  new,
  subst (λ m. Fares takes (has skip n) member m new reply) run
      (subst (λ i. Fares takes (has skip i) member mid new reply) (let here : k ≡ n = omega (arith, at) in here) fares),
  refl,
)
runs-push takes skip n k old mid new [] (r ∷ replies) member reply at run fares = absurd run
runs-push takes skip n k old mid new (d ∷ done) [] member reply at run fares = absurd run
runs-push takes skip n k old mid new (d ∷ done) (r ∷ replies) member reply at run fares =
    (run.0, run.1, runs-push takes skip (suc n) k run.0 mid new done replies member reply (omega (arith, at)) run.2 fares)

-- what holds of all elements of two lists holds of those of each
pub all-left : {A : Type 0} (P : A → Type 0) (xs ys : List A) → All P (xs ++ ys) → All P xs
all-left P [] ys all i d within = absurd (omega (arith, within))
all-left P (x ∷ xs) ys all zero d within = all zero d (omega arith)
all-left P (x ∷ xs) ys all (suc i) d within = all-left P xs ys (λ j e less. all (suc j) e (omega (arith, less))) i d (omega (arith, within))

pub all-right : {A : Type 0} (P : A → Type 0) (xs ys : List A) → All P (xs ++ ys) → All P ys
all-right P [] ys all = all
all-right P (x ∷ xs) ys all = all-right P xs ys (λ j e less. all (suc j) e (omega (arith, less)))

-- one of those that are left is taken
pub taken-push : {A : Type 0} (all done : List A) (a : A) (left others : List A)
    → left ≡ a ∷ others → all ≡ done ++ left → all ≡ (done ++ a ∷ []) ++ others
taken-push all done a left others first split = split ∙ ap (λ l. done ++ l) first ∙ sym (append_assoc done (a ∷ []) others)

pub next_within : {A : Type 0} (all done : List A) (a : A) (left others : List A)
    → left ≡ a ∷ others → all ≡ done ++ left → length done < length all
next_within all done a left others first split =
    omega (arith, ap length split, length-append done left, ap length first)
