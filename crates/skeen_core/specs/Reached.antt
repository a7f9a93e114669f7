-- How far a group has got with each connection's requests, as it keeps that.
use Rattle.std.specs.FinMap.{FinMap, code}
use Rattle.std.specs.Ordering.{nat_cmp}
use Rattle.std.specs.Prelude.{ℕ, refl}
use Rattle.std.specs.Coded.{Coded, code_by, coded×, coded_ℕ}

-- by connection, the greatest number of a request that was delivered, and for how many more connections there is room
pub record ReachedView : Type 0 where
  pub numbers : FinMap nat_cmp ℕ
  pub room : ℕ

abbrev pub reached_code : Coded ReachedView
reached_code = code_by (FinMap nat_cmp ℕ × ℕ) (coded× (code coded_ℕ coded_ℕ) coded_ℕ) (λ r. (r.numbers, r.room))
    (λ p. record { numbers = p.0; room = p.1 }) (λ _. refl)
