-- What a keyspace ends as, once a value that it lent has come back.
use Rattle.std.specs.Prelude.{◌≡◌, ℕ, List, Option}
use Rattle.std.specs.Borrow.{Fml, RattleType, MutBor, LendsSo}
use Rattle.std.specs.FinMap.{insert}
use Rattle.std.specs.Option.{OnSome}
use Rattle.keyspace.specs.Map.{Map}
use Rattle.values.specs.declared.Value.{Value}
use Rattle.values.specs.contracts.Value.{the_row}

-- the key has the last value behind the loan `r`, and all else is as it was; so is everything where nothing was lent
abbrev pub lends_value : (K : RattleType) → (K.Denot → Map) → MutBor K.Denot → List ℕ
    → Option (MutBor Value) → Fml
lends_value K contents s key r =
    LendsSo K the_row s r
    (λ n w. OnSome r (contents n ≡ insert (contents s.now) key w))
    (λ n. contents n ≡ contents s.now)
