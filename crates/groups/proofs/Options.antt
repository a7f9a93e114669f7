-- What an option is.
use Rattle.std.proofs.Common.{◌≡◌, Some}

pub some_same : {X : Type 0} (x y : X) → Some x ≡ Some y → x ≡ y
some_same x y e = cc
