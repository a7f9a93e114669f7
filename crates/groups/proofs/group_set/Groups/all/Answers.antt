use Rattle.std.proofs.Common.{◌-◌, ℕ, ap, ◌∙◌, arith}
use Rattle.std.proofs.lemmas.Nat.{one_shl}
use Rattle.groups.specs.Bits.{ones_of}
use Rattle.groups.specs.BitLaws.{ones_of-first}
use Rattle.groups.proofs.group_set.Groups.all.Goals as goal

pub returns-then-count-eq64 : goal.returns-then-count-eq64
returns-then-count-eq64 c = rw c.if-count-eq64.true (ones_of-first 64 (omega arith))

pub returns-else-count-eq64 : goal.returns-else-count-eq64
returns-else-count-eq64 c =
    ap (λ (n : ℕ). ones_of (n - 1)) (one_shl c.args.count 64 (omega (arith, c.if-count-eq64.false)))
    ∙ ones_of-first c.args.count c.requires
