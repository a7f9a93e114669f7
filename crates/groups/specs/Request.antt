-- Requests by their ids, and the sources of proposals.
use Rattle.std.specs.Prelude.{ℕ, Bool, ◌==◌, ◌&&◌}
use Rattle.std.specs.Ordering.{nat_cmp, on, then_cmp}
use Rattle.std.specs.declared.cmp.Ordering.{Ordering}
use Rattle.groups.specs.declared.request.RequestId.{RequestId}

abbrev pub same_id : RequestId → RequestId → Bool
same_id i j = i.conn.0 == j.conn.0 && i.seq == j.seq

abbrev pub id_cmp : RequestId → RequestId → Ordering
id_cmp = then_cmp (on (λ i. i.conn.0) nat_cmp) (on (λ i. i.seq) nat_cmp)

-- a request, and a group that proposes a stamp for it
pub record Source : Type 0 where
  pub id : RequestId
  pub from : ℕ

abbrev pub source_cmp : Source → Source → Ordering
source_cmp = then_cmp (on (λ s. s.id) id_cmp) (on (λ s. s.from) nat_cmp)
