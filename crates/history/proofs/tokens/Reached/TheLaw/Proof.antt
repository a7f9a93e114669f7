-- A `&` to it holds what it knows, which can be had twice. Assumes `Logic`.
use base.Logic.{snd∗}
use base.Before.{before}
use types.Logic.{sem}
use denote.RattleType.{RattleType}
use denote.Param.Laws.{Laws}
use denote.Param.Shared.{copy_shared}
use denote.Struct.Laws.{field_copy}
use denote.Struct.Lending.{of_Lends}
use Rattle.std.specs.contracts.marker.PhantomData as marker
use Rattle.history.specs.Kept.{reached_owns}
use Rattle.history.specs.contracts.tokens.Reached as Reached
use Rattle.history.proofs.Steps.{twice}
use Rattle.history.proofs.Walks.{lends_twice}
use Rattle.history.proofs.tokens.Reached.TheLaw.Statement.{statement}

pub shares : (E : RattleType) (L : Laws E) → statement E L
shares E L =
    of_Lends (Reached.struct E) (Reached.the_codes E.Denot E.coded (marker.the_row E).coded) (Reached.the_heap E) (Reached.the_lent E)
    (λ d p. record {
      contraction = λ M 𝓤 𝓛 κ. twice 𝓛 E.coded d.name d.list;
      mono = λ M 𝓤 𝓛 κ' κ. snd∗ 𝓤 (sem 𝓛 (before κ' κ)) (sem 𝓛 (reached_owns E.coded.code d.name d.list));
    })
    (copy_shared (marker.the_field E) (field_copy (marker.the_type E) tt), tt)
    (λ M 𝓤 𝓛 d p. lends_twice 𝓛 (reached_owns E.coded.code d.name d.list) (twice 𝓛 E.coded d.name d.list) (Reached.the_row E).lives)
