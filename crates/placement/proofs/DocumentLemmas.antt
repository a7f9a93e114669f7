-- What a document says, step by step of its reading.
use Rattle.std.proofs.Common.{◌≡◌, length, List, [], ◌∷◌, String, Global, refl, arith}
use Rattle.toml.specs.declared.value.Value.{Value}
use Rattle.toml.specs.View.{members_view}
use Rattle.placement.specs.Document.{size}

-- a table has as many keys as its map has entries
pub size-members_view : (es : List (String Global × Value)) → size (members_view es) ≡ length es
size-members_view [] = refl
size-members_view (e ∷ es) = omega (arith, size-members_view es)
