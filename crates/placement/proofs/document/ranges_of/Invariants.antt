use Rattle.std.proofs.Common.{◌≡◌, ◌++◌, drop, option_map, All}
use Rattle.toml.specs.View.{items_view}
use Rattle.placement.specs.Document.{IsRange, ranges_of}
use Rattle.placement.proofs.document.ranges_of.Given as goal

-- all ranges so far are ranges of slots; they, and those of the values to come, are the ranges of all values
abbrev pub invariant-loop-value : goal.invariant-loop-value
invariant-loop-value l =
    (ranges_of (items_view l.values) ≡ option_map (λ rest. l.ranges.items ++ rest) (ranges_of (items_view (drop l.value-index l.values))))
    × All IsRange l.ranges.items
