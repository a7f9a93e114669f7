-- The way of a packet: from where it is sent to its group, or to the right edge.
use Rattle.std.specs.Prelude.{ℕ, ◌+◌, ◌-◌, ◌||◌, nat_lt, cond, Bool, true}
use Rattle.std.specs.Prelude.{List, [], ◌∷◌, codes, decimal, Option, Some, None, is_none}
use Rattle.std.specs.List.{concat}
use Rattle.picture_shapes.specs.Frames.{line_of, shows_some, x_of, x_or_end}
use Rattle.picture_shapes.specs.Labels.{id_label, stamp_label}
use Rattle.picture_shapes.specs.declared.facts.PacketFacts.{PacketFacts}
use Rattle.picture_shapes.specs.declared.frame.Frame.{Frame}
use Rattle.picture_shapes.specs.declared.shape.Path.{Path}
use Rattle.picture_shapes.specs.declared.shape.Path.TheVariants.{Two, Three, Four}
use Rattle.picture_shapes.specs.declared.shape.Point.{Point}

-- ---- its points

abbrev pub source_at : Frame → Option ℕ → ℕ
source_at f None = f.gate
source_at f (Some group) = line_of f group

-- the line that it comes from: a group's, or that between connections and groups
abbrev pub source_of : Frame → PacketFacts → ℕ
source_of f p = source_at f p.from

abbrev pub is_above : Option ℕ → ℕ → Bool
is_above None to = true
is_above (Some from) to = nat_lt from to

abbrev pub is_from_above : PacketFacts → Bool
is_from_above p = is_above p.from p.to

-- where a proposal that is sent within the window leaves the line that it comes from
abbrev pub leaving : Frame → PacketFacts → Option Point
leaving f p =
    cond (is_none p.from || nat_lt p.sent f.from) None
    (Some (record { x = x_of f p.sent; y = cond (is_from_above p) (source_of f p + 18) (source_of f p - 18) }))

-- where a packet that is received within the window comes to its group
abbrev pub coming : Frame → PacketFacts → Option Point
coming f p =
    cond (shows_some f p.received)
    (Some (record { x = x_or_end f p.received; y = cond (is_from_above p) (line_of f p.to - 18) (line_of f p.to + 18) })) None

abbrev pub path_through : Point → Option Point → Option Point → Point → Path
path_through first None None last = Two first last
path_through first (Some second) None last = Three first second last
path_through first None (Some third) last = Three first third last
path_through first (Some second) (Some third) last = Four first second third last

-- from the step at which it is sent, or the left edge, to that at which it is received, or the right edge
abbrev pub way_of : Frame → PacketFacts → Path
way_of f p =
    path_through (record { x = x_of f p.sent; y = source_of f p }) (leaving f p) (coming f p)
    (record { x = x_or_end f p.received; y = line_of f p.to })

-- ---- its words

abbrev pub carried_by : Option ℕ → PacketFacts → List ℕ
carried_by None p = concat (codes "Start of " ∷ id_label p.asked.id ∷ codes ", floor " ∷ decimal p.clock ∷ codes "," ∷ [])
carried_by (Some group) p =
    concat (codes "proposal " ∷ stamp_label (record { clock = p.clock; group = group }) ∷ codes " for " ∷ id_label p.asked.id ∷ [])

-- what it carries
abbrev pub carried : PacketFacts → List ℕ
carried p = carried_by p.from p

abbrev pub receipt_said : Option ℕ → List ℕ
receipt_said None = concat (codes ", under way" ∷ [])
receipt_said (Some step) = concat (codes ", received at step " ∷ decimal step ∷ [])

-- what is said of it
abbrev pub packet_title : PacketFacts → List ℕ
packet_title p =
    concat (carried p ∷ codes " to group " ∷ decimal p.to ∷ codes ", sent at step " ∷ decimal p.sent ∷ receipt_said p.received ∷ [])
