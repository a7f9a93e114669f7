-- The marks of a picture: of each receipt within the window a head and a disc, and of each delivery in it a diamond.
use Rattle.std.specs.Prelude.{ℕ, ◌+◌, ◌-◌, ◌*◌, ◌/◌, ◌==◌, cond, List, [], ◌∷◌, ◌++◌, codes, decimal, Option, Some, None}
use Rattle.std.specs.List.{concat, flat_map}
use Rattle.picture_shapes.specs.Frames.{line_of, shows, x_of}
use Rattle.picture_shapes.specs.Labels.{id_label, stamp_label}
use Rattle.picture_shapes.specs.Shapes.{ShapeView, coloured, diamond_form, head_form}
use Rattle.picture_shapes.specs.Ways.{carried, is_from_above}
use Rattle.picture_shapes.specs.declared.facts.DeliveryFacts.{DeliveryFacts}
use Rattle.picture_shapes.specs.declared.facts.PacketFacts.{PacketFacts}
use Rattle.picture_shapes.specs.declared.facts.ReceiptFacts.{ReceiptFacts}
use Rattle.picture_shapes.specs.declared.facts.RunFacts.{RunFacts}
use Rattle.picture_shapes.specs.declared.frame.Frame.{Frame}
use Rattle.picture_shapes.specs.declared.shape.Form.TheVariants.{Disc}

-- ---- receipts

-- a Start's disc is full, and a proposal's is not
abbrev pub disc_name : Option ℕ → List ℕ
disc_name None = codes "start"
disc_name (Some group) = codes "told"

abbrev pub receipt_title : ReceiptFacts → List ℕ
receipt_title r =
    concat (codes "step " ∷ decimal r.step ∷ codes ": " ∷ carried r.packet ∷ codes " comes to group " ∷ decimal r.packet.to
    ∷ codes "; clock " ∷ decimal r.clock ∷ [])

abbrev pub disc_mark : ℕ → ℕ → ReceiptFacts → ShapeView
disc_mark x y r = coloured (disc_name r.packet.from) r.packet.asked.number (Disc x y 5) (receipt_title r)

-- the packet's line comes from above or from below, and its head ends at the disc
abbrev pub head_mark : ℕ → ℕ → PacketFacts → ShapeView
head_mark x y p =
    coloured (codes "head") p.asked.number (cond (is_from_above p) (head_form x (y - 5) (y - 13)) (head_form x (y + 5) (y + 13))) []

-- they stand on the group's line
abbrev pub receipt_marks : Frame → ReceiptFacts → List ShapeView
receipt_marks f r =
    cond (shows f r.step)
    (head_mark (x_of f r.step) (line_of f r.packet.to) r.packet ∷ disc_mark (x_of f r.step) (line_of f r.packet.to) r ∷ [])
    []

-- ---- deliveries

-- how far below the first of those that a group delivers at a step the one at a place is: together they are 13 high
abbrev pub share_of : ℕ → ℕ → ℕ
share_of place last = cond (last == 0) 0 (place * 13 / last)

abbrev pub delivery_title : DeliveryFacts → List ℕ
delivery_title d =
    concat (codes "step " ∷ decimal d.step ∷ codes ": group " ∷ decimal d.group ∷ codes " delivers " ∷ id_label d.asked.id
    ∷ codes " " ∷ stamp_label d.stamp ∷ [])

abbrev pub delivery_marks : Frame → DeliveryFacts → List ShapeView
delivery_marks f d =
    cond (shows f d.step)
    (coloured (codes "done") d.asked.number (diamond_form (x_of f d.step) (line_of f d.group + 26 + share_of d.place d.last))
    (delivery_title d) ∷ [])
    []

-- ---- all of them

abbrev pub marks_of : Frame → RunFacts → List ShapeView
marks_of f run = flat_map (receipt_marks f) run.receipts.items ++ flat_map (delivery_marks f) run.deliveries.items
