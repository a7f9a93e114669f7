-- The arrows of a picture: the line of each request that goes to its groups within the window, the way of each reply that
-- goes to its connection in it, and the line of each packet that is under way in it, each once.
use Rattle.std.specs.Prelude.{ℕ, ◌+◌, ◌||◌, not, nat_le, cond, List, [], ◌∷◌, ◌++◌, codes, Option, Some, None}
use Rattle.std.specs.List.{flat_map}
use Rattle.picture_shapes.specs.Frames.{is_at, is_past, row_of, shows, strip_of, x_of}
use Rattle.picture_shapes.specs.Shapes.{ShapeView, coloured, line_form}
use Rattle.picture_shapes.specs.Ways.{packet_title, way_of}
use Rattle.picture_shapes.specs.declared.facts.PacketFacts.{PacketFacts}
use Rattle.picture_shapes.specs.declared.facts.ReplyFacts.{ReplyFacts}
use Rattle.picture_shapes.specs.declared.facts.RequestFacts.{RequestFacts}
use Rattle.picture_shapes.specs.declared.facts.RunFacts.{RunFacts}
use Rattle.picture_shapes.specs.declared.frame.Frame.{Frame}
use Rattle.picture_shapes.specs.declared.shape.Form.TheVariants.{Line}

-- ---- requests

-- a line from the row of its connection, if that is drawn, down to where the groups begin
abbrev pub drop_from : Frame → RequestFacts → Option ℕ → List ShapeView
drop_from f r None = []
drop_from f r (Some row) =
    coloured (codes "drop") r.asked.number (line_form (x_of f r.submit) (row + 24) (x_of f r.submit) f.gate) [] ∷ []

-- one that its own Submit answers goes to no group
abbrev pub drops_of : Frame → RequestFacts → List ShapeView
drops_of f r =
    cond (not (shows f r.submit) || is_at r.settled r.submit) [] (drop_from f r (row_of f r.asked.id.conn.0))

-- ---- replies

-- from the strip of layers up to the row of its connection, if that is drawn
abbrev pub back_to : Frame → ReplyFacts → Option ℕ → List ShapeView
back_to f r None = []
back_to f r (Some row) =
    coloured (codes "back") r.asked.number (line_form (x_of f r.step) (strip_of f) (x_of f r.step) (row + 31)) [] ∷ []

abbrev pub backs_of : Frame → ReplyFacts → List ShapeView
backs_of f r = cond (shows f r.step) (back_to f r (row_of f r.asked.id.conn.0)) []

-- ---- packets

-- one that is sent before the window's end, and not received before its beginning
abbrev pub lines_of : Frame → PacketFacts → List ShapeView
lines_of f p =
    cond (nat_le f.to p.sent || is_past f p.received) []
    (coloured (codes "packet") p.asked.number (Line (way_of f p)) (packet_title p) ∷ [])

-- ---- all of them

abbrev pub arrows_of : Frame → RunFacts → List ShapeView
arrows_of f run =
    flat_map (drops_of f) run.requests.items ++ flat_map (backs_of f) run.replies.items ++ flat_map (lines_of f) run.packets.items
