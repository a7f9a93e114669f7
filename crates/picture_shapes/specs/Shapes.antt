-- Shapes, as contracts see them.
use Rattle.std.specs.Prelude.{ℕ, ◌+◌, ◌-◌, ◌%◌, Bool, false, List, Option, None, Some}
use Rattle.picture_shapes.specs.declared.shape.Form.{Form}
use Rattle.picture_shapes.specs.declared.shape.Form.TheVariants.{Rect, Line, Area}
use Rattle.picture_shapes.specs.declared.shape.Path.TheVariants.{Two, Three, Four}

-- the name that the style knows, the colour of its request, whether that starved, what it is, and its words
pub record ShapeView : Type 0 where
  pub name : List ℕ
  pub colour : Option ℕ
  pub starved : Bool
  pub form : Form
  pub words : List ℕ

abbrev pub shape_of : List ℕ → Option ℕ → Bool → Form → List ℕ → ShapeView
shape_of name colour starved form words = record { name = name; colour = colour; starved = starved; form = form; words = words }

-- the colour of the request with this number
abbrev pub colour_of : ℕ → ℕ
colour_of number = number % 6

-- a shape in the colour of the request with this number
abbrev pub coloured : List ℕ → ℕ → Form → List ℕ → ShapeView
coloured name number form words = shape_of name (Some (colour_of number)) false form words

-- a shape of no request
abbrev pub plain : List ℕ → Form → List ℕ → ShapeView
plain name form words = shape_of name None false form words

-- a bar between two places, so high
abbrev pub bar_form : ℕ → ℕ → ℕ → ℕ → Form
bar_form x0 y x1 height = Rect x0 y (x1 - x0) height

-- a line between two points
abbrev pub line_form : ℕ → ℕ → ℕ → ℕ → Form
line_form x0 y0 x1 y1 = Line (Two (record { x = x0; y = y0 }) (record { x = x1; y = y1 }))

-- the head of an arrow that comes to this place from the height of its base
abbrev pub head_form : ℕ → ℕ → ℕ → Form
head_form x y base = Area (Three (record { x = x; y = y }) (record { x = x - 4; y = base }) (record { x = x + 4; y = base }))

-- a square on its tip, round this point
abbrev pub diamond_form : ℕ → ℕ → Form
diamond_form x y =
    Area (Four (record { x = x; y = y - 6 }) (record { x = x + 6; y = y }) (record { x = x; y = y + 6 }) (record { x = x - 6; y = y }))
