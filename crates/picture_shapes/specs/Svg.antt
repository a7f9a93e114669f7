-- The text of a picture: SVG, a line a shape.
use Rattle.std.specs.Prelude.{ℕ, List, [], ◌∷◌, ◌++◌, ◌==◌, ◌&&◌, nat_le, cond, codes, decimal, Option, Some, None}
use Rattle.std.specs.List.{concat, flat_map}
use Rattle.picture_shapes.specs.Shapes.{ShapeView}
use Rattle.picture_shapes.specs.declared.drawn.Picture.{Picture}
use Rattle.picture_shapes.specs.declared.label.TheConstants.{ELLIPSIS, MIDDLE_DOT, ARROW}
use Rattle.picture_shapes.specs.declared.shape.Form.{Form}
use Rattle.picture_shapes.specs.declared.shape.Form.TheVariants.{Rect, Disc, Line, Area, Text}
use Rattle.picture_shapes.specs.declared.shape.Path.{Path}
use Rattle.picture_shapes.specs.declared.shape.Path.TheVariants.{Two, Three, Four}
use Rattle.picture_shapes.specs.declared.legend.TheConstants.{LEGEND}
use Rattle.picture_shapes.specs.declared.style.TheConstants.{STYLE}
use Rattle.picture_shapes.specs.declared.svg.TheConstants.{OPENING, HEADING}

-- ---- words

-- A character of a label: what means something to XML stands as its entity, a sign as its number, and a byte that is no
-- character as the sign of that.
abbrev pub character : ℕ → List ℕ
character byte =
    cond (byte == 38) (codes "&amp;")
    (cond (byte == 60) (codes "&lt;")
    (cond (byte == 62) (codes "&gt;")
    (cond (byte == 34) (codes "&quot;")
    (cond (byte == ELLIPSIS) (codes "&#8230;")
    (cond (byte == MIDDLE_DOT) (codes "&#183;")
    (cond (byte == ARROW) (codes "&#8594;")
    (cond (nat_le 32 byte && nat_le byte 126) (byte ∷ []) (codes "&#65533;"))))))))

-- ---- where a form is

-- each point behind a text, and this behind the last
abbrev pub points_text : List ℕ → Path → List (List ℕ) → List ℕ
points_text before (Two a b) behind =
    concat (before ∷ decimal a.x ∷ codes "," ∷ decimal a.y ∷ codes " " ∷ decimal b.x ∷ codes "," ∷ decimal b.y ∷ behind)
points_text before (Three a b c) behind =
    concat (before ∷ decimal a.x ∷ codes "," ∷ decimal a.y ∷ codes " " ∷ decimal b.x ∷ codes "," ∷ decimal b.y
    ∷ codes " " ∷ decimal c.x ∷ codes "," ∷ decimal c.y ∷ behind)
points_text before (Four a b c d) behind =
    concat (before ∷ decimal a.x ∷ codes "," ∷ decimal a.y ∷ codes " " ∷ decimal b.x ∷ codes "," ∷ decimal b.y
    ∷ codes " " ∷ decimal c.x ∷ codes "," ∷ decimal c.y ∷ codes " " ∷ decimal d.x ∷ codes "," ∷ decimal d.y ∷ behind)

abbrev pub path_text : Path → List ℕ
path_text path = points_text (codes "points=\"") path (codes "\"" ∷ [])

abbrev pub place_text : Form → List ℕ
place_text (Rect x y width height) =
    concat (codes "x=\"" ∷ decimal x ∷ codes "\" y=\"" ∷ decimal y ∷ codes "\" width=\"" ∷ decimal width
    ∷ codes "\" height=\"" ∷ decimal height ∷ codes "\"" ∷ [])
place_text (Disc x y radius) =
    concat (codes "cx=\"" ∷ decimal x ∷ codes "\" cy=\"" ∷ decimal y ∷ codes "\" r=\"" ∷ decimal radius ∷ codes "\"" ∷ [])
place_text (Line path) = path_text path
place_text (Area path) = path_text path
place_text (Text x y) = concat (codes "x=\"" ∷ decimal x ∷ codes "\" y=\"" ∷ decimal y ∷ codes "\"" ∷ [])

-- ---- how it looks

abbrev pub colour_text : Option ℕ → List ℕ
colour_text None = []
colour_text (Some number) = codes " c" ++ decimal number

-- its name, its colour, and whether its request starved
abbrev pub class_text : ShapeView → List ℕ
class_text s = codes " class=\"" ++ s.name ++ colour_text s.colour ++ cond s.starved (codes " bad") [] ++ codes "\" "

-- ---- an element

-- the name of a form's element
abbrev pub tag : Form → List ℕ
tag (Rect x y width height) = codes "rect"
tag (Disc x y radius) = codes "circle"
tag (Line path) = codes "polyline"
tag (Area path) = codes "polygon"
tag (Text x y) = codes "text"

-- words that are a shape's title, if there are any
abbrev pub title_text : Form → List ℕ → List ℕ
title_text form [] = codes "/>\n"
title_text form (byte ∷ bytes) =
    codes "><title>" ++ flat_map character (byte ∷ bytes) ++ codes "</title></" ++ tag form ++ codes ">\n"

-- the words within it: those of a text stand there, and those of another shape are its title
abbrev pub inside_text : Form → List ℕ → List ℕ
inside_text (Text x y) words = codes ">" ++ flat_map character words ++ codes "</text>\n"
inside_text form words = title_text form words

abbrev pub element : ShapeView → List ℕ
element s = codes "<" ++ tag s.form ++ class_text s ++ place_text s.form ++ inside_text s.form s.words

-- ---- the whole

-- what stands before the shapes: the size, a title, the description and the style
unfoldable pub head_text : List ℕ → List ℕ → List ℕ → Picture → List ℕ
head_text opening heading style p =
    concat (opening ∷ decimal p.width ∷ codes "\" height=\"" ∷ decimal p.height ∷ codes "\" viewBox=\"0 0 " ∷ decimal p.width
    ∷ codes " " ∷ decimal p.height ∷ heading ∷ []) ++ flat_map character p.description.items ++ codes "</desc>\n" ++ style

-- and what stands behind them: the legend, at its place
unfoldable pub tail_text : List ℕ → ℕ → List ℕ
tail_text legend y = concat (codes "<g transform=\"translate(0," ∷ decimal y ∷ codes ")\">\n" ∷ legend ∷ codes "</g>\n</svg>\n" ∷ [])

-- the shapes in the order in which they are drawn
abbrev pub shapes_of : Picture → List ShapeView
shapes_of p = p.ground.items ++ p.bands.items ++ p.arrows.items ++ p.bars.items ++ p.marks.items ++ p.labels.items

abbrev pub svg_text : Picture → List ℕ
svg_text p =
    head_text OPENING.now HEADING.now STYLE.now p ++ flat_map element (shapes_of p) ++ tail_text LEGEND.now p.legend
