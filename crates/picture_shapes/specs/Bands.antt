-- The layers of a picture: of each that is there within the window a strip, and a band in each lane that it touches.
use Rattle.std.specs.Prelude.{ℕ, ◌||◌, nat_le, cond, List, [], ◌∷◌, codes, decimal, length, map}
use Rattle.std.specs.List.{concat, flat_map}
use Rattle.picture_shapes.specs.Frames.{is_past, strip_of, top_of, x_of, x_or_end}
use Rattle.picture_shapes.specs.Shapes.{ShapeView, bar_form, plain}
use Rattle.picture_shapes.specs.declared.facts.LayerFacts.{LayerFacts}
use Rattle.picture_shapes.specs.declared.facts.RunFacts.{RunFacts}
use Rattle.picture_shapes.specs.declared.frame.Frame.{Frame}

-- what is said of it: its number, how many requests it has, and when it was taken
abbrev pub layer_title : LayerFacts → List ℕ
layer_title l =
    concat (codes "layer " ∷ decimal l.number ∷ codes ", taken at step " ∷ decimal l.take ∷ codes ", requests: "
    ∷ decimal (length l.jobs.items) ∷ [])

-- a bar from its Take to its Settle, or to the window's edges
abbrev pub layer_bar : List ℕ → Frame → LayerFacts → ℕ → ℕ → ShapeView
layer_bar name f l y height = plain name (bar_form (x_of f l.take) y (x_or_end f l.settle) height) (layer_title l)

-- in the lane of a group
abbrev pub band_at : Frame → LayerFacts → ℕ → ShapeView
band_at f l group = layer_bar (codes "band") f l (top_of f group) 112

-- one that is taken before the window's end, and not settled before its beginning
abbrev pub layer_bands : Frame → LayerFacts → List ShapeView
layer_bands f l =
    cond (nat_le f.to l.take || is_past f l.settle) []
    (layer_bar (codes "strip") f l (strip_of f) 16 ∷ map (band_at f l) l.groups)

abbrev pub bands_of : Frame → RunFacts → List ShapeView
bands_of f run = flat_map (layer_bands f) run.layers.items
