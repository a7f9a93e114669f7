-- Labels: a character a byte.
use Rattle.std.specs.Prelude.{ℕ, ◌-◌, nat_le, nat_lt, cond, List, [], ◌∷◌, ◌++◌, length, take, codes, decimal}
use Rattle.std.specs.List.{flat_map}
use Rattle.groups.specs.declared.request.RequestId.{RequestId}
use Rattle.groups.specs.declared.stamp.Stamp.{Stamp}
use Rattle.picture_shapes.specs.declared.label.Piece.{Piece}
use Rattle.picture_shapes.specs.declared.label.Piece.TheVariants as piece
use Rattle.picture_shapes.specs.declared.label.TheConstants.{ELLIPSIS}

abbrev pub id_label : RequestId → List ℕ
id_label id = decimal id.conn.0 ++ codes "." ++ decimal id.seq

abbrev pub stamp_label : Stamp → List ℕ
stamp_label stamp = codes "(" ++ decimal stamp.clock ++ codes "," ++ decimal stamp.group ++ codes ")"

abbrev pub piece_text : Piece → List ℕ
piece_text (piece.Text bytes) = bytes.now
piece_text (piece.Number number) = decimal number
piece_text (piece.Id id) = id_label id
piece_text (piece.Stamp stamp) = stamp_label stamp

abbrev pub text_of : List Piece → List ℕ
text_of pieces = flat_map piece_text pieces

-- a label in so many characters: what is cut ends with an ellipsis, and one character is no label
abbrev pub cut_label : ℕ → List ℕ → List ℕ
cut_label room label =
    cond (nat_le (length label) room) label (cond (nat_lt room 2) [] (take (room - 1) label ++ ELLIPSIS ∷ []))
