mod ListLaws
mod PackedLaws
