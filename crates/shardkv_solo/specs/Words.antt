-- What the words on the command line ask for.
use Rattle.std.specs.Prelude.{◌||◌, ℕ, List, Option, Some, None, if◌then◌else◌, codes}
use Rattle.std.specs.Str.{bytes_eq}
use Rattle.shardkv_solo.specs.declared.Asked.{Asked}
use Rattle.shardkv_solo.specs.declared.Asked.TheVariants.{Serving, Help, Version}

-- by the first word behind the program's name: what is no other asks for serving
abbrev pub asked_by : Option (List ℕ) → Asked
asked_by None = Serving
asked_by (Some word) =
    if bytes_eq word (codes "--help") || bytes_eq word (codes "-h") then Help
    else (if bytes_eq word (codes "--version") || bytes_eq word (codes "-V") then Version else Serving)
