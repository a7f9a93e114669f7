-- The names that a session answers itself: MULTI, EXEC and DISCARD.
use Rattle.std.specs.Prelude.{Bool, List, [], ◌∷◌, Option, Some, None, is_some, codes, if◌then◌else◌}
use Rattle.command_table.specs.Words.{Word, is_word}
use Rattle.sessions.specs.declared.control.Control.{Control}
use Rattle.sessions.specs.declared.control.Control.TheVariants.{Multi, Exec, Discard}

-- its name, in lower case
abbrev pub control_name : Control → Word
control_name Multi = codes "multi"
control_name Exec = codes "exec"
control_name Discard = codes "discard"

-- the name of what runs a list
abbrev pub exec_name : Word
exec_name = control_name Exec

-- the one of this name, in any case
abbrev pub control_of : Word → Option Control
control_of name =
    if is_word (control_name Multi) name
    then Some Multi
    else if is_word (control_name Exec) name
    then Some Exec
    else if is_word (control_name Discard) name
    then Some Discard
    else None

-- it is the name of one of them, in any case
abbrev pub is_control : Word → Bool
is_control name = is_some (control_of name)

-- the one that these words name
abbrev pub control_in : List Word → Option Control
control_in [] = None
control_in (name ∷ words) = control_of name
