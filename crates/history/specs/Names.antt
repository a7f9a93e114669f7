-- What names a history, among all lists that no memory keeps.
use Rattle.std.specs.Prelude.{ℕ}
use base.Stored.{Coded, coded_ℕ}

abbrev pub Name : Type 0
Name = ℕ

-- a name to stand where none is picked yet
abbrev pub no_name : Name
no_name = 0

abbrev pub name_coded : Coded Name
name_coded = coded_ℕ
