-- The members of a list, and which words become one.
use Rattle.std.specs.Prelude.{List, Result, Ok, Err, ⊤}
use Rattle.std.specs.List.{AllByRecursion}
use Rattle.command_table.specs.CommandRow.{Reading}
use Rattle.command_table.specs.Keyed.{IsKeyed}
use Rattle.command_table.specs.declared.refusal.Refusal.{Refusal}
use Rattle.command_table.specs.declared.refusal.Refusal.TheVariants as refusal
use Rattle.sessions.specs.declared.member.Member.{Member}
use Rattle.sessions.specs.declared.member.Member.TheVariants.{Runs, Refused}
use Rattle.sessions.specs.declared.member.Misread.{Misread}
use Rattle.sessions.specs.declared.member.Misread.TheVariants.{Syntax, NotInteger}

-- the refusal that a misread member answers
abbrev pub refusal_of : Misread → Refusal
refusal_of Syntax = refusal.Syntax
refusal_of NotInteger = refusal.NotInteger

-- What is read of a request is a member: a command, or why a word behind its name is none that may stand there. A name
-- that no command has, and a wrong number of words, are none.
abbrev pub member_of : Reading → Result Member Refusal
member_of (Ok command) = Ok (Runs command)
member_of (Err refusal.Syntax) = Ok (Refused Syntax)
member_of (Err refusal.NotInteger) = Ok (Refused NotInteger)
member_of (Err refusal.Unknown) = Err refusal.Unknown
member_of (Err (refusal.Arity name)) = Err (refusal.Arity name)
member_of (Err refusal.Memory) = Err refusal.Memory

-- a command that a member runs looks at no key, is for all keys or names one
abbrev pub IsKeyedMember : Member → Type 0
IsKeyedMember (Runs command) = IsKeyed command
IsKeyedMember (Refused misread) = ⊤

abbrev pub AreKeyed : List Member → Type 0
AreKeyed members = AllByRecursion IsKeyedMember members
