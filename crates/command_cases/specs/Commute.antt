-- Two commands with no key in common, run in either order.
use Rattle.std.specs.Prelude.{◌≡◌, List}
use Rattle.keyspace.specs.Map.{Map, AreApart}
use Rattle.command_cases.specs.Case.{Case, one}
use Rattle.texts.specs.Texts.{Bytes}

-- a command answers the same whether the other has run before it or not
abbrev pub AnswersCommute : Type 0
AnswersCommute = (keys others : List Bytes) (case other : Case) (m : Map) → AreApart keys others
    → (one others other (one keys case m).0).1 ≡ (one others other m).1

-- the map is the same whichever of the two runs first
abbrev pub ContentsCommute : Type 0
ContentsCommute = (keys others : List Bytes) (case other : Case) (m : Map) → AreApart keys others
    → (one others other (one keys case m).0).0 ≡ (one keys case (one others other m).0).0
