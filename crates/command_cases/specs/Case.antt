-- What a command does, as a function of a map, and what it is to do so on the command's own keys alone.
use Rattle.std.specs.Prelude.{◌≡◌, List, Option, Result, MatchResult}
use Rattle.std.specs.FinMap.{get}
use Rattle.keyspace.specs.Map.{Map, restrict, put_back, set}
use Rattle.resp.specs.Content.{Content, content}
use Rattle.resp.specs.declared.reply.Reply.{Reply}
use Rattle.texts.specs.Texts.{Bytes}
use Rattle.values.specs.declared.Value.{Value}

-- the map that a command leaves, and what it answers
abbrev pub Case : Type 0
Case = Map → Map × Content

-- what a command of one key leaves at it, and what it answers, by what stood there
abbrev pub Step : Type 0
Step = Option Value → Option Value × Content

-- the case of a command of one key
abbrev pub at_key : Bytes → Step → Case
at_key key step m = (set m key (step (get m key)).0, (step (get m key)).1)

-- a case taken on the map cut down to these keys, its part then put back in their place
abbrev pub one : List Bytes → Case → Case
one keys case m = (put_back m keys (case (restrict m keys)).0, (case (restrict m keys)).1)

-- the case looks at no other key, and changes none
abbrev pub IsLocal : List Bytes → Case → Type 0
IsLocal keys case = (m : Map) → one keys case m ≡ case m

-- a body has done the case: it left the case's map and answered what the case says; or it answered nothing and left the
-- map
abbrev pub Does : {E : Type 0} → Case → Map → Map → Result Reply E → Type 0
Does case old new result = MatchResult result (λ reply. (new, content reply) ≡ case old) (λ _. new ≡ old)
