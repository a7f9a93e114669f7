-- Replies that many commands give.
use Rattle.std.specs.Prelude.{ℕ, Bool, true, false, min, pos, codes}
use Rattle.command_cases.specs.declared.replies.TheConstants.{GREATEST_COUNT}
use Rattle.resp.specs.Content.{Content, SimpleText, ErrorLine, Number}

-- done, and nothing more to say
abbrev pub ok : Content
ok = SimpleText (codes "OK")

-- a number of things. An integer reply has 64 bits with a sign; its greatest number stands for all above too
abbrev pub count : ℕ → Content
count n = Number (pos (min n GREATEST_COUNT))

-- whether something is so, as an integer
abbrev pub truth : Bool → Content
truth false = Number (pos 0)
truth true = Number (pos 1)

-- a key holds a value of another kind than the command is for
abbrev pub wrong_type : Content
wrong_type = ErrorLine (codes "WRONGTYPE Operation against a key holding the wrong kind of value")

-- a key that the command needs is missing
abbrev pub no_such_key : Content
no_such_key = ErrorLine (codes "ERR no such key")

-- a sum has more than 64 bits with sign
abbrev pub would_overflow : Content
would_overflow = ErrorLine (codes "ERR increment or decrement would overflow")
