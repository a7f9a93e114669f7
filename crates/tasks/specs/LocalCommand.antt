-- What the commands that look at no key answer, by the Redis command reference.
use Rattle.std.specs.Prelude.{Option, Some, None, codes}
use Rattle.command_table.specs.declared.local_commands.LocalCommand.{LocalCommand}
use Rattle.command_table.specs.declared.local_commands.LocalCommand.TheVariants.{Ping, Echo}
use Rattle.resp.specs.Content.{Content, SimpleText, BulkText}
use Rattle.texts.specs.Texts.{Bytes}

abbrev pub ping_reply : Option Bytes → Content
ping_reply None = SimpleText (codes "PONG")
ping_reply (Some word) = BulkText word

abbrev pub local_reply : LocalCommand → Content
local_reply (Ping word) = ping_reply word
local_reply (Echo word) = BulkText word
