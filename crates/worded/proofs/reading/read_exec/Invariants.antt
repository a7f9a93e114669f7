use Rattle.std.proofs.Common.{◌≡◌, ◌+◌, ◌≤◌, drop, length, vec_len, vec_capacity}
use Rattle.sessions.specs.Member.{AreKeyed}
use Rattle.worded.specs.Reading.{members_in}
use Rattle.worded.proofs.BatchWords.{behind}
use Rattle.worded.proofs.reading.read_exec.Given as goal

-- the members so far, and those that are read of the words that are left, are those of all words; there is room for these
abbrev pub invariant-loop-place : goal.invariant-loop-place
invariant-loop-place l =
    (members_in (drop 1 l.words) ≡ behind l.members.items (members_in (drop l.place l.words)))
    × AreKeyed l.members.items
    × (vec_len l.members + 1 ≡ l.place)
    × (length l.words ≤ vec_capacity l.members)
