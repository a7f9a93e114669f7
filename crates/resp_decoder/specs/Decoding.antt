-- What contracts see of a decoder, and what its calls do to it.
use Rattle.std.specs.Global.{Vec}
use Rattle.std.specs.Prelude.{◌≡◌, ◌≢◌, ℕ, ◌<◌, List, [], ◌++◌, length, drop, vec_capacity, Option, Some, None, IsSome}
use Rattle.resp_decoder.specs.declared.fault.Fault.{Fault}
use Rattle.resp_decoder.specs.declared.fault.Fault.TheVariants.{Memory}
use Rattle.resp_decoder.specs.declared.limits.Limits.{Limits}
use Rattle.resp_decoder.specs.declared.progress.Progress.{Progress}
use Rattle.resp_decoder.specs.Texts.{item_text, IsLawful, Stream, IsOpen, IsFault}
use Rattle.resp_decoder.specs.Advancing.{words_of, room_of, held_bytes, IsSound, TakesLittle}

-- the limits, the bytes that were fed and neither handed out nor dropped, and the fault that was answered
pub record Held : Type 0 where
  pub limits : Limits
  pub bytes : List ℕ
  pub fault : Option Fault

-- what contracts see of a decoder: what it holds, how far that is read, and what it takes in memory
pub record DecoderView : Type 0 where
  pub held : Held
  -- the last of the held bytes, those that are not read yet
  pub unread : List ℕ
  -- how many words have come of the open request, and how many it lacks; none of both where no request is open
  pub come : ℕ
  pub lacking : ℕ
  -- how many bytes the buffer has, those that are done with too, and how many it has room for
  pub buffered : ℕ
  pub room : ℕ
  -- for how many words of the open request there is room, its name included
  pub word_room : ℕ

-- a new decoder
abbrev pub nothing_held : Limits → Held
nothing_held limits = record { limits = limits; bytes = []; fault = None }

abbrev pub with_bytes : Held → List ℕ → Held
with_bytes held bytes = record { limits = held.limits; bytes = bytes; fault = held.fault }

-- what a piece leaves: it is appended, but a decoder with a fault keeps nothing
abbrev pub fed_after : Option Fault → Held → List ℕ → Held
fed_after None held piece = with_bytes held (held.bytes ++ piece)
fed_after (Some fault) held piece = held

abbrev pub fed : Held → List ℕ → Held
fed held piece = fed_after held.fault held piece

-- The held bytes began with empty requests and then a text of these words. Both are dropped, and nothing else changes.
pub record TakesRequest (old : Held) (words : List (List ℕ)) (new : Held) : Type 0 where
  pub no_fault : old.fault ≡ None
  pub has_name : 0 < length words
  pub lawful : IsLawful old.limits (Some words)
  pub front : Stream old.limits old.bytes [] (item_text (Some words) ++ new.bytes)
  pub unchanged : new ≡ with_bytes old new.bytes

-- The held bytes were empty requests and then an open rest, perhaps empty. The rest alone stays, and nothing else
-- changes.
pub record WaitsForMore (old new : Held) : Type 0 where
  pub no_fault : old.fault ≡ None
  pub front : Stream old.limits old.bytes [] new.bytes
  pub rest_open : IsOpen old.limits new.bytes
  pub unchanged : new ≡ with_bytes old new.bytes

-- what a decoder keeps behind a fault: the fault alone
abbrev pub failed : Held → Fault → Held
failed held fault = record { limits = held.limits; bytes = []; fault = Some fault }

-- The held bytes were empty requests and then a rest with this fault; or the fault was answered before.
abbrev pub IsCause : Held → Fault → Option Fault → Type 0
IsCause old fault None = (rest : List ℕ) × Stream old.limits old.bytes [] rest × IsFault old.limits rest fault
IsCause old fault (Some before) = before ≡ fault

pub record Fails (old : Held) (fault : Fault) (new : Held) : Type 0 where
  pub cause : IsCause old fault old.fault
  pub fault_stays : new ≡ failed old fault

-- There was no memory, and nothing changes.
pub record KeepsAll (old new : Held) : Type 0 where
  pub no_fault : old.fault ≡ None
  pub unchanged : new ≡ old

-- ---- what the fields of a decoder keep

abbrev pub view_of : Limits → Progress → Vec ℕ → Option Fault → DecoderView
view_of limits progress buffer fault = record {
  held = record { limits = limits; bytes = held_bytes progress buffer.items; fault = fault };
  unread = drop progress.start buffer.items;
  come = length (words_of progress);
  lacking = progress.left;
  buffered = length buffer.items;
  room = vec_capacity buffer;
  word_room = room_of progress;
}

pub record DecoderInvariant (limits : Limits) (progress : Progress) (buffer : List ℕ) (fault : Option Fault) : Type 0 where
  pub sound : IsSound limits progress buffer
  pub little : TakesLittle progress
  pub lasting : fault ≢ Some Memory
  pub spent : IsSome fault → held_bytes progress buffer ≡ []
  pub freed : IsSome fault → buffer ≡ []
