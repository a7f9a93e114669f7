-- A stream in pieces.
use Rattle.std.specs.Prelude.{◌≡◌, ℕ, List, Option, None}
use Rattle.std.specs.List.{flat_map}
use Rattle.std.specs.Borrow.{Bor}
use Rattle.resp_decoder.specs.declared.fault.Fault.{Fault}
use Rattle.resp_decoder.specs.Texts.{Stream, Ends}
use Rattle.resp_decoder.specs.Decoding.{Held, with_bytes}

-- the pieces one after another
abbrev pub whole : List (Bor (List ℕ)) → List ℕ
whole pieces = flat_map (λ piece. piece.now) pieces

-- All requests of the held bytes were taken. Without a fault the open rest alone stays.
pub record TakesAll (old : Held) (requests : List (List (List ℕ))) (fault : Option Fault) (new : Held) : Type 0 where
  pub rest : List ℕ
  pub stream : Stream old.limits old.bytes requests rest
  pub ends : Ends old.limits rest fault
  pub stays : fault ≡ None → new ≡ with_bytes old rest
