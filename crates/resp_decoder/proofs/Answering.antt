-- What a decoder's answer says, from what reading on said of its fields.
use Rattle.std.proofs.Common.{◌≡◌, ℕ, List, [], Option, Some, None, sym, subst}
use Rattle.resp_decoder.specs.declared.fault.Fault.{Fault}
use Rattle.resp_decoder.specs.declared.limits.Limits.{Limits}
use Rattle.resp_decoder.specs.declared.progress.Progress.{Progress}
use Rattle.resp_decoder.specs.Advancing.{held_bytes, HasFault}
use Rattle.resp_decoder.specs.Decoding.{Held, IsCause, Fails}

abbrev pub held : Limits → Progress → List ℕ → Option Fault → Held
held limits progress buffer fault = record { limits = limits; bytes = held_bytes progress buffer; fault = fault }

pub fails_from : (limits : Limits) (progress : Progress) (buffer read : List ℕ) (before : Option Fault) (old new : Held) (fault : Fault)
    → held limits progress buffer before ≡ old → before ≡ None → read ≡ buffer
    → HasFault limits (held_bytes progress read) fault → new ≡ record { limits = limits; bytes = []; fault = Some fault }
    → Fails old fault new
fails_from limits progress buffer read before old new fault view none same has failed_is =
    let at : HasFault limits (held_bytes progress buffer) fault =
    subst (λ (b : List ℕ). HasFault limits (held_bytes progress b) fault) same has in
    let now = held limits progress buffer before in
    let whole : Fails now fault new = record { cause = subst (IsCause now fault) (sym none) at; fault_stays = failed_is } in
    subst (λ (h : Held). Fails h fault new) view whole
