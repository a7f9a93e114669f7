-- Why words say no options: what a program is told by its command line and by the values that it finds.
use Rattle.std.proofs.Common.{◌≡◌, ◌≢◌, true, List, inl, inr, sym, subst}
use Rattle.std.proofs.lemmas.Bool.{false_from_ne_true}
use Rattle.std.proofs.lemmas.Result.{IfErr-weaker}
use Rattle.std.specs.Prelude.{Result, IfErr}
use Rattle.clap.specs.Values.{kind_of}
use Rattle.clap.specs.Words.{App, HasKind, IsAmong, Row, Text, fault_of, matches_of, takes}
use Rattle.clap.specs.declared.error.Error.{Error}
use Rattle.clap.specs.declared.error.kind.ErrorKind.TheVariants.{OutOfMemory}
use Rattle.options.specs.Refusals.{IsRefusalBy, IsRefusalOf, LacksBy, TellsRefusal}
use Rattle.options.specs.declared.fault.OptionsFault.{OptionsFault}

module _ (line : App) (words : List Text) where
  -- an error that is no want of memory has a kind that clap finds
  kind_found : (e : Error) → (kind_of e ≢ OutOfMemory) → HasKind (fault_of line words) e → IsAmong (kind_of e) (fault_of line words)
  kind_found e other (inl memory) = absurd (other memory)
  kind_found e other (inr among) = among

  pub told_refusal : (e : Error) (f : OptionsFault) → (takes line words ≡ true → kind_of e ≡ OutOfMemory)
      → HasKind (fault_of line words) e → TellsRefusal e f → IsRefusalOf line words f
  told_refusal e f passes kinds (inl memory) = subst (IsRefusalOf line words) (sym memory.1) tt
  told_refusal e f passes kinds (inr other) = subst (IsRefusalOf line words) (sym other.1)
      (false_from_ne_true (takes line words) (λ taken. other.0 (passes taken)), kind_found e other.0 kinds)

-- what was found in the words lacks something
pub lacking : {T : Type 0} (line : App) (IsOut : List Row → Text → Type 0) (HasNone : List Row → Type 0) (words : List Text)
    (r : Result T OptionsFault) (rows : List Row) → rows ≡ matches_of line words → IfErr r (LacksBy IsOut HasNone rows)
    → IfErr r (IsRefusalBy line IsOut HasNone words)
lacking line IsOut HasNone words r rows found lacks =
    IfErr-weaker r _ _ (λ fault lack. inr lack) (subst (λ (rows : List Row). IfErr r (LacksBy IsOut HasNone rows)) found lacks)
