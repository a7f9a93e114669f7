use Rattle.std.proofs.Common.{◌≡◌, true, FitsSigned, w64, subst, sym, ap, ◌∙◌}
use Rattle.std.proofs.lemmas.Slice.Eq.{bytes_eq-Decides}
use Rattle.std.proofs.lemmas.Int.{to_z-of_z}
use Rattle.std.specs.Fmt.{signed_decimal}
use Rattle.std.specs.Str.{bytes_eq}
use Rattle.integers.specs.Integer.{IsIntegerText}
use Rattle.integers.specs.IntegerLaws.{mag-fits, integer_of-none, no_integer-bytes, parse-text_err, parse-text_ok}
use Rattle.integers.proofs.integer.read_integer.Goals as goal

pub returns-in_default-clause-text : goal.returns-in_default-clause-text
returns-in_default-clause-text c = no_integer-bytes c.args.text.now c.in_default.ensures.cases.0

pub returns-in_default-clause-value : goal.returns-in_default-clause-value
returns-in_default-clause-value c = sym (integer_of-none c.args.text.now (returns-in_default-clause-text c))

pub returns-in_default-parse-clause-text : goal.returns-in_default-parse-clause-text
returns-in_default-parse-clause-text c n is =
    let ascii = subst (λ text. IsIntegerText text n) (sym c.in-Ok.ensures.cases.0) is in
    parse-text_err c.in-Ok.ascii.now n c.in_default-parse.field-0 ascii c.in_default-parse.ensures.value.0

pub returns-in_default-parse-clause-value : goal.returns-in_default-parse-clause-value
returns-in_default-parse-clause-value c = sym (integer_of-none c.args.text.now (returns-in_default-parse-clause-text c))

-- another number than the one that is printed has another text
pub returns-else-eq-clause-text : goal.returns-else-eq-clause-text
returns-else-eq-clause-text c n is =
    let ascii = subst (λ text. IsIntegerText text n) (sym c.in-Ok.ensures.cases.0) is in
    let same : c.in-Ok-parse.number ≡ n = parse-text_ok c.in-Ok.ascii.now n c.in-Ok-parse.number ascii c.in-Ok-parse.ensures.value.0 in
    let fits : FitsSigned w64 c.in-Ok-parse.number = subst (FitsSigned w64) (sym same) (record { sfits = mag-fits n is.0 }) in
    let printed : c.as_bytes.result.now ≡ c.args.text.now =
    c.as_bytes.ensures.value ∙ c.format.ensures.text ∙ ap signed_decimal (to_z-of_z w64 c.in-Ok-parse.number fits ∙ same) ∙ sym is.1 in
    let equal : bytes_eq c.as_bytes.result.now c.args.text.now ≡ true =
    (bytes_eq-Decides c.as_bytes.result.now c.args.text.now).1 printed in
    absurd (cc)
