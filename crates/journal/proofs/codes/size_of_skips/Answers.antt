use Rattle.std.proofs.Common.{◌+◌, length, take, get_or, arith, ap, subst, ◌∙◌, length-append}
use Rattle.std.specs.List.{flat_map, AllByRecursion}
use Rattle.std.proofs.lemmas.List.{take_all}
use Rattle.std.proofs.lemmas.Option.{slice_get-get_or}
use Rattle.groups.specs.declared.skip_id.SkipId.{SkipId}
use Rattle.groups.specs.declared.skip_id.SkipId.TheVariants.{Whole}
use Rattle.packing.specs.CodeLaws.{take_codes, all_one, size_rest}
use Rattle.journal.specs.Codes.{skip_code, SkipFits}
use Rattle.journal.proofs.CodeLaws.{length-skips_code, numbered_one}
use Rattle.journal.proofs.codes.size_of_skips.Goals as goal

none : SkipId
none = Whole (record { conn = record { 0 = 0 }; seq = 0 })

pub returns-in_err-size : goal.returns-in_err-size
unfolding none
returns-in_err-size c =
    let names = c.args.names.now in let i = c.loop-name.name-index in
    let at = slice_get-get_or names i none c.loop-name-test.true in
    let one = ap length (take_codes skip_code names i _ at)
    ∙ length-append (flat_map skip_code (take i names)) (skip_code (get_or names i none)) in
    let part = size_rest skip_code names (i + 1) in
    let over = c.in_err-size.ensures in
    rw c.from_residual.ensures
    (omega (
      arith,
      over,
      one,
      part,
      length-skips_code names,
      c.loop-name.invariant.0,
      c.number_size-size.ensures.size,
      c.size_of_skip.ensures.size,
    ))

pub loop-name-preserved : goal.loop-name-preserved
unfolding none
loop-name-preserved c =
    let names = c.args.names.now in let i = c.loop-name.name-index in
    let at = slice_get-get_or names i none c.loop-name-test.true in
    let one = ap length (take_codes skip_code names i _ at)
    ∙ length-append (flat_map skip_code (take i names)) (skip_code (get_or names i none)) in (
      omega (arith, one, c.in_ok-size.ensures.1, c.loop-name.invariant.0, c.number_size-size.ensures.size, c.size_of_skip.ensures.size),
      all_one SkipFits names i _ at c.loop-name.invariant.1 (c.size_of_skip.ensures.fits (numbered_one names i _ at c.requires)),
    )

pub returns : goal.returns
returns c =
    let names = c.args.names.now in
    let whole = take_all c.loop-name.name-index names c.loop-name-test.false in
    let size = ap (λ xs. length (flat_map skip_code xs)) whole in (
      omega (arith, size, length-skips_code names, c.loop-name.invariant.0),
      record { count = omega arith; each = subst (AllByRecursion SkipFits) whole c.loop-name.invariant.1 },
    )
