use Rattle.std.proofs.Common.{◌+◌, length, drop, get_or, arith, ap, length-append, refl}
use Rattle.std.specs.List.{flat_map}
use Rattle.std.proofs.lemmas.List.{take_all, append_assoc, append-nil}
use Rattle.std.proofs.lemmas.Option.{slice_get-get_or}
use Rattle.groups.specs.declared.skip_id.SkipId.{SkipId}
use Rattle.groups.specs.declared.skip_id.SkipId.TheVariants.{Whole}
use Rattle.packing.specs.CodeLaws.{take_codes, drop_codes}
use Rattle.journal.specs.Codes.{skip_code}
use Rattle.journal.proofs.CodeLaws.{length-skips_code, skips_code-is}
use Rattle.journal.proofs.codes.put_skips.Goals as goal

none : SkipId
none = Whole (record { conn = record { 0 = 0 }; seq = 0 })

pub put_number-requires : goal.put_number-requires
put_number-requires c = omega (arith, length-skips_code c.args.names.now)

pub loop-name-init : goal.loop-name-init
loop-name-init c = (
  rw (c.put_number.ensures.items, append-nil) refl,
  omega (arith, length-skips_code c.args.names.now, c.put_number.ensures.len),
  c.put_number.ensures.capacity,
)

pub put_skip-requires : goal.put_skip-requires
unfolding none
put_skip-requires c =
    let names = c.args.names.now in let i = c.loop-name.name-index in let name = get_or names i none in
    let left = ap length (drop_codes skip_code names i _ (slice_get-get_or names i none c.loop-name-test.true)) in
    omega (arith, left, length-append (skip_code name) (flat_map skip_code (drop (i + 1) names)))

pub loop-name-preserved : goal.loop-name-preserved
unfolding none
loop-name-preserved c =
    let names = c.args.names.now in let i = c.loop-name.name-index in let name = get_or names i none in
    let at = slice_get-get_or names i none c.loop-name-test.true in
    let left = ap length (drop_codes skip_code names i _ at) in let put = take_codes skip_code names i _ at in (
      rw (c.put_skip.ensures.items, c.loop-name.invariant.0, put) (simp append_assoc),
      omega (arith, left, length-append (skip_code name) (flat_map skip_code (drop (i + 1) names))),
      omega arith,
    )

pub returns-clause-items : goal.returns-clause-items
returns-clause-items c =
    let names = c.args.names.now in let whole = take_all c.loop-name.name-index names c.loop-name-test.false in
    rw (c.loop-name.invariant.0, whole, skips_code-is names) refl
