use Rattle.std.proofs.Common.{◌≡◌, ℤ, Option, Some, Err, w64, sym, ap, ◌∙◌}
use Rattle.std.proofs.lemmas.Int.{to_z-of_z}
use Rattle.std.specs.FinMap.{get}
use Rattle.command_cases.specs.Case.{at_key}
use Rattle.hash_commands.specs.HashCommand.{HashPairs, hincrby_step, no_number, with_sum}
use Rattle.integers.specs.Sum.{stored_sum}
use Rattle.integers.specs.declared.sum.SumFault.{SumFault}
use Rattle.keyspace.proofs.Changes.{insert-as_it_was}
use Rattle.keyspace.specs.Map.{Map, set}
use Rattle.resp.specs.Content.{Content}
use Rattle.texts.specs.Texts.{Bytes}
use Rattle.values.specs.HashValue.{field_value}
use Rattle.values.specs.declared.Value.{Value}
use Rattle.values.specs.declared.Value.TheVariants as kind
use Rattle.hash_commands.proofs.numbers.hincrby.Goals as goal

-- where there is no sum the hash stays
no_sum : (m : Map) (key field : Bytes) (by : ℤ) (pairs : HashPairs) (fault : SumFault) → get m key ≡ Some (kind.Hash pairs)
    → stored_sum (field_value pairs field) by ≡ Err fault
    → ◌≡◌ {A = Map × Content} (m, no_number fault) (at_key key (hincrby_step field by) m)
no_sum m key field by pairs fault there none =
    let stepped : ◌≡◌ {A = Option Value × Content} (hincrby_step field by (get m key)) (Some (kind.Hash pairs), no_number fault) =
    ap (hincrby_step field by) there ∙ ap (with_sum field pairs (Some (kind.Hash pairs))) none in
    ap (λ n. (n, no_number fault)) (sym (insert-as_it_was m key (kind.Hash pairs) there)) ∙ ap (λ r. (set m key r.0, r.1)) (sym stepped)

pub returns-in-Err-clause-done : goal.returns-in-Err-clause-done
returns-in-Err-clause-done g c =
    let m = g.K.Keyspace.contents c.args.keyspace.now in
    let pairs = c.in-Some-Hash.hash in
    let seen : c.in-Some-Hash.field-0.now ≡ kind.Hash pairs = c.in-Some-Hash.field-0-is in
    let there : get m c.args.key ≡ Some (kind.Hash pairs) = ap (get m) (sym c.as_slice.ensures) ∙ sym c.in-Some-Hash.ensures
    ∙ ap Some seen in
    let none : stored_sum (field_value pairs c.args.field) c.args.by ≡ Err c.in-Err.fault =
    ap (λ f. stored_sum (field_value pairs f) c.args.by) (sym c.as_slice-in-Some-Hash.ensures)
    ∙ ap (stored_sum (field_value pairs c.as_slice-in-Some-Hash.result.now)) (sym (to_z-of_z w64 c.args.by c.ranges.by))
    ∙ sym c.in-Err.ensures in
    ap (λ r. (m, r)) c.no_number_reply.ensures ∙ no_sum m c.args.key c.args.field c.args.by pairs c.in-Err.fault there none
