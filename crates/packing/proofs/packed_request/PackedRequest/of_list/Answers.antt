use Rattle.std.proofs.Common.{◌≡◌, ◌+◌, ◌++◌, length, arith}
use Rattle.std.specs.List.{flat_map}
use Rattle.std.proofs.lemmas.List.{append_assoc}
use Rattle.packing.specs.Codes.{number_code}
use Rattle.packing.specs.Lists.{list_code}
use Rattle.packing.proofs.ListLaws.{list_words, own_fit}
use Rattle.packing.proofs.PackedLaws.{packed_fits, packed_read}
use Rattle.packing.proofs.packed_request.PackedRequest.of_list.Goals as goal

pub invariant_of-result : goal.invariant_of-result
invariant_of-result c =
    let name = c.args.name.now in let lists = c.args.list.now in
    let put : c.put_bytes-2.new.out.items
    ≡ (number_code (length lists + 1) ++ (number_code (length name) ++ name)) ++ flat_map list_code lists =
    rw (
      c.put_bytes-2.ensures.items,
      c.put_bytes.ensures.items,
      c.put_number-2.ensures.items,
      c.put_number.ensures.items,
      c.in_ok-bytes.ensures.items,
      c.as_bytes-behind.ensures.coded,
      c.len.ensures.number,
    )
    (simp append_assoc) in
    let whole = list_words name lists _ c.as_bytes-behind.ensures.fit (omega (arith, c.len.ensures.number, c.len.ensures.small))
    (record { size = omega arith; bytes = λ i. (c.type_inv.name i).fits }) put in
    packed_fits _ _ whole.0 whole.1

pub returns-clause-made : goal.returns-clause-made
returns-clause-made c =
    let name = c.args.name.now in let lists = c.args.list.now in
    let put : c.put_bytes-2.new.out.items
    ≡ (number_code (length lists + 1) ++ (number_code (length name) ++ name)) ++ flat_map list_code lists =
    rw (
      c.put_bytes-2.ensures.items,
      c.put_bytes.ensures.items,
      c.put_number-2.ensures.items,
      c.put_number.ensures.items,
      c.in_ok-bytes.ensures.items,
      c.as_bytes-behind.ensures.coded,
      c.len.ensures.number,
    )
    (simp append_assoc) in
    let whole = list_words name lists _ c.as_bytes-behind.ensures.fit (omega (arith, c.len.ensures.number, c.len.ensures.small))
    (record { size = omega arith; bytes = λ i. (c.type_inv.name i).fits }) put in
    packed_read _ _ whole.0 whole.1

pub returns-clause-fit : goal.returns-clause-fit
returns-clause-fit c = own_fit c.args.list.now c.as_bytes-behind.ensures.fit
