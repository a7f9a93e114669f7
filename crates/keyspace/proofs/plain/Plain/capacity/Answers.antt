use Rattle.std.proofs.Common.{◌≡◌, sym, ◌∙◌, arith}
use Rattle.std.specs.FinMap.{len}
use Rattle.keyspace.proofs.Entries.{len-map_of}
use Rattle.keyspace.specs.Plain.{map_of}
use Rattle.keyspace.proofs.plain.Plain.capacity.Goals as goal

pub returns : goal.returns
returns g c =
    let es = c.args.self.now.entries.entries in
    let counted : c.len-len.result ≡ len (map_of es) = c.len-len.ensures.len ∙ sym (len-map_of es c.len-len.ensures.unique) in
    omega (arith, counted, c.len-len.ensures.len, c.capacity.ensures)
