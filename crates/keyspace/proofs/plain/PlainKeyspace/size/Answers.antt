use Rattle.std.proofs.Common.{◌≡◌, min, pos, w64, ap, sym, ◌∙◌, arith}
use Rattle.std.proofs.Math.Facts.{to_z_pos}
use Rattle.std.specs.FinMap.{len}
use Rattle.keyspace.proofs.Entries.{len-map_of}
use Rattle.keyspace.specs.Plain.{map_of}
use Rattle.keyspace.proofs.plain.PlainKeyspace.size.Goals as goal

pub returns : goal.returns
returns g c =
    let es = c.args.self.now.entries.entries in
    let counted : c.len.result ≡ len (map_of es) = c.len.ensures.len ∙ sym (len-map_of es c.len.ensures.unique) in
    let most : c.len.result ≡ min (len (map_of es)) 9223372036854775807 = omega (arith, counted) in
    to_z_pos w64 c.len.ensures.small ∙ ap pos most
