use Rattle.std.proofs.Common.{◌≡◌, Some, refl, sym, ap, subst, ◌∙◌}
use Rattle.std.specs.FinMap.{get, insert}
use Rattle.std.specs.Map.{lookup}
use Rattle.std.specs.Option.{IsSome, option_copied_mut}
use Rattle.std.specs.Result.{IfOk, OnOk}
use Rattle.std.specs.Str.{bytes_eq}
use Rattle.indexmap.specs.IndexMap.{Updates}
use Rattle.keyspace.proofs.Entries.{get-map_of, map_of-inserted}
use Rattle.keyspace.specs.Plain.{map_of}
use Rattle.keyspace.proofs.plain.PlainKeyspace.put.Goals as goal

pub returns-in-Some-clause-before : goal.returns-in-Some-clause-before
returns-in-Some-clause-before g c =
    let es = c.args.self.now.entries.entries in
    ap Some c.replace.ensures.value ∙ ap option_copied_mut (sym c.in-Some.is) ∙ c.get_mut.ensures.value
    ∙ sym (get-map_of es c.as_slice-bytes.result.now) ∙ ap (get (map_of es)) c.as_slice-bytes.ensures.value

pub returns-in-Some-clause-ok : goal.returns-in-Some-clause-ok
returns-in-Some-clause-ok g c =
    let es = c.args.self.now.entries.entries in
    let there : IsSome (lookup (bytes_eq c.as_slice-bytes.result.now) es) =
    subst IsSome (ap option_copied_mut (sym c.in-Some.is) ∙ c.get_mut.ensures.value) refl in
    let u = (c.get_mut.follows.holds c.replace.new.dest).3 there in
    map_of-inserted c.as_slice-bytes.result.now es _ c.args.value (u.1 ∙ ap Some {x = c.replace.new.dest} c.replace.ensures.after) u.3
    ∙ ap (λ key. insert (map_of es) key c.args.value) c.as_slice-bytes.ensures.value

pub returns-then-is_err-clause-absent : goal.returns-then-is_err-clause-absent
returns-then-is_err-clause-absent g c =
    let es = c.args.self.now.entries.entries in
    ap (get (map_of es)) (sym c.as_slice-bytes.ensures.value) ∙ get-map_of es c.as_slice-bytes.result.now ∙ sym c.get_mut.ensures.value
    ∙ ap option_copied_mut c.in_default.is

-- there is room for a new key, and nothing else has changed
pub returns-clause-before : goal.returns-clause-before
returns-clause-before g c =
    let key = c.from-owned.result in
    let roomy = c.reserve.new.self.entries in
    let same = c.reserve.ensures.entries ∙ ap (λ table. table.entries) c.get_mut.follows.holds-at-none in
    let before : c.unwrap.result ≡ lookup (bytes_eq key) roomy =
    subst (λ r. IfOk r (λ old. old ≡ lookup (bytes_eq key) roomy)) c.unwrap.ensures c.insert.ensures.old in
    before ∙ ap (lookup (bytes_eq key)) same ∙ sym (get-map_of c.args.self.now.entries.entries key)
    ∙ ap (get (map_of c.args.self.now.entries.entries)) c.from-owned.ensures

pub returns-clause-ok : goal.returns-clause-ok
returns-clause-ok g c =
    let key = c.from-owned.result in
    let same = c.reserve.ensures.entries ∙ ap (λ table. table.entries) c.get_mut.follows.holds-at-none in
    let u =
    subst (λ r. OnOk r (Updates bytes_eq c.reserve.new.self c.insert.new.self key (Some c.args.value))) c.unwrap.ensures
    c.insert.ensures.updates in
    map_of-inserted key c.reserve.new.self.entries c.insert.new.self.entries c.args.value u.1 u.3
    ∙ ap (λ es. insert (map_of es) key c.args.value) same
    ∙ ap (λ k. insert (map_of c.args.self.now.entries.entries) k c.args.value) c.from-owned.ensures
