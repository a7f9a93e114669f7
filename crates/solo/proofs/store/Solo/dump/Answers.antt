use Rattle.std.proofs.Common.{◌≡◌, ◌++◌, OnOk, ap, subst, ◌∙◌}
use Rattle.std.specs.FinMap.{entries}
use Rattle.dumps.proofs.Orders.{with_entries-empty}
use Rattle.dumps.specs.Dump.{dump_text}
use Rattle.keyspace.specs.Map.{Map, with_entries}
use Rattle.keyspace.specs.Plain.{map_of}
use Rattle.solo.proofs.store.Solo.dump.Goals as goal

pub returns-clause-ok : goal.returns-clause-ok
returns-clause-ok g c =
    let held : Map = map_of c.self.inside.keys.entries.entries in
    subst (λ m. OnOk c.write.result (c.write.new.out.items ≡ c.args.out.now.items ++ dump_text m))
    (c.in_ok-add_all.ensures ∙ ap (λ m. with_entries m (entries held)) c.new-dump.ensures ∙ with_entries-empty held ∙ c.self.view_is)
    c.write.ensures.ok
