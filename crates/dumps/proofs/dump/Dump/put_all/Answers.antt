use Rattle.std.proofs.Common.{[], ap, sym, ◌∙◌, ◌++◌}
use Rattle.std.proofs.lemmas.List.{append-nil}
use Rattle.std.specs.List.{flat_map}
use Rattle.dumps.specs.Dump.{entry_line, lent, dump_text}
use Rattle.dumps.proofs.Orders.{entries-lent}
use Rattle.dumps.proofs.dump.Dump.put_all.Goals as goal

pub loop-key-init : goal.loop-key-init
loop-key-init c =
    let es = c.self.inside.entries.entries in
    let out = c.args.out.now.items in (
      ([], sym (append-nil out)),
      ap (λ l. out ++ flat_map entry_line (lent l)) c.iter-entries.ensures.rest
          ∙ ap (λ l. out ++ flat_map entry_line l) (sym (entries-lent es c.iter-entries.ensures.ordered))
          ∙ ap (λ m. out ++ dump_text m) c.self.view_is,
    )
