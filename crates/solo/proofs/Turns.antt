-- Runs of a store, one thing after another.
use Rattle.std.proofs.Common.{◌≡◌, List, [], ◌∷◌, ◌++◌, length, ap, sym, ◌∙◌, subst, refl, inl, inr}
use Rattle.tasks.specs.Command.{TakesMemory}
use Rattle.command_table.specs.declared.command.Command.{Command}
use Rattle.resp.specs.Content.{Content}
use Rattle.keyspace.specs.Map.{Map}
use Rattle.solo.specs.Solo.{solo_from, RunsBeginning}

-- there was no memory for the list of the replies
pub none_ran : (commands : List Command) (m : Map) → (length commands ≡ 0 → ⊥) → RunsBeginning commands m m
none_ran [] m some = absurd (some refl)
none_ran (command ∷ commands) m some =
    record { done = []; next = command; others = commands; split = refl; run = refl; wants = inr refl }

-- there was none for the next command
pub some_ran : (commands done left others : List Command) (next : Command) (old now new : Map) (replies : List Content)
    → left ≡ next ∷ others → commands ≡ done ++ left → (now, replies) ≡ solo_from old done → new ≡ now → TakesMemory next now
    → RunsBeginning commands old new
some_ran commands done left others next old now new replies first split run same wants = record {
  done = done;
  next = next;
  others = others;
  split = split ∙ ap (λ l. done ++ l) first;
  run = same ∙ ap (λ v. v.0) run;
  wants = inl (subst (TakesMemory next) (sym same) wants);
}
