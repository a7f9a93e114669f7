use Rattle.std.proofs.Common.{◌≡◌, take}
use Rattle.set_commands.specs.Lent.{lent_texts}
use Rattle.texts.specs.Texts.{texts_of}
use Rattle.set_commands.proofs.combine.copies.Given as goal

-- the texts so far are copied
abbrev pub invariant-loop-text : goal.invariant-loop-text
invariant-loop-text l = texts_of l.copies.items ≡ lent_texts (take l.text-index l.texts)
