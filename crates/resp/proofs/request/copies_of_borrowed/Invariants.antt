use Rattle.std.proofs.Common.{◌≡◌, map, take}
use Rattle.texts.specs.Texts.{texts_of}
use Rattle.resp.proofs.request.copies_of_borrowed.Given as goal

-- the words read so far have their copies
abbrev pub invariant-loop-word : goal.invariant-loop-word
invariant-loop-word l = texts_of l.copies.items ≡ map (λ w. w.now) (take l.word-index l.words)
