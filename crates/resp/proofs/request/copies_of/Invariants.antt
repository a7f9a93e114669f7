use Rattle.std.proofs.Common.{◌≡◌, take}
use Rattle.texts.specs.Texts.{texts_of}
use Rattle.resp.proofs.request.copies_of.Given as goal

-- the words read so far have their copies
abbrev pub invariant-loop-word : goal.invariant-loop-word
invariant-loop-word l = texts_of l.copies.items ≡ texts_of (take l.word-index l.words)
