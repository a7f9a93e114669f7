-- The words of steps.
use Rattle.journal.specs.declared.step.Step.{Step}
use Rattle.journal.specs.declared.step.Step.TheVariants.{Open, Submit, Deliver, Take, Run, Settle, Collect, Close, Repeat}
use Rattle.picture_shapes.specs.declared.facts.StepWord.{StepWord}
use Rattle.picture_shapes.specs.declared.facts.StepWord.TheVariants as word

abbrev pub word_of : Step → StepWord
word_of Open = word.Open
word_of (Submit conn words) = word.Submit
word_of (Deliver place) = word.Deliver place
word_of Take = word.Take
word_of (Run starved) = word.Run
word_of Settle = word.Settle
word_of (Collect conn) = word.Collect
word_of (Close conn) = word.Close
word_of (Repeat place) = word.Repeat place
