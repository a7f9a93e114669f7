-- What the program has written.
use Rattle.std.specs.Prelude.{◌≡◌, ℕ, List, [], Option, map, length}
use Rattle.std.specs.List.{AllByRecursion}
use Rattle.std.specs.Io.KnownBytes.{Appends}
use Rattle.journal.specs.TraceText.{Spells}
use Rattle.journal.specs.declared.step.Step.{Step}
use Rattle.picture.specs.Arrivals.{delivered_by, delivery_in, receipt_in, received_by}
use Rattle.picture.specs.Layers.{layer_in, layers_by, replied_by, reply_in}
use Rattle.picture.specs.Run.{AreFlying, InEach, IsPast, Moment, Walks, made_by, steps_of, told_by}
use Rattle.picture.specs.Words.{word_of}
use Rattle.picture_shapes.specs.Drawn.{IsPictureOf}
use Rattle.picture_shapes.specs.Svg.{svg_text}
use Rattle.picture_shapes.specs.declared.drawn.Picture.{Picture}
use Rattle.picture_shapes.specs.declared.facts.RunFacts.{RunFacts}
use Rattle.placement.specs.Layout.{Layout, IsTableOf}
use Rattle.world.specs.Steps.{opening}

-- The facts of the run of these steps over this table's shards: the steps lead through worlds, and in each of these the packets
-- under way are those of the facts that are sent before it and not received before it, in the order of their sending. The
-- receipts, deliveries, layers and replies are those that the worlds tell, step by step.
pub record IsFactsOf (t : Layout) (steps : List Step) (facts : RunFacts) : Type 0 where
  pub groups : facts.groups ≡ t.shards
  pub words : facts.steps.items ≡ map word_of steps
  pub run : List Moment
  pub steps_are : steps_of run ≡ steps
  pub walks : Walks t opening run
  pub packets : InEach (AreFlying facts.packets.items) 0 opening run
  pub in_time : AllByRecursion (IsPast (length steps)) facts.packets.items
  pub receipts : map receipt_in facts.receipts.items ≡ told_by received_by 0 opening run
  pub deliveries : map delivery_in facts.deliveries.items ≡ told_by delivered_by 0 opening run
  pub layers : map layer_in facts.layers.items ≡ made_by layers_by 0 opening run []
  pub replies : map reply_in facts.replies.items ≡ told_by replied_by 0 opening run

-- the texts are a table and a trace, and the picture of these steps of that trace over this table's shards was written
pub record IsTold (table trace : List ℕ) (from to : ℕ) (before after : Option (List ℕ)) : Type 0 where
  pub layout : Layout
  pub max : ℕ
  pub steps : List Step
  pub facts : RunFacts
  pub picture : Picture
  pub is_table : IsTableOf table layout
  pub spells : Spells trace max steps
  pub of_run : IsFactsOf layout steps facts
  pub drawn : IsPictureOf facts from to picture
  pub written : Appends before after (svg_text picture)
