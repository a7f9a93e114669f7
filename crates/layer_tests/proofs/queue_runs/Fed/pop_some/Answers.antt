use Rattle.std.proofs.Common.{List, ◌∙◌, sym, subst}
use Rattle.skeen_core.specs.declared.packet.Delivered.{Delivered}
use Rattle.delivery.specs.Queues.{queue_of}
use Rattle.delivery.specs.Taking.{Poppable}
use Rattle.delivery.proofs.Layers.{layers_can_be_popped}
use Rattle.layer_tests.proofs.Seen.{seen_popped_all, poppable_take}
use Rattle.layer_tests.proofs.queue_runs.Fed.pop_some.Goals as goal

pub pop_all-requires : goal.pop_all-requires
pop_all-requires c =
    let queue = queue_of c.self.inside.queues.queues in
    let ready = c.in_ok-layer in
    subst (λ (ds : List Delivered). Poppable queue ds) (sym (c.as_slice.ensures.value ∙ c.truncate.ensures.items))
    (poppable_take c.args.count ready.layer.items queue
    (layers_can_be_popped queue ready.layer.items ready.ensures.sound ready.ensures.layer))

pub invariant_of-self : goal.invariant_of-self
invariant_of-self c = (
  c.pop_all.ensures.groups ∙ c.self.invariant.0,
  seen_popped_all c.self.inside.seen.items c.self.inside.queues.queues c.pop_all.new.self.queues c.as_slice.result.now
      c.pop_all.ensures.popped
      c.self.invariant.1,
)
