use Rattle.std.proofs.Common.{◌≡◌, ◌∙◌, ℕ, Bool, false, List, sym, subst}
use Rattle.std.proofs.lemmas.Result.{err_from_is_err_and}
use Rattle.journal.specs.declared.step.Step.{Step}
use Rattle.placement.specs.Layout.{Layout}
use Rattle.replay.specs.Replay.{IsFaultOf}
use Rattle.replay.specs.declared.fault.ReplayFault.{ReplayFault}
use Rattle.system.specs.Reads.{table_of}
use Rattle.picture.proofs.Recording.{facts_are, ran_first}
use Rattle.picture.proofs.making.facts_of.Goals as goal

pub make_all-requires : goal.make_all-requires
make_all-requires g c =
    ran_first c.args.table c.max.result c.in_ok-system.system c.new-flights.result c.new-recorder.result c.in_ok-system.ensures
    c.new-flights.ensures.packets c.new-flights.ensures.flying c.new-recorder.ensures

-- a fault of these steps over this table, as it was told
fault_so : (may_refuse : Bool) (t l : Layout) (most limit : ℕ) (steps made : List Step) {told fault : ReplayFault} →
    l ≡ t → limit ≡ most → made ≡ steps → told ≡ fault → IsFaultOf may_refuse l limit made fault → IsFaultOf may_refuse t most steps told
fault_so may_refuse t l most limit steps made {told} {fault} table max are same is =
    subst (λ f. IsFaultOf may_refuse t most steps f) (sym same)
    (subst (λ k. IsFaultOf may_refuse k most steps fault) table
    (subst (λ n. IsFaultOf may_refuse l n steps fault) max
    (subst (λ ss. IsFaultOf may_refuse l limit ss fault) are is)))

pub returns-in_err-words-clause-fault : goal.returns-in_err-words-clause-fault
returns-in_err-words-clause-fault g c =
    let new = c.in_ok-system.system in
    let p = err_from_is_err_and c.from_residual-in_err-words.result c.from_residual-in_err-words.ensures.1 in
    rw p.1
    (fault_so false c.args.table (table_of new) c.args.trace.now.max new.max_steps c.args.trace.now.steps c.steps.result
    c.in_ok-system.ensures.table (c.in_ok-system.ensures.max_steps ∙ c.max.ensures.max) c.steps.ensures.steps p.2
    c.in_err-words.ensures.fault)

pub returns-clause-facts : goal.returns-clause-facts
returns-clause-facts g c =
    let facts = c.into_facts.ensures in
    facts_are c.args.table (table_of c.in_ok-system.system) c.in_ok-system.system.max_steps c.steps.result c.args.trace.now.steps
    c.make_all.new.system c.make_all.new.flights c.make_all.new.recorder c.into_facts.result c.in_ok-words.ensures.made
    c.in_ok-system.ensures.table c.steps.ensures.steps (facts.groups ∙ c.shards-groups.ensures.value)
    (facts.steps ∙ c.in_ok-words.ensures.words) facts.packets facts.receipts facts.deliveries facts.layers facts.replies
