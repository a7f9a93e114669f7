use Rattle.std.proofs.Common.{◌≡◌, ◌∙◌, [], ap, cond, true}
use Rattle.router.specs.Lists.{is_listing, is_open_list}
use Rattle.router.proofs.Queuing.{queue_keeps_words, queue_runs_none}
use Rattle.router.proofs.listed.Listed.queue.Goals as goal

pub invariant_of-self-in-Ok-Now : goal.invariant_of-self-in-Ok-Now
invariant_of-self-in-Ok-Now c =
    let session = c.self.inside.session in
    let listed : is_open_list session ≡ true = ap (λ v. is_open_list v.session) c.self.view_is ∙ c.requires.open in
    let kept = c.keep_words.ensures ∙ ap (λ ws. cond (is_listing c.take.new.self) ws []) c.in_ok-push.ensures.pushed in
    queue_keeps_words session c.take.new.self _ c.self.inside.words c.keep_words.new.words c.args.words listed c.requires.other
    c.self.invariant c.in-Ok-Now.ensures.asks kept

pub unreachable-requires : goal.unreachable-requires
unreachable-requires c =
    let session = c.self.inside.session in
    let listed : is_open_list session ≡ true = ap (λ v. is_open_list v.session) c.self.view_is ∙ c.requires.open in
    let asked = rw c.in-Ok-Go.field-0-is at c.in-Ok-Go.ensures.asks in
    queue_runs_none session c.take.new.self c.args.words c.in-Ok-Go.field-0-0 listed c.requires.other asked
