use Rattle.std.proofs.Common.{◌∙◌, ap, sym, refl}
use Rattle.picture.proofs.Lasts.{put_none, put_one}
use Rattle.std.specs.Prelude.{option_copied}
use Rattle.picture.proofs.layers.put_reply.Goals as goal

pub returns-in_default : goal.returns-in_default
returns-in_default c =
    put_none c.args.step c.args.system.now c.args.job.now.asked.id c.args.replies.now.items
    (sym c.waits.ensures ∙ ap option_copied c.in_default.is)

pub returns : goal.returns
returns c =
    put_one c.args.step c.args.system.now (record { step = c.args.step; asked = c.args.job.now.asked }) c.args.replies.now.items
    c.push.new.self.items c.in-Some.field-0.now (sym c.waits.ensures ∙ ap option_copied c.in-Some.is) c.in_ok-push.ensures.items refl
