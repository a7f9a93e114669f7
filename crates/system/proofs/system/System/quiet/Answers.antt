use Rattle.std.proofs.Common.{not, IsTrue, ◌↔◌, sym, ◌∙◌, subst}
use Rattle.std.proofs.lemmas.List.{nil_from_length}
use Rattle.system.proofs.Lasting.{seen}
use Rattle.system.proofs.Quiet.{quiet_by}
use Rattle.system.specs.System.{SystemView, IsQuiet}
use Rattle.system.proofs.system.System.quiet.Goals as goal

pub returns : goal.returns
returns c =
    subst (λ (s : SystemView). IsTrue (not c.has_ready.result) ↔ IsQuiet s) c.self.view_is
    (quiet_by c.has_ready.result (seen c.self.inside)
    (nil_from_length c.self.inside.halves.front.multicast.packets (sym c.packets.ensures ∙ c.if-packets-ne0.false)) c.in-Free.is
    c.has_ready.ensures)
