-- How the refusals of the parts are told.
use Rattle.front.specs.declared.fault.FrontFault.{FrontFault}
use Rattle.front.specs.declared.fault.FrontFault.TheVariants.{Busy, NoConn, NoPacket, Memory}
use Rattle.multicast.specs.declared.multicast.DeliverFault.{DeliverFault}
use Rattle.multicast.specs.declared.multicast.DeliverFault.TheVariants as deliver
use Rattle.router.specs.declared.submission.SubmitFault.{SubmitFault}
use Rattle.router.specs.declared.submission.SubmitFault.TheVariants as submit

abbrev pub of_submit : SubmitFault → FrontFault
of_submit submit.Busy = Busy
of_submit submit.NoConn = NoConn
of_submit submit.Memory = Memory

abbrev pub of_deliver : DeliverFault → FrontFault
of_deliver deliver.NoPacket = NoPacket
of_deliver deliver.Memory = Memory
