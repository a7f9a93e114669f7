use Rattle.std.proofs.Common.{ap}
use Rattle.resp_decoder.specs.Decoding.{DecoderView}
use Rattle.resp_decoder.proofs.Answering.{fails_from}
use Rattle.resp_decoder.proofs.decoder.Decoder.next.Goals as goal

pub returns-in_default-fault : goal.returns-in_default-fault
returns-in_default-fault c =
    let reads = rw c.in-Err-Bad.field-0-is at c.in-Err-Bad.ensures.reads in
    record {
      request = tt;
      waits = tt;
      fault = λ no_memory.
          fails_from c.self.inside.limits c.self.inside.progress c.self.inside.buffer.items c.deref.result.now c.self.inside.fault
          c.args.self.now.held c.fail.new.self.held c.in-Err-Bad.fault (ap (λ (v : DecoderView). v.held) c.self.view_is) c.in_default.is
          c.deref.ensures.value (reads no_memory) c.fail.ensures.held;
      memory = λ is_memory. absurd (c.in_default-fault.not-Memory is_memory);
      wants = λ is_memory. absurd (c.in_default-fault.not-Memory is_memory);
      count_alone = c.fail.ensures.count_alone;
    }
