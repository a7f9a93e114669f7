use Rattle.std.proofs.Common.{arith}
use Rattle.std.proofs.lemmas.List.{append_assoc}
use Rattle.packing.specs.Codes.{words_code}
use Rattle.packing.specs.CodeLaws.{word_code-is}
use Rattle.packing.proofs.ListLaws.{last_bytes}
use Rattle.packing.proofs.packed_list.put_list.Goals as goal

pub returns-clause-items : goal.returns-clause-items
returns-clause-items c =
    rw (
      c.put_words.ensures.items,
      c.put_number.ensures.items,
      c.in_ok-grow.ensures.items,
      word_code-is (words_code c.args.words.now),
      ← c.in-Some.ensures.0,
    )
    (simp append_assoc)

pub returns-clause-fits : goal.returns-clause-fits
returns-clause-fits c =
    record {
      own = c.in-Some.ensures.1;
      code = record {
        size = omega (arith, c.in-Some.ensures.0);
        bytes = last_bytes c.put_number.new.out.items _ c.put_words.new.out.items c.put_words.ensures.items c.type_inv.out;
      };
    }
