use Rattle.std.proofs.Common.{rules, ◌≤◌, ◌++◌, ◌∷◌, [], length, ap, sym, ◌∙◌, subst, arith}
use Rattle.resp.specs.Content.{content}
use Rattle.resp.specs.Text.{text}
use Rattle.packing.specs.Codes.{words_at}
use Rattle.journal.specs.Views.{row_view}
use Rattle.journal.specs.LongRows.{all_whole, packed_reply}
use Rattle.journal.specs.declared.long_rows.TheConstants.{LONG_WORDS}
use Rattle.journal.specs.declared.packed_rows.TheConstants.{NO_WORDS}
use Rattle.resp.specs.declared.answered.TheConstants.{LONG}
use Rattle.journal.proofs.CodeLaws.{words-read}
use Rattle.journal.proofs.LongRows.{IsSeen, short-seen, long-seen, packed_is_short, reply_is_short}
use Rattle.journal.proofs.rows.Rows.push.Goals as goal
use Rattle.journal.proofs.rows.Rows.push.Goals.{After-drop-words-inside, After-push_reserved}

short : (c : After-drop-words-inside) → IsSeen c.self.inside.long.items (all_whole c.self.inside.long.items 0 c.self.inside.packed.rows)
    (row_view c.args.id c.args.stamp.now c.args.words (text (content c.args.answered.reply))) c.push.new.self.rows
short c =
    let lie = c.as_bytes-then-as_bytes-le-LONG_WORDS.ensures in
    let words = words-read c.args.words _ lie.code lie.fit in
    short-seen c.self.inside.long.items c.self.inside.packed.rows _ _ c.self.invariant.ascend
    (c.push.ensures.pushed ∙ ap (λ ws. c.self.inside.packed.rows ++ row_view c.args.id c.args.stamp.now ws
    (text (content c.args.answered.reply)) ∷ []) words)

long : (c : After-push_reserved) → IsSeen c.push_reserved.new.self.items
    (all_whole c.self.inside.long.items 0 c.self.inside.packed.rows)
    (row_view c.args.id c.args.stamp.now c.args.words (text (content c.args.answered.reply))) c.push_without_words.new.self.rows
long c =
    let reply = text (content c.args.answered.reply) in
    let rows = c.self.inside.packed.rows in
    long-seen c.self.inside.long.items c.push_reserved.new.self.items
    (record { place = c.len-place.result; words = c.args.words; text = c.args.answered.text }) rows _ c.args.id c.args.stamp.now
    (words_at NO_WORDS).0 reply c.self.invariant.ascend c.len-place.ensures c.args.answered.is_kept
    (c.push_without_words.ensures.pushed ∙ ap (λ block. rows ++ row_view c.args.id c.args.stamp.now (words_at NO_WORDS).0
    (packed_reply block reply) ∷ []) c.as_slice.ensures.value)
    c.push_reserved.ensures.items

pub invariant_of-self : goal.invariant_of-self
invariant_of-self c =
    let room = c.self.invariant.room in
    let reply = reply_is_short c.args.answered.text.items (text (content c.args.answered.reply)) (search rules) c.args.answered.is_short in
    let words : length c.as_bytes-then-as_bytes-le-LONG_WORDS.result.now ≤ LONG_WORDS = search rules in
    record {
      ascend = (short (goal.at.invariant_of-self c).After-drop-words-inside).ascend;
      room = record {
        bytes = omega (arith, room.bytes, c.push.ensures.bytes, reply, words, c.requires.room);
        ends = omega (arith, room.ends, c.push.ensures.ends, c.requires.room);
        beside = omega (arith, room.beside, c.requires.room);
      };
    }

pub returns-then-as_bytes-le-LONG_WORDS-clause-pushed : goal.returns-then-as_bytes-le-LONG_WORDS-clause-pushed
returns-then-as_bytes-le-LONG_WORDS-clause-pushed c =
    (short c).seen ∙ ap (λ v. v.rows ++ row_view c.args.id c.args.stamp.now c.args.words (text (content c.args.answered.reply)) ∷ [])
    c.self.view_is

pub invariant_of-self-2 : goal.invariant_of-self-2
invariant_of-self-2 c =
    let room = c.self.invariant.room in
    let reply = subst (λ block. length (packed_reply block (text (content c.args.answered.reply))) ≤ LONG) (sym c.as_slice.ensures.value)
    (packed_is_short c.args.answered.text.items (text (content c.args.answered.reply)) c.args.answered.is_short) in
    record {
      ascend = (long (goal.at.invariant_of-self-2 c).After-push_reserved).ascend;
      room = record {
        bytes = omega (arith, room.bytes, c.push_without_words.ensures.bytes, reply, c.requires.room);
        ends = omega (arith, room.ends, c.push_without_words.ensures.ends, c.requires.room);
        beside = omega (arith, room.beside, c.requires.room);
      };
    }

pub returns-clause-pushed : goal.returns-clause-pushed
returns-clause-pushed c =
    (long c).seen ∙ ap (λ v. v.rows ++ row_view c.args.id c.args.stamp.now c.args.words (text (content c.args.answered.reply)) ∷ [])
    c.self.view_is
