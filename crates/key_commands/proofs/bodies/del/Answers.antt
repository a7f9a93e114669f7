use Rattle.std.proofs.Common.{◌≡◌, ◌+◌, List, [], ◌∷◌, cond, drop, IsTrue, is_some, arith, sym, ap, subst, ◌∙◌}
use Rattle.std.proofs.lemmas.List.{drop_all}
use Rattle.std.specs.FinMap.{get, remove, len}
use Rattle.command_cases.specs.Replies.{count}
use Rattle.resp.specs.Content.{content}
use Rattle.command_cases.proofs.Items.{covered_item, rest_item}
use Rattle.keyspace.proofs.Counts.{without-cons, without-nil, len-restrict-cons, len-restrict-nil}
use Rattle.keyspace.specs.Map.{Map, restrict, without}
use Rattle.texts.specs.Texts.{Bytes, texts_of}
use Rattle.key_commands.proofs.bodies.del.Goals as goal
use Rattle.key_commands.proofs.bodies.del.Goals.{then-is_some, else-is_some}

-- one key taken from the map, and from those that are left
without_turn : (m n : Map) (k : Bytes) (rest ks : List Bytes) → n ≡ remove m k → rest ≡ k ∷ ks → without n ks ≡ without m rest
without_turn m n k rest ks taken left = ap (λ a. without a ks) taken ∙ sym (without-cons m k ks) ∙ ap (without m) (sym left)

len_turn : (m n : Map) (k : Bytes) (rest ks : List Bytes) → n ≡ remove m k → rest ≡ k ∷ ks
    → len (restrict m rest) ≡ cond (is_some (get m k)) 1 0 + len (restrict n ks)
len_turn m n k rest ks taken left =
    ap (λ a. len (restrict m a)) left ∙ len-restrict-cons m k ks ∙ ap (λ a. cond (is_some (get m k)) 1 0 + len (restrict a ks)) (sym taken)

pub take-requires : goal.take-requires
take-requires g c =
    let keys = c.as_slice-key-items.result.now in
    let here = covered_item g.K.Keyspace.covered c.args.keys keys c.loop-key.key-index c.key-item.result
    c.as_slice-key-items.ensures c.loop-key-test.true c.key-item.is c.requires in
    subst (λ key. IsTrue (g.K.Keyspace.covered key)) (sym c.as_slice.ensures.value) here

pub loop-key-preserved : goal.loop-key-preserved
loop-key-preserved g c =
    let xs = c.as_slice-key-items.result.now in
    let i = c.loop-key.key-index in
    let rest = texts_of (drop i xs) in
    let ks = texts_of (drop (i + 1) xs) in
    let m = g.K.Keyspace.contents c.loop-key.keyspace in
    let n = g.K.Keyspace.contents c.take.new.self in
    let k = c.as_slice.result.now in
    let left : rest ≡ k ∷ ks = rest_item xs i c.key-item.result c.loop-key-test.true c.key-item.is
    ∙ ap (λ key. key ∷ ks) (sym c.as_slice.ensures.value) in
    let counted : len (restrict m rest) ≡ cond c.is_some.result 1 0 + len (restrict n ks) =
    len_turn m n k rest ks c.take.ensures.removed left
    ∙ ap (λ b. cond b 1 0 + len (restrict n ks)) {x = is_some (get m k)} (ap is_some {x = get m k} (sym c.take.ensures.before)
    ∙ sym c.is_some.ensures) in
    record {
      bounded = elim c.if-is_some.branch [ then-is_some w ↦ omega arith | else-is_some w ↦ omega arith ];
      removes = without_turn m n k rest ks c.take.ensures.removed left ∙ c.loop-key.invariant.removes;
      counts = elim c.if-is_some.branch [
        | then-is_some w ↦ omega (arith, counted, ap (λ b. cond b 1 0 + len (restrict n ks)) w.if-is_some.true, c.loop-key.invariant.counts)
        | else-is_some w ↦ omega (
          arith,
          counted,
          ap (λ b. cond b 1 0 + len (restrict n ks)) w.if-is_some.false,
          c.loop-key.invariant.counts,
        )
      ];
    }

pub returns-clause-done : goal.returns-clause-done
returns-clause-done g c =
    let m = g.K.Keyspace.contents c.loop-key.keyspace in
    let xs = c.as_slice-key-items.result.now in
    let rest = texts_of (drop c.loop-key.key-index xs) in
    let none_left : rest ≡ [] = ap (texts_of) (drop_all c.loop-key.key-index xs c.loop-key-test.false) in
    let gone : m ≡ without (g.K.Keyspace.contents c.args.keyspace.now) c.args.keys =
    sym (without-nil m) ∙ ap (without m) (sym none_left) ∙ c.loop-key.invariant.removes in
    let none_counted : len (restrict m rest) ≡ 0 = ap (λ ks. len (restrict m ks)) none_left ∙ len-restrict-nil m in
    let all_counted : c.loop-key.removed ≡ len (restrict (g.K.Keyspace.contents c.args.keyspace.now) c.args.keys) =
    omega (arith, none_counted, c.loop-key.invariant.counts) in
    ap (λ n. (n, content c.count_reply.result)) gone
    ∙ ap (λ r. (without (g.K.Keyspace.contents c.args.keyspace.now) c.args.keys, r)) (c.count_reply.ensures ∙ ap count all_counted)
