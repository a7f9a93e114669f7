use Rattle.std.proofs.Common.{◌≡◌, ◌+◌, ◌-◌, ◌<◌, [], ◌∷◌, ◌++◌, length, map, take, drop, ap, sym, subst, ◌∙◌, arith}
use Rattle.std.proofs.lemmas.List.{length-map, map-append}
use Rattle.std.specs.Str.{bytes_eq}
use Rattle.values.proofs.Lists.{IsTurned, turned_out, turned_on, turned_all, turned_back}
use Rattle.values.proofs.Mapped.{map-turned}
use Rattle.values.proofs.list_value.remove_from_head.Goals as goal
use Rattle.values.proofs.list_value.remove_from_head.Goals.{then-eq, else-eq}

pub loop-turn-preserved : goal.loop-turn-preserved
loop-turn-preserved c =
    let test = bytes_eq c.args.item.now in
    let most = c.args.most in
    let xs = map (λ t. t.items) c.args.texts.now.items in
    let i = c.loop-turn.turn in
    let left = c.loop-turn.left in
    let t = c.in-Some.text.items in
    let ys = map (λ t. t.items) c.pop_front.new.self.items in
    let there : map (λ t. t.items) c.loop-turn.texts.items ≡ t ∷ ys =
    ap (map (λ t. t.items)) c.in-Some.ensures.items in
    let turned : IsTurned test most xs i left (t ∷ ys) = subst (IsTurned test most xs i left) there c.loop-turn.invariant.turned in
    let long : length xs ≡ length c.args.texts.now.items = length-map c.args.texts.now.items (λ t. t.items) in
    let within : i < length xs = omega (arith, c.loop-turn-test.true, c.len-count.ensures, c.args.texts.now.ok.0) in
    let tested = ap test (sym c.as_slice.ensures.value) ∙ sym c.eq.ensures in
    elim c.if-eq.branch [
      | then-eq w ↦ record {
        turned =
            subst (IsTurned test most xs (i + 1) c.if-eq.left) (ap (λ q. map (λ t. t.items) q.items) (sym w.texts-is))
            (turned_out test most xs i left t ys turned within (tested ∙ w.if-eq.true)
            c.if-eq.left (omega (arith, w.left-is, c.if-left-eq0.false)));
        bound = omega (arith, ap (λ q. q.len) w.texts-is, c.in-Some.ensures.cases, c.loop-turn.invariant.bound);
      }
      | else-eq w ↦
          let behind : map (λ t. t.items) w.push_back_reserved.new.self.items ≡ ys ++ t ∷ [] =
          ap (map (λ t. t.items)) w.push_back_reserved.ensures.items
          ∙ map-append (λ t. t.items) c.pop_front.new.self.items (c.in-Some.text ∷ []) in
          record {
            turned =
                subst (λ n. IsTurned test most xs (i + 1) n (map (λ t. t.items) c.if-eq.texts.items)) (sym w.left-is)
                (subst (IsTurned test most xs (i + 1) left) (sym (ap (λ q. map (λ t. t.items) q.items) w.texts-is ∙ behind))
                (turned_on test most xs i left t ys turned within (λ _. tested ∙ w.if-eq.false)));
            bound = omega (
              arith,
              ap (λ q. q.len) w.texts-is,
              w.push_back_reserved.ensures.len,
              c.in-Some.ensures.cases,
              c.loop-turn.invariant.bound,
            );
          }
    ]

-- what was not reached is turned behind what stays
pub returns-then-left-eq0-clause-left : goal.returns-then-left-eq0-clause-left
returns-then-left-eq0-clause-left c =
    let test = bytes_eq c.args.item.now in
    let xs = map (λ t. t.items) c.args.texts.now.items in
    let i = c.loop-turn.turn in
    let ys = map (λ t. t.items) c.loop-turn.texts.items in
    let count = c.len-count.result in
    let long : count ≡ length xs =
    omega (arith, length-map c.args.texts.now.items (λ t. t.items), c.len-count.ensures, c.args.texts.now.ok.0) in
    let turned : IsTurned test c.args.most xs i 0 ys =
    subst (λ n. IsTurned test c.args.most xs i n ys) c.if-left-eq0.true c.loop-turn.invariant.turned in
    ap (map (λ t. t.items)) c.rotate_left.ensures.items
    ∙ map-turned (λ t. t.items) c.loop-turn.texts.items (count - i)
    ∙ ap (λ n. drop (n - i) ys ++ take (n - i) ys) long ∙ turned_back test c.args.most xs i ys turned

pub returns-clause-left : goal.returns-clause-left
returns-clause-left c =
    let xs = map (λ t. t.items) c.args.texts.now.items in
    let long : length xs ≡ length c.args.texts.now.items = length-map c.args.texts.now.items (λ t. t.items) in
    turned_all (bytes_eq c.args.item.now) c.args.most xs c.loop-turn.turn c.loop-turn.left
    (map (λ t. t.items) c.loop-turn.texts.items) c.loop-turn.invariant.turned
    (omega (arith, long, c.loop-turn-test.false, c.len-count.ensures, c.args.texts.now.ok.0))
