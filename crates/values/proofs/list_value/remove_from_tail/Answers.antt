use Rattle.std.proofs.Common.{◌≡◌, ◌+◌, ◌-◌, ◌<◌, [], ◌∷◌, ◌++◌, length, map, take, drop, reverse, ap, sym, subst, ◌∙◌, arith}
use Rattle.std.proofs.lemmas.List.{length-map, length-reverse, reverse-reverse}
use Rattle.std.specs.Str.{bytes_eq}
use Rattle.values.proofs.Lists.{IsTurned, turned_out, turned_on, turned_all, turned_forth}
use Rattle.values.proofs.Mapped.{map-turned, reverse-map_pushed, reverse-map_cons}
use Rattle.values.proofs.list_value.remove_from_tail.Goals as goal
use Rattle.values.proofs.list_value.remove_from_tail.Goals.{then-eq, else-eq}

pub loop-turn-preserved : goal.loop-turn-preserved
loop-turn-preserved c =
    let test = bytes_eq c.args.item.now in
    let most = c.args.most in
    let xs = reverse (map (λ t. t.items) c.args.texts.now.items) in
    let i = c.loop-turn.turn in
    let left = c.loop-turn.left in
    let t = c.in-Some.text.items in
    let ys = reverse (map (λ t. t.items) c.pop_back.new.self.items) in
    let there : reverse (map (λ t. t.items) c.loop-turn.texts.items) ≡ t ∷ ys =
    ap (λ l. reverse (map (λ t. t.items) l)) c.in-Some.ensures.items
    ∙ reverse-map_pushed (λ t. t.items) c.pop_back.new.self.items c.in-Some.text in
    let turned : IsTurned test most xs i left (t ∷ ys) = subst (IsTurned test most xs i left) there c.loop-turn.invariant.turned in
    let long : length xs ≡ length c.args.texts.now.items = length-reverse (map (λ t. t.items) c.args.texts.now.items)
    ∙ length-map c.args.texts.now.items (λ t. t.items) in
    let within : i < length xs = omega (arith, c.loop-turn-test.true, c.len-count.ensures, c.args.texts.now.ok.0) in
    let tested = ap test (sym c.as_slice.ensures.value) ∙ sym c.eq.ensures in
    elim c.if-eq.branch [
      | then-eq w ↦ record {
        turned =
            subst (IsTurned test most xs (i + 1) c.if-eq.left) (ap (λ q. reverse (map (λ t. t.items) q.items)) (sym w.texts-is))
            (turned_out test most xs i left t ys turned within (tested ∙ w.if-eq.true)
            c.if-eq.left (omega (arith, w.left-is, c.if-left-eq0.false)));
        bound = omega (arith, ap (λ q. q.len) w.texts-is, c.in-Some.ensures.cases, c.loop-turn.invariant.bound);
      }
      | else-eq w ↦
          let behind : reverse (map (λ t. t.items) w.push_front_reserved.new.self.items) ≡ ys ++ t ∷ [] =
          ap (λ l. reverse (map (λ t. t.items) l)) w.push_front_reserved.ensures.items
          ∙ reverse-map_cons (λ t. t.items) c.in-Some.text c.pop_back.new.self.items in
          record {
            turned =
                subst (λ n. IsTurned test most xs (i + 1) n (reverse (map (λ t. t.items) c.if-eq.texts.items))) (sym w.left-is)
                (subst (IsTurned test most xs (i + 1) left) (sym (ap (λ q. reverse (map (λ t. t.items) q.items)) w.texts-is ∙ behind))
                (turned_on test most xs i left t ys turned within (λ _. tested ∙ w.if-eq.false)));
            bound = omega (
              arith,
              ap (λ q. q.len) w.texts-is,
              w.push_front_reserved.ensures.len,
              c.in-Some.ensures.cases,
              c.loop-turn.invariant.bound,
            );
          }
    ]

-- what was not reached is turned before what stays
pub returns-then-left-eq0-clause-left : goal.returns-then-left-eq0-clause-left
returns-then-left-eq0-clause-left c =
    let test = bytes_eq c.args.item.now in
    let xs = reverse (map (λ t. t.items) c.args.texts.now.items) in
    let i = c.loop-turn.turn in
    let lies = c.loop-turn.texts.items in
    let zs = map (λ t. t.items) lies in
    let count = c.len-count.result in
    let long : count ≡ length xs =
    omega (
      arith,
      length-reverse (map (λ t. t.items) c.args.texts.now.items),
      length-map c.args.texts.now.items (λ t. t.items),
      c.len-count.ensures,
      c.args.texts.now.ok.0,
    ) in
    let many : c.loop-turn.texts.len ≡ length zs = omega (arith, length-map lies (λ t. t.items), c.loop-turn.texts.ok.0) in
    let turned : IsTurned test c.args.most xs i 0 (reverse zs) =
    subst (λ n. IsTurned test c.args.most xs i n (reverse zs)) c.if-left-eq0.true c.loop-turn.invariant.turned in
    ap (map (λ t. t.items)) c.rotate_right.ensures.items
    ∙ map-turned (λ t. t.items) lies (c.loop-turn.texts.len - (count - i))
    ∙ ap (λ n. drop (n - (count - i)) zs ++ take (n - (count - i)) zs) many
    ∙ ap (λ n. drop (length zs - (n - i)) zs ++ take (length zs - (n - i)) zs) long
    ∙ turned_forth test c.args.most xs i zs turned

pub returns-clause-left : goal.returns-clause-left
returns-clause-left c =
    let xs = reverse (map (λ t. t.items) c.args.texts.now.items) in
    let long : length xs ≡ length c.args.texts.now.items = length-reverse (map (λ t. t.items) c.args.texts.now.items)
    ∙ length-map c.args.texts.now.items (λ t. t.items) in
    let done = turned_all (bytes_eq c.args.item.now) c.args.most xs c.loop-turn.turn c.loop-turn.left
    (reverse (map (λ t. t.items) c.loop-turn.texts.items)) c.loop-turn.invariant.turned
    (omega (arith, long, c.loop-turn-test.false, c.len-count.ensures, c.args.texts.now.ok.0)) in
    sym (reverse-reverse (map (λ t. t.items) c.loop-turn.texts.items)) ∙ ap reverse done
