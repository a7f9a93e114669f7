use Rattle.std.proofs.Common.{◌≡◌, ◌+◌, ◌++◌, [], ◌∷◌, IsTrue, drop, sym, subst, ap, ◌∙◌}
use Rattle.std.proofs.lemmas.List.{drop_all, map-append}
use Rattle.std.specs.Option.{option_copied}
use Rattle.command_cases.proofs.Items.{covered_item, rest_item}
use Rattle.command_cases.specs.Shapes.{values_at}
use Rattle.set_commands.proofs.Found.{after, after-nothing, found-more, found-none, found-all}
use Rattle.set_commands.specs.Combination.{found_members, found_sets}
use Rattle.set_commands.specs.SetCommand.{sets_at}
use Rattle.texts.specs.Texts.{texts_of}
use Rattle.set_commands.proofs.sets.find_sets.Goals as goal

pub set_at-requires : goal.set_at-requires
set_at-requires g c =
    let covered = g.K.Keyspace.covered in
    let here = covered_item covered c.args.keys.now c.as_slice-key-items.result.now c.loop-key.key-index c.key-item.result
    c.as_slice-key-items.ensures c.loop-key-test.true c.key-item.is c.requires in
    subst (λ key. IsTrue (covered key)) (sym c.as_slice.ensures.value) here

pub loop-key-init : goal.loop-key-init
loop-key-init g c =
    let m = g.K.Keyspace.contents c.args.keyspace.now in
    let there = sets_at (values_at m (texts_of c.as_slice-key-items.result.now)) in
    ap (λ sets. after (found_sets sets) there) c.in_ok-sets.ensures.items ∙ after-nothing there
    ∙ ap (λ keys. sets_at (values_at m keys)) c.as_slice-key-items.ensures

pub loop-key-preserved : goal.loop-key-preserved
loop-key-preserved g c =
    let m = g.K.Keyspace.contents c.args.keyspace.now in
    let xs = c.as_slice-key-items.result.now in
    let i = c.loop-key.key-index in
    let k = c.as_slice.result.now in
    let ks = texts_of (drop (i + 1) xs) in
    let done = c.loop-key.sets.items in
    let left : texts_of (drop i xs) ≡ k ∷ ks =
    rest_item xs i c.key-item.result c.loop-key-test.true c.key-item.is ∙ ap (λ key. key ∷ ks) (sym c.as_slice.ensures.value) in
    let members = found_members (option_copied c.in-Ok.set) in
    let grown : found_sets c.push.new.self.items ≡ found_sets done ++ members ∷ [] =
    ap found_sets c.in_ok-push.ensures.items ∙ map-append (λ set. found_members (option_copied set)) done (c.in-Ok.set ∷ []) in
    found-more m k members (found_sets done) (found_sets c.push.new.self.items) (texts_of (drop i xs)) ks c.args.keys.now left
    c.in-Ok.ensures grown c.loop-key.invariant

pub returns-in_default : goal.returns-in_default
returns-in_default g c =
    let m = g.K.Keyspace.contents c.args.keyspace.now in
    let xs = c.as_slice-key-items.result.now in
    let i = c.loop-key.key-index in
    let k = c.as_slice.result.now in
    let ks = texts_of (drop (i + 1) xs) in
    let left : texts_of (drop i xs) ≡ k ∷ ks =
    rest_item xs i c.key-item.result c.loop-key-test.true c.key-item.is ∙ ap (λ key. key ∷ ks) (sym c.as_slice.ensures.value) in
    found-none m k (found_sets c.loop-key.sets.items) (texts_of (drop i xs)) ks c.args.keys.now left c.in_default.ensures
    c.loop-key.invariant

pub returns : goal.returns
returns g c =
    let m = g.K.Keyspace.contents c.args.keyspace.now in
    let xs = c.as_slice-key-items.result.now in
    let none_left : texts_of (drop c.loop-key.key-index xs) ≡ [] = ap texts_of (drop_all c.loop-key.key-index xs c.loop-key-test.false) in
    found-all m (found_sets c.loop-key.sets.items) (texts_of (drop c.loop-key.key-index xs)) c.args.keys.now none_left c.loop-key.invariant
