use Rattle.std.proofs.Common.{◌≡◌, ◌+◌, ◌++◌, List, ◌∷◌, [], IsTrue, map, drop, sym, subst, ap, ◌∙◌, append_assoc}
use Rattle.std.proofs.lemmas.List.{append-nil, drop_all, map-append}
use Rattle.std.specs.FinMap.{get}
use Rattle.std.specs.Option.{option_copied}
use Rattle.command_cases.proofs.Items.{covered_item, rest_item}
use Rattle.command_cases.specs.Shapes.{values_at}
use Rattle.keyspace.specs.Map.{Map}
use Rattle.resp.proofs.Contents.{content-Bulks}
use Rattle.resp.specs.Content.{Content, text_or_null, content, contents, Several}
use Rattle.resp.specs.declared.reply.Reply.TheVariants.{Bulks}
use Rattle.string_commands.specs.StringCommand.{string_or_null}
use Rattle.texts.specs.Texts.{Bytes, texts_of}
use Rattle.string_commands.proofs.many.mget.Goals as goal

-- what is answered to some keys
abbrev answers : Map → List Bytes → List Content
answers m keys = map string_or_null (values_at m keys)

-- one more reply, to the first of the keys that are left
one_more : (m : Map) (k : Bytes) (said : Content) (done now : List Content) (rest ks all : List Bytes) → rest ≡ k ∷ ks →
    said ≡ string_or_null (get m k)
    → now ≡ done ++ said ∷ [] → done ++ answers m rest ≡ answers m all → now ++ answers m ks ≡ answers m all
one_more m k said done now rest ks all left is grown before =
    ap (λ l. l ++ answers m ks) grown ∙ append_assoc done (said ∷ []) (answers m ks)
    ∙ ap (λ s. done ++ s ∷ answers m ks) is ∙ ap (λ l. done ++ answers m l) (sym left) ∙ before

pub string_at-requires : goal.string_at-requires
string_at-requires g c =
    let covered = g.K.Keyspace.covered in
    let here = covered_item covered c.args.keys c.as_slice-key-items.result.now c.loop-key.key-index c.key-item.result
    c.as_slice-key-items.ensures c.loop-key-test.true c.key-item.is c.requires in
    subst (λ key. IsTrue (covered key)) (sym c.as_slice.ensures.value) here

pub loop-key-init : goal.loop-key-init
loop-key-init g c =
    let m = g.K.Keyspace.contents c.args.keyspace.now in
    ap (λ found. map text_or_null (map option_copied found) ++ answers m (texts_of c.as_slice-key-items.result.now))
    c.in_ok-found.ensures.items
    ∙ ap (answers m) c.as_slice-key-items.ensures

pub loop-key-preserved : goal.loop-key-preserved
loop-key-preserved g c =
    let xs = c.as_slice-key-items.result.now in
    let i = c.loop-key.key-index in
    let m = g.K.Keyspace.contents c.args.keyspace.now in
    let found = c.loop-key.found.items in
    let done = map text_or_null (map option_copied found) in
    let ks = texts_of (drop (i + 1) xs) in
    let k = c.as_slice.result.now in
    let left : texts_of (drop i xs) ≡ k ∷ ks =
    rest_item xs i c.key-item.result c.loop-key-test.true c.key-item.is ∙ ap (λ key. key ∷ ks) (sym c.as_slice.ensures.value) in
    let now = map text_or_null (map option_copied c.push.new.self.items) in
    let said = text_or_null (option_copied c.string_at.result) in
    let grown : now ≡ done ++ said ∷ [] =
    ap (λ l. map text_or_null (map option_copied l)) c.in-Ok.ensures.items
    ∙ ap (map text_or_null) (map-append option_copied found (c.string_at.result ∷ []))
    ∙ map-append text_or_null (map option_copied found) (option_copied c.string_at.result ∷ []) in
    one_more m k said done now (texts_of (drop i xs)) ks c.args.keys left c.string_at.ensures grown c.loop-key.invariant

pub returns : goal.returns
returns g c =
    let m = g.K.Keyspace.contents c.args.keyspace.now in
    let xs = c.as_slice-key-items.result.now in
    let none_left : texts_of (drop c.loop-key.key-index xs) ≡ [] = ap texts_of (drop_all c.loop-key.key-index xs c.loop-key-test.false) in
    let found = map option_copied c.loop-key.found.items in
    let done = map text_or_null found in
    let whole : done ≡ answers m c.args.keys = sym (append-nil done) ∙ ap (λ ks. done ++ answers m ks) (sym none_left)
    ∙ c.loop-key.invariant in
    let texts = c.in_ok-copy_of.ensures ∙ ap (map option_copied) c.as_slice-2.ensures.value in
    record { done = ap (λ r. (m, r)) (ap (λ ts. content (Bulks ts)) texts ∙ content-Bulks found ∙ ap (λ l. Several (contents l)) whole) }
