use Rattle.std.proofs.Common.{◌≡◌, Some, Result, Ok, Err, sym, ap, ◌∙◌}
use Rattle.std.specs.FinMap.{get, insert}
use Rattle.std.specs.Result.{OnOk, OnErr}
use Rattle.command_cases.proofs.Changed.{lent, lent_there}
use Rattle.hash_commands.specs.HashCommand.{some_pairs}
use Rattle.keyspace.proofs.Changes.{insert-as_it_was}
use Rattle.keyspace.specs.Map.{Map, set}
use Rattle.texts.specs.Texts.{Bytes}
use Rattle.values.specs.HashValue.{with_field}
use Rattle.values.specs.Value.{hash_value}
use Rattle.values.specs.declared.Value.{Value}
use Rattle.hash_commands.proofs.changes.set_field.Goals as goal

-- the field was set in the hash that was lent, and so in the map
set_lent : {A E : Type 0} (old new : Map) (k key field value : Bytes) (v w : Value) (result : Result A E) → k ≡ key → get old key ≡ Some v
    → new ≡ insert old k w
    → OnOk result (Some w ≡ hash_value (with_field (some_pairs (Some v)) field value))
    → OnOk result (new ≡ set old key (hash_value (with_field (some_pairs (get old key)) field value)))
set_lent old new k key field value v w (Ok x) same there written done =
    written ∙ ap (λ k. insert old k w) same ∙ ap (set old key) done
    ∙ ap (λ t. set old key (hash_value (with_field (some_pairs t) field value))) (sym there)
set_lent old new k key field value v w (Err e) same there written done = tt

kept_lent : {A E : Type 0} (old new : Map) (k key : Bytes) (v w : Value) (result : Result A E) → k ≡ key → get old key ≡ Some v
    → new ≡ insert old k w → OnErr result (w ≡ v) → OnErr result (new ≡ old)
kept_lent old new k key v w (Ok x) same there written kept = tt
kept_lent old new k key v w (Err e) same there written kept =
    written ∙ ap (λ k. insert old k w) same ∙ ap (insert old key) kept ∙ insert-as_it_was old key v there

pub returns-in-Some-clause-ok : goal.returns-in-Some-clause-ok
returns-in-Some-clause-ok g c =
    let old = g.K.Keyspace.contents c.args.keyspace.now in
    let there = lent_there c.args.key old c.as_slice.ensures c.in-Some.is c.look_mut.ensures.value in
    let written = lent c.in-Some.is (c.look_mut.follows.holds c.set_there.new.there) in
    set_lent old _ _ c.args.key c.args.field c.args.value _ c.set_there.new.there c.set_there.result c.as_slice.ensures there written
    c.set_there.ensures.ok

pub returns-in-Some-clause-err : goal.returns-in-Some-clause-err
returns-in-Some-clause-err g c =
    let old = g.K.Keyspace.contents c.args.keyspace.now in
    let there = lent_there c.args.key old c.as_slice.ensures c.in-Some.is c.look_mut.ensures.value in
    let written = lent c.in-Some.is (c.look_mut.follows.holds c.set_there.new.there) in
    kept_lent old _ _ c.args.key _ c.set_there.new.there c.set_there.result c.as_slice.ensures there written c.set_there.ensures.err
