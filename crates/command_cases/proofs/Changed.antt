-- A value that was lent and changed where it lies: what that makes of the map, and of a command's case.
use Rattle.std.proofs.Common.{◌≡◌, Option, Some, Result, Ok, Err, MutBor, sym, ap, subst, ◌∙◌}
use Rattle.std.specs.FinMap.{get, insert}
use Rattle.std.specs.Option.{OnSome, option_copied_mut}
use Rattle.command_cases.specs.Case.{Step, Does, at_key}
use Rattle.command_cases.specs.Changes.{Changes}
use Rattle.keyspace.proofs.Changes.{insert-as_it_was}
use Rattle.keyspace.specs.Map.{Map, set}
use Rattle.resp.specs.Content.{content}
use Rattle.resp.specs.declared.reply.Reply.{Reply}
use Rattle.texts.specs.Texts.{Bytes}
use Rattle.values.specs.declared.Value.{Value}

-- what a loan says of the case that something was lent holds where it was
pub lent : {o : Option (MutBor Value)} {x : MutBor Value} {P : Type 0} → o ≡ Some x → OnSome o P → P
lent {P = P} is holds = subst (λ r. OnSome r P) is holds

-- what was lent is what stands at the key
pub lent_there : {o : Option (MutBor Value)} {x : MutBor Value} {k : Bytes} (key : Bytes) (m : Map) → k ≡ key → o ≡ Some x
    → option_copied_mut o ≡ get m k → get m key ≡ Some x.now
lent_there key m same is seen = ap (get m) (sym same) ∙ sym seen ∙ ap option_copied_mut is

-- a step that was done on the value at a key was done on the map
done_there : {E : Type 0} (key : Bytes) (step : Step) (old new : Map) (v w : Value) (result : Result Reply E)
    → get old key ≡ Some v → new ≡ insert old key w → Changes step v w result → Does (at_key key step) old new result
done_there key step old new v w (Ok reply) there written done =
    ap (λ n. (n, content reply)) written ∙ ap (λ r. (set old key r.0, r.1)) (done ∙ ap step (sym there))
done_there key step old new v w (Err e) there written done =
    written ∙ ap (insert old key) done ∙ insert-as_it_was old key v there

-- the same by what the loan says
pub done_lent : {E : Type 0} {o : Option (MutBor Value)} {x : MutBor Value} {k : Bytes} (key : Bytes) (step : Step) (old new : Map)
    (w : Value) (result : Result Reply E) → k ≡ key → o ≡ Some x → option_copied_mut o ≡ get old k → new ≡ insert old k w
    → Changes step x.now w result → Does (at_key key step) old new result
done_lent {x = x} key step old new w result same is seen written done =
    done_there key step old new x.now w result (lent_there key old same is seen) (written ∙ ap (λ k. insert old k w) same) done
