-- A list of its own, which nobody has seen.
use Rattle.std.proofs.Common.{ℕ, List, [], ◌∷◌, ◌++◌, refl}
use mir.Syntax.{a_type}
use mir.Val.{Val, vstruct, vcons, vnil, of_list}
use mir.MapTy.{inst_fn}
use base.Logic.{emp}
use base.Fml.{fsep, feq}
use types.Kit.{‵, raw, ◌⊛◌, some, later, ◌$◌, ◌∵◌, !, qed, by, move, keep, split, fjoin, fpack, pick, await, use0, feq_i}
use types.Run.{no_more, and_then, enter, returns}
use types.ByLocal.{alloc_all, pass_all, free_all, look_at, get, sets}
use types.Part.{agg}
use contract.Monad.{fact_i}
use contract.Running.{tables}
use denote.RattleType.{RattleType, owns, Valss}
use denote.Signature.{types_at}
use denote.Steps.{nothing}
use denote.Param.{param, layouts}
use denote.Triple.Entry.{alive}
use denote.Triple.Walked.{walk_of}
use Rattle.std.proofs.raw_atomic.Walks.{proved}
use Rattle.history.specs.Kept.{latest_owns, reached_owns}
use Rattle.history.specs.contracts.tokens.Latest as Latest
use Rattle.history.specs.contracts.tokens.Reached as Reached
use Rattle.history.proofs.Steps.{begins}
use Rattle.history.proofs.Walks.{token, Token, token_made, ends}
use Rattle.history.specs.contracts.tokens.Latest.new.{ended, clauses}
use Rattle.history.specs.contracts.tokens.Latest.new.Key.{name as #self}
use Rattle.history.proofs.tokens.Latest.new.Statement.{statement}
use Rattle.history.proofs.tokens.Latest.new.Code as code

pub new_spec : {M : Type 1} → statement M
new_spec 𝓤 𝓛 𝓜 𝓡 wired E L =
    let 𝓣 = tables 𝓤 𝓛.H 𝓜 𝓡 𝓡.env in let E' : RattleType = param 0 E in let code' = E'.coded.code in let T = ended E in
    let inst = layouts (a_type ∷ []) (E, tt) in let fn = inst_fn inst code.function in let c = clauses E 𝓛 𝓜.mem 𝓡.returns in
    proved 𝓛 T tt c 𝓜 𝓡 tt (#self inst) fn (code.unfolded 𝓤 𝓛.H 𝓜 𝓡 wired (E, tt)) (λ κs. tt) (λ κs. tt) (λ κs qs bounds a gh are.
    let y : (walk_of 𝓛 T tt c).Ghost = ((κs, qs, bounds, a, tt), gh) in
    qed 𝓛 ((raw (alive 𝓛 T.signature κs qs) ⊛ ‵ (owns (types_at T.signature.params κs) a y.0.4)) ∷ raw ((c κs a).requires gh) ∷ []) ∵
    split ! $ keep ! (0 ∷ []) $ enter ! 𝓣.C 𝓣.Λ fn [] ((walk_of 𝓛 T tt c).post y) $ alloc_all ! (λ l. pass_all ! refl tt $
    -- [the lifetime; the locals]
    use0 𝓛 (later (some (λ (name : ℕ). ‵ (latest_owns code' name []) ⊛ ‵ (reached_owns code' name [])))) (begins 𝓛 E'.coded) $
    await ! tt $ pick ! (λ name. split ! $
    sets ! (agg ! (no_more !)) refl (tt, tt) $ sets ! (agg ! (and_then ! (get ! refl) (no_more !))) refl (tt, (tt, tt)) $
    sets ! (agg ! (no_more !)) refl (tt, tt) $ sets ! (agg ! (and_then ! (get ! refl) (no_more !))) refl (tt, (tt, tt)) $
    sets ! (agg ! (and_then ! (get ! refl) (and_then ! (get ! refl) (no_more !)))) refl (tt, ((tt, tt), ((tt, tt), tt))) $
    use0 𝓛 (‵ ((Token E').own_val (record {}, tt) (token ∷ []))) (token_made E' 𝓛) $ fjoin ! $
    use0 𝓛 (‵ ((Token E').own_val (record {}, tt) (token ∷ []))) (token_made E' 𝓛) $ move ! (0 ∷ 2 ∷ []) $ fjoin ! $
    -- [what was seen; the right to add; the lifetime; the locals]
    nothing ! $ move ! (1 ∷ 0 ∷ []) $ fjoin ! $ move ! (1 ∷ 0 ∷ []) $ fjoin ! $
    let v : Val = vstruct (vcons token (vcons token vnil)) in
    let Rs : List RattleType = Latest.the_row E' ∷ Reached.the_row E' ∷ [] in
    let all : (Latest.the_row E').Denot = record { marker = record {}; name = name; list = [] } in
    let seen : (Reached.the_row E').Denot = record { marker = record {}; name = name; list = [] } in
    feq_i ! (List Val) (v ∷ []) (v ∷ []) refl $ fjoin ! $
    fpack ! (Valss Rs)
    (λ vss. fsep (feq (List Val) (v ∷ []) (vstruct (of_list (vss.0 ++ (vss.1.0 ++ []))) ∷ [])) (owns Rs (all, (seen, tt)) vss))
    (token ∷ [], (token ∷ [], tt)) $
    nothing ! $ returns ! (look_at ! 0 refl) $ free_all ! refl $ keep ! (2 ∷ 0 ∷ 1 ∷ []) $
    by ! (ends 𝓛 T tt c y v (all, seen) tt tt (fact_i 𝓤 _ (emp 𝓤) (refl, refl, refl))))))
