-- Of two that were seen of a list one begins the other.
use Rattle.std.proofs.Common.{ℕ, List, [], ◌∷◌, ◌++◌, refl}
use mir.Syntax.{a_type, named}
use mir.Val.{Val, vunit}
use mir.MapTy.{inst_fn}
use base.Logic.{emp}
use base.Fml.{ftrue, flft, fhide}
use types.Kit.{‵, raw, ◌⊛◌, some, given, ◌$◌, ◌∵◌, !, qed, by, move, keep, drop, split, join, fsplit, fsplit3, fjoin, fjoin3, pick, learn}
use types.Kit.{use1, use2, rewrite, feq_i}
use types.Run.{of_opd, unit_lit, enter, returns}
use types.ByLocal.{alloc_all, pass_all, free_all, look_at, sets}
use contract.Lifetimes.{toks}
use contract.Monad.{fact, fact_i}
use contract.Running.{tables}
use denote.Exit.{yes}
use denote.RattleType.{RattleType, owns}
use denote.Signature.{types_at, plain}
use denote.Builtin.{RefOf}
use denote.Ref.{mut_vals, mut_Tells, shr_vals, shr_Tells}
use denote.Memory.{hidden_shr}
use denote.Opens.{unhide}
use denote.Steps.{nothing, opens, closes}
use denote.Param.{param, layouts}
use denote.Struct.Lending.{lent_out}
use denote.Triple.Walked.{Stays, stay_dropped, stay_ref, walk_of, Goes-dropped, Goes-ref}
use Rattle.std.specs.contracts.marker.PhantomData as marker
use Rattle.std.proofs.raw_atomic.Walks.{proved}
use Rattle.history.specs.Kept.{reached_owns}
use Rattle.history.specs.Orders.{IsLonger}
use Rattle.history.specs.contracts.tokens.Reached as Reached
use Rattle.history.proofs.Steps.{learns}
use Rattle.history.proofs.Walks.{Token, ends}
use Rattle.history.specs.contracts.tokens.Reached.learn.{ended, clauses}
use Rattle.history.specs.contracts.tokens.Reached.learn.Key.{name as #self}
use Rattle.history.proofs.tokens.Reached.learn.Statement.{statement}
use Rattle.history.proofs.tokens.Reached.learn.Code as code

pub learn_spec : {M : Type 1} → statement M
learn_spec 𝓤 𝓛 𝓜 𝓡 wired E L =
    let 𝓣 = tables 𝓤 𝓛.H 𝓜 𝓡 𝓡.env in let E' : RattleType = param 0 E in let row = Reached.the_row E' in let T = ended E in
    let inst = layouts (a_type ∷ []) (E, tt) in let fn = inst_fn inst code.function in let c = clauses E 𝓛 𝓜.mem 𝓡.returns in
    let ref = RefOf (1 ∷ []) tt (plain (λ _. row)) (λ _. tt) in
    let hs : Stays T.signature.params T.kept = (stay_ref (0 ∷ []) tt (plain (λ _. row)), (stay_dropped ref yes, tt)) in
    proved 𝓛 T hs c 𝓜 𝓡 (Goes-ref 𝓛 3 0 tt (plain (λ _. row)), (Goes-dropped 𝓛 3 ref yes (λ κs x f. refl), tt))
    (#self inst) fn (code.unfolded 𝓤 𝓛.H 𝓜 𝓡 wired (E, tt)) (λ κs. (mut_vals, (shr_vals, tt)))
    (λ κs. (mut_Tells (named 0) κs.0 row, (shr_Tells (named 1) κs.1.0 row, tt))) (λ κs qs bounds a gh are.
    let me = a.0.now in let b = a.0.ref_ptr.0 in let o = a.0.ref_ptr.1 in
    let other = a.1.0.now in let b' = a.1.0.ref_ptr.0 in let o' = a.1.0.ref_ptr.1 in
    let y : (walk_of 𝓛 T hs c).Ghost = ((κs, qs, bounds, a, (mut_vals a.0, (shr_vals a.1.0, tt))), gh) in
    qed 𝓛 (((‵ (flft κs.0 qs.0) ⊛ raw (toks 𝓛 2 κs.1 qs.1)) ⊛ ‵ (owns (types_at T.signature.params κs) a y.0.4))
    ∷ raw (fact 𝓤 _) ∷ given _ (‵ ftrue) ∷ []) ∵ keep ! (2 ∷ 0 ∷ []) $ learn ! (λ same. drop ! $
    split ! $ split ! $ move ! (2 ∷ []) $ fsplit ! $ fsplit3 ! $ move ! (3 ∷ []) $ fsplit ! $ fsplit ! $ keep ! (1 ∷ 4 ∷ 5 ∷ 6 ∷ 7 ∷ []) $
    enter ! 𝓣.C 𝓣.Λ fn (mut_vals a.0 ++ shr_vals a.1.0) ((walk_of 𝓛 T hs c).post y) $
    alloc_all ! (λ l. pass_all ! refl ((tt, tt), ((tt, tt), tt)) $
    -- [the other reference; two parts of self; its lifetime; the other lifetimes; the locals]
    use1 𝓛 (‵ (hidden_shr (Token E') κs.1.0 (record {}, tt) b' o') ⊛ ‵ (fhide (reached_owns E'.coded.code other.name other.list)))
    (lent_out 𝓛 (Reached.struct E') (Reached.the_codes E.Denot E'.coded (marker.the_row E').coded)
    (Reached.the_heap E') (Reached.the_lent E') κs.1.0 other b' o') $ split ! $ drop ! $ unhide ! $
    rewrite ! 0 (λ (n : ℕ). ‵ (reached_owns E'.coded.code n other.list)) same refl $
    move ! (1 ∷ 2 ∷ 3 ∷ []) $ opens ! tt row b o (λ us. move ! (1 ∷ []) $ fsplit ! $ move ! (1 ∷ 6 ∷ []) $
    -- [what self knows; what the other knows; the fields; the cell; the open borrow, in three entries]
    use2 𝓛 (some (λ (list : List E.Denot). given (IsLonger me.list other.list list) (‵ (reached_owns E'.coded.code me.name list))))
    (learns 𝓛 E'.coded me.name me.list other.list) $ pick ! (λ list. learn ! (λ longer.
    move ! (1 ∷ 0 ∷ []) $ fjoin ! $ move ! (1 ∷ 0 ∷ 2 ∷ 3 ∷ 4 ∷ []) $
    let new : row.Denot = record { marker = record {}; name = me.name; list = list } in closes ! tt row new us b o $
    sets ! (of_opd ! (unit_lit !)) refl (tt, tt) $ feq_i ! (List Val) (vunit ∷ []) (vunit ∷ []) refl $
    -- [the result; two parts of self; its lifetime; the other lifetimes; the locals]
    nothing ! $ nothing ! $ fjoin ! $ feq_i ! (List Val) (mut_vals a.0) (mut_vals a.0) refl $ move ! (0 ∷ 3 ∷ 4 ∷ []) $ fjoin3 ! $ fjoin ! $
    move ! (2 ∷ 3 ∷ []) $ join ! $ returns ! (look_at ! 0 refl) $ free_all ! refl $ keep ! (0 ∷ 1 ∷ 2 ∷ []) $
    by ! (ends 𝓛 T hs c y vunit tt (new, (tt, tt)) (tt, (tt, tt)) (fact_i 𝓤 _ (emp 𝓤) (refl, longer)))))))))
