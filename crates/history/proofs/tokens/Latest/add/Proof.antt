-- The right to add moves the list on, and shows it.
use Rattle.std.proofs.Common.{ℕ, List, [], ◌∷◌, ◌++◌, refl}
use mathlib.Core.List.{IsPrefix}
use mir.Syntax.{a_type, named, dcons, dnil}
use mir.Val.{Val}
use mir.MapTy.{inst_fn}
use base.Logic.{emp}
use base.Fml.{ftrue, flft, fhide}
use types.Kit.{‵, raw, ◌⊛◌, given, later, ◌$◌, ◌∵◌, !, qed, by, move, keep, drop, split, join, fsplit, fsplit3, fjoin, fjoin3, learn, await}
use types.Kit.{use0, use1, use2, rewrite, feq_i}
use types.Run.{no_more, and_then, enter, returns}
use types.ByLocal.{alloc_all, pass_all, free_all, look_at, get, sets}
use types.Part.{agg}
use contract.Lifetimes.{toks}
use contract.Monad.{fact, fact_i}
use contract.Running.{tables}
use denote.Exit.{yes}
use denote.RattleType.{RattleType, owns}
use denote.Signature.{types_at, plain}
use denote.Builtin.{RefOf}
use denote.Ref.{mut_vals, mut_Tells, shr_vals, shr_Tells}
use denote.Memory.{hidden_shr}
use denote.Opens.{unhide}
use denote.Steps.{nothing, opens, closes}
use denote.Param.{param, bounded}
use denote.Struct.Lending.{lent_out}
use denote.Triple.Walked.{Stays, stay_dropped, stay_ref, walk_of, Goes-dropped, Goes-ref}
use Rattle.std.specs.contracts.marker.PhantomData as marker
use Rattle.std.proofs.raw_atomic.Walks.{proved}
use Rattle.history.specs.Kept.{latest_owns, reached_owns}
use Rattle.history.specs.contracts.tokens.Latest as Latest
use Rattle.history.specs.contracts.tokens.Reached as Reached
use Rattle.history.proofs.Steps.{adds}
use Rattle.history.proofs.Walks.{token, Token, token_made, ends}
use Rattle.history.specs.contracts.tokens.Latest.add.{ended, clauses}
use Rattle.history.specs.contracts.tokens.Latest.add.Key.{name as #self}
use Rattle.history.proofs.tokens.Latest.add.Statement.{statement}
use Rattle.history.proofs.tokens.Latest.add.Code as code

pub add_spec : {M : Type 1} → statement M
add_spec 𝓤 𝓛 𝓜 𝓡 wired E X N _ _ _ says d _ =
    let 𝓣 = tables 𝓤 𝓛.H 𝓜 𝓡 𝓡.env in let E' : RattleType = param 0 E in let code' = E'.coded.code in let X' : RattleType = param 1 X in
    let inst = bounded (a_type ∷ a_type ∷ a_type ∷ []) (E, (X, (N, tt))) (dcons d dnil) in let fn = inst_fn inst code.function in
    let T = ended E X N says d in let c = clauses E X N says d 𝓛 𝓜.mem 𝓡.returns in
    let row = Latest.the_row E' in let known = Reached.the_row E' in
    let about = RefOf (1 ∷ []) tt (plain (λ _. X')) (λ _. tt) in let ref = RefOf (2 ∷ []) tt (plain (λ _. known)) (λ _. tt) in
    let hs : Stays T.signature.params T.kept =
    (stay_ref (0 ∷ []) tt (plain (λ _. row)), (stay_dropped about yes, (stay_dropped ref yes, tt))) in
    proved 𝓛 T hs c 𝓜 𝓡
    (Goes-ref 𝓛 6 0 tt (plain (λ _. row)), (Goes-dropped 𝓛 6 about yes (λ κs x f. refl), (Goes-dropped 𝓛 6 ref yes (λ κs x f. refl), tt)))
    (#self inst) fn (code.unfolded 𝓤 𝓛.H 𝓜 𝓡 wired (E, (X, (N, tt))) d) (λ κs. (mut_vals, (shr_vals, (shr_vals, tt))))
    (λ κs. (mut_Tells (named 0) κs.0 row, (shr_Tells (named 1) κs.1.0 X', (shr_Tells (named 2) κs.1.1.0 known, tt))))
    (λ κs qs bounds a gh are.
    let me = a.0.now in let b = a.0.ref_ptr.0 in let o = a.0.ref_ptr.1 in
    let seen = a.1.1.0.now in let b' = a.1.1.0.ref_ptr.0 in let o' = a.1.1.0.ref_ptr.1 in
    let longer : List E.Denot = me.list ++ says.entries a.1.0.now in
    let y : (walk_of 𝓛 T hs c).Ghost = ((κs, qs, bounds, a, (mut_vals a.0, (shr_vals a.1.0, (shr_vals a.1.1.0, tt)))), gh) in
    qed 𝓛 (((‵ (flft κs.0 qs.0) ⊛ raw (toks 𝓛 5 κs.1 qs.1)) ⊛ ‵ (owns (types_at T.signature.params κs) a y.0.4))
    ∷ raw (fact 𝓤 _) ∷ raw (fact 𝓤 _) ∷ raw (fact 𝓤 _) ∷ given _ (‵ ftrue) ∷ []) ∵ keep ! (4 ∷ 0 ∷ []) $ learn ! (λ same. drop ! $
    split ! $ split ! $ move ! (2 ∷ []) $ fsplit ! $ fsplit3 ! $ move ! (3 ∷ []) $ fsplit ! $ move ! (1 ∷ []) $ fsplit ! $ fsplit ! $
    keep ! (1 ∷ 5 ∷ 6 ∷ 7 ∷ 8 ∷ []) $
    enter ! 𝓣.C 𝓣.Λ fn (mut_vals a.0 ++ shr_vals a.1.0 ++ shr_vals a.1.1.0) ((walk_of 𝓛 T hs c).post y) $
    alloc_all ! (λ l. pass_all ! refl ((tt, tt), ((tt, tt), ((tt, tt), tt))) $
    -- [the reference to what was seen; two parts of self; its lifetime; the other lifetimes; the locals]
    use1 𝓛 (‵ (hidden_shr (Token E') κs.1.1.0 (record {}, tt) b' o') ⊛ ‵ (fhide (reached_owns code' seen.name seen.list)))
    (lent_out 𝓛 (Reached.struct E') (Reached.the_codes E.Denot E'.coded (marker.the_row E').coded)
    (Reached.the_heap E') (Reached.the_lent E') κs.1.1.0 seen b' o') $ split ! $ drop ! $ unhide ! $
    rewrite ! 0 (λ (n : ℕ). ‵ (reached_owns code' n seen.list)) same refl $
    move ! (1 ∷ 2 ∷ 3 ∷ []) $ opens ! tt row b o (λ us. move ! (1 ∷ []) $ fsplit ! $ move ! (1 ∷ 6 ∷ []) $
    -- [all of the list; what was seen; the fields; the cell; the open borrow, in three entries]
    use2 𝓛 (later (given (IsPrefix seen.list me.list) (‵ (latest_owns code' me.name longer) ⊛ ‵ (reached_owns code' me.name longer))))
    (adds 𝓛 E'.coded me.name me.list seen.list (says.entries a.1.0.now)) $ await ! tt $ learn ! (λ before. split ! $
    move ! (2 ∷ 0 ∷ []) $ fjoin ! $ move ! (2 ∷ 0 ∷ 3 ∷ 4 ∷ 5 ∷ []) $
    let new : row.Denot = record { marker = record {}; name = me.name; list = longer } in
    let all : known.Denot = record { marker = record {}; name = me.name; list = longer } in closes ! tt row new us b o $
    -- [two parts of self; its lifetime; what was seen; the other lifetimes; the locals]
    use0 𝓛 (‵ ((Token E').own_val (record {}, tt) (token ∷ []))) (token_made E' 𝓛) $ move ! (0 ∷ 4 ∷ []) $ fjoin ! $
    sets ! (agg ! (no_more !)) refl (tt, tt) $ sets ! (agg ! (and_then ! (get ! refl) (no_more !))) refl (tt, (tt, tt)) $
    nothing ! $ nothing ! $ fjoin ! $ nothing ! $ fjoin ! $ feq_i ! (List Val) (mut_vals a.0) (mut_vals a.0) refl $
    move ! (0 ∷ 3 ∷ 4 ∷ []) $ fjoin3 ! $ fjoin ! $ move ! (2 ∷ 3 ∷ []) $ join ! $
    returns ! (look_at ! 0 refl) $ free_all ! refl $ keep ! (0 ∷ 1 ∷ 2 ∷ []) $
    by ! (ends 𝓛 T hs c y token all (new, (tt, (tt, tt))) (tt, (tt, (tt, tt))) (fact_i 𝓤 _ (emp 𝓤) (refl, refl, before, refl, refl))))))))
