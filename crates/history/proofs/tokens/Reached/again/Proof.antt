-- It can be copied, since what it knows can be had twice.
use Rattle.std.proofs.Common.{[], ◌∷◌, refl}
use mir.Syntax.{a_type, named}
use mir.MapTy.{inst_fn}
use base.Logic.{emp}
use base.Fml.{fhide}
use types.Kit.{‵, raw, ◌⊛◌, ◌$◌, ◌∵◌, !, qed, by, move, keep, drop, split, fsplit, fjoin, use0, use1}
use types.Run.{no_more, and_then, enter, returns}
use types.ByLocal.{alloc_all, pass_all, free_all, look_at, get, sets}
use types.Part.{agg}
use contract.Monad.{fact_i}
use contract.Running.{tables}
use denote.Exit.{yes}
use denote.RattleType.{RattleType, owns}
use denote.Signature.{types_at, plain}
use denote.Builtin.{RefOf}
use denote.Ref.{shr_vals, shr_Tells}
use denote.Memory.{hidden_shr}
use denote.Opens.{unhide}
use denote.Steps.{nothing}
use denote.Param.{param, layouts}
use denote.Struct.Lending.{lent_out}
use denote.Triple.Entry.{alive}
use denote.Triple.Walked.{Stays, stay_dropped, walk_of, Goes-dropped}
use Rattle.std.specs.contracts.marker.PhantomData as marker
use Rattle.std.proofs.raw_atomic.Walks.{proved}
use Rattle.history.specs.Kept.{reached_owns}
use Rattle.history.specs.contracts.tokens.Reached as Reached
use Rattle.history.proofs.Walks.{token, Token, token_made, ends}
use Rattle.history.specs.contracts.tokens.Reached.again.{ended, clauses}
use Rattle.history.specs.contracts.tokens.Reached.again.Key.{name as #self}
use Rattle.history.proofs.tokens.Reached.again.Statement.{statement}
use Rattle.history.proofs.tokens.Reached.again.Code as code

pub again_spec : {M : Type 1} → statement M
again_spec 𝓤 𝓛 𝓜 𝓡 wired E L =
    let 𝓣 = tables 𝓤 𝓛.H 𝓜 𝓡 𝓡.env in let E' : RattleType = param 0 E in let row = Reached.the_row E' in let T = ended E in
    let inst = layouts (a_type ∷ []) (E, tt) in let fn = inst_fn inst code.function in let c = clauses E 𝓛 𝓜.mem 𝓡.returns in
    let ref = RefOf (0 ∷ []) tt (plain (λ _. row)) (λ _. tt) in let hs : Stays T.signature.params T.kept = (stay_dropped ref yes, tt) in
    proved 𝓛 T hs c 𝓜 𝓡 (Goes-dropped 𝓛 2 ref yes (λ κs x f. refl), tt) (#self inst) fn (code.unfolded 𝓤 𝓛.H 𝓜 𝓡 wired (E, tt))
    (λ κs. (shr_vals, tt)) (λ κs. (shr_Tells (named 0) κs.0 row, tt)) (λ κs qs bounds a gh are.
    let me = a.0.now in let b = a.0.ref_ptr.0 in let o = a.0.ref_ptr.1 in
    let y : (walk_of 𝓛 T hs c).Ghost = ((κs, qs, bounds, a, (shr_vals a.0, tt)), gh) in
    qed 𝓛 ((raw (alive 𝓛 T.signature κs qs) ⊛ ‵ (owns (types_at T.signature.params κs) a y.0.4)) ∷ raw ((c κs a).requires gh) ∷ []) ∵
    split ! $ move ! (1 ∷ []) $ fsplit ! $ fsplit ! $ keep ! (1 ∷ 3 ∷ []) $
    enter ! 𝓣.C 𝓣.Λ fn (shr_vals a.0) ((walk_of 𝓛 T hs c).post y) $ alloc_all ! (λ l. pass_all ! refl ((tt, tt), tt) $
    -- [the reference; the lifetimes; the locals]
    use1 𝓛 (‵ (hidden_shr (Token E') κs.0 (record {}, tt) b o) ⊛ ‵ (fhide (reached_owns E'.coded.code me.name me.list)))
    (lent_out 𝓛 (Reached.struct E') (Reached.the_codes E.Denot E'.coded (marker.the_row E').coded)
    (Reached.the_heap E') (Reached.the_lent E') κs.0 me b o) $ split ! $ drop ! $ unhide ! $
    use0 𝓛 (‵ ((Token E').own_val (record {}, tt) (token ∷ []))) (token_made E' 𝓛) $ fjoin ! $
    sets ! (agg ! (no_more !)) refl (tt, tt) $ sets ! (agg ! (and_then ! (get ! refl) (no_more !))) refl (tt, (tt, tt)) $
    nothing ! $ nothing ! $ fjoin ! $ returns ! (look_at ! 0 refl) $ free_all ! refl $ keep ! (2 ∷ 0 ∷ 1 ∷ []) $
    by ! (ends 𝓛 T hs c y token me (tt, tt) (tt, tt) (fact_i 𝓤 _ (emp 𝓤) refl))))
