use Rattle.std.proofs.Common.{List, [], ◌∷◌, refl, w32}
use Rattle.std.proofs.raw_atomic.Walks.{proved}
use mir.Syntax.{Args, a_type, dcons, dnil, named}
use mir.MapTy.{inst_fn}
use mir.Val.{Val, vstruct, vnil}
use types.Kit.{‵, raw, ◌⊛◌, ◌$◌, ◌∵◌, !, qed, move, keep, split, join, fjoin, feq_i, fpack, suffices, done}
use types.Run.{returns, enter, no_more}
use types.Part.{agg}
use types.ByLocal.{alloc_all, pass_all, free_all, look_at, sets}
use denote.RattleType.{Valss, owns}
use denote.Param.{bounded, param}
use denote.Plain.{uint_vals, uint_Tells}
use denote.Struct.Owning.{shape}
use denote.Struct.Struct.{within}
use denote.Exit.{yes}
use denote.Builtin.{RefOf, u32}
use denote.Ref.{shr_vals, shr_Tells}
use denote.Signature.{Slot, plain, types_at}
use denote.Steps.{nothing}
use denote.Triple.Entry.{alive}
use denote.Triple.Walked.{says, Stays, stay_dropped, walk_of, ends_at, Goes-dropped}
use Rattle.devices.specs.Given.{given_now}
use Rattle.sealing.specs.contracts.key.Key as Key
use Rattle.trace.specs.contracts.ledger.Ledger as Ledger
use Rattle.trace.specs.contracts.ledger.longer as f
use Rattle.trace.proofs.ledger.longer.Statement.{statement}
use Rattle.trace.proofs.ledger.longer.Code as code

pub longer_spec : {M : Type 1} → statement M
longer_spec 𝓤 𝓛 𝓜 𝓡 wired X L g d met =
    let old : Slot 4 = RefOf (0 ∷ []) tt (plain (λ κs. Ledger.the_row)) (λ κs. tt) in
    let number : Slot 4 = plain (λ κs. u32) in
    let key : Slot 4 = RefOf (1 ∷ []) tt (plain (λ κs. Key.the_row)) (λ κs. tt) in
    let medium : Slot 4 = RefOf (2 ∷ []) tt (plain (λ κs. param 0 X)) (λ κs. tt) in
    let args : Args = bounded (a_type ∷ []) (X, tt) (dcons d dnil) in
    let E = f.ended X g d in
    let stayed : Stays E.signature.params E.kept = (stay_dropped old yes, (stay_dropped number yes, (stay_dropped key yes, (stay_dropped medium yes, tt)))) in
    let c = f.clauses X g d 𝓛 𝓜.mem 𝓡.returns in let W = walk_of 𝓛 E stayed c in
    proved 𝓛 E stayed c 𝓜 𝓡
    (Goes-dropped 𝓛 4 old yes (λ κs x w. refl), (Goes-dropped 𝓛 4 number yes (λ κs x w. refl), (Goes-dropped 𝓛 4 key yes (λ κs x w. refl), (Goes-dropped 𝓛 4 medium yes (λ κs x w. refl), tt))))
    (f.Key.name args) (inst_fn args code.function) (code.unfolded 𝓤 𝓛.H 𝓜 𝓡 wired (X, tt) d)
    (λ κs. (shr_vals, (uint_vals w32, (shr_vals, (shr_vals, tt)))))
    (λ κs. (shr_Tells (named 0) κs.0 Ledger.the_row, (uint_Tells w32, (shr_Tells (named 1) κs.1.0 Key.the_row, (shr_Tells (named 2) κs.1.1.0 (param 0 X), tt)))))
    (λ κs qs bounds a z are.
    let y : W.Ghost = ((κs, qs, bounds, a, (shr_vals a.0, (uint_vals w32 a.1.0, (shr_vals a.1.1.0, (shr_vals a.1.1.1.0, tt))))), z) in
    qed 𝓛 ((raw (alive 𝓛 E.signature κs qs) ⊛ ‵ (owns (types_at E.signature.params κs) a y.0.4)) ∷ raw ((c κs a).requires z) ∷ []) ∵ split ! $ keep ! (0 ∷ []) $
    enter ! _ _ _ _ _ $ alloc_all ! (λ l. pass_all ! refl ((tt, tt), ((tt, record { fits = are.1.0.1 }), ((tt, tt), ((tt, tt), tt)))) $
    sets ! (agg ! (no_more !)) refl (tt, tt) $
    returns ! (look_at ! 0 refl) $ free_all ! refl $
    nothing ! $ feq_i ! (List Val) (vstruct vnil ∷ []) (vstruct vnil ∷ []) refl $ fjoin ! $ fpack ! (Valss []) (within (shape Ledger.the_type) tt (vstruct vnil ∷ [])) tt $ nothing ! $ move ! (1 ∷ 0 ∷ []) $ fjoin ! $
    suffices ! _ (ends_at 𝓛 E stayed c y (vstruct vnil) (record { keys = given_now a.1.0 a.1.1.0.now.bytes (g.log a.1.1.1.0.now) ∷ a.0.now.keys }) (tt, (tt, (tt, (tt, tt)))) (tt, (tt, (tt, (tt, tt))))) $ says ! refl $
    nothing ! $ nothing ! $ fjoin ! $ nothing ! $ fjoin ! $ nothing ! $ fjoin ! $ nothing ! $ fjoin ! $ join ! $ move ! (1 ∷ 0 ∷ []) $ join ! $ done !))
