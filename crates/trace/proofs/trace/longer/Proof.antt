use Rattle.std.proofs.Common.{List, [], ◌∷◌, refl}
use Rattle.std.proofs.raw_atomic.Walks.{proved}
use mir.Syntax.{named}
use mir.Val.{Val, vstruct, vnil}
use types.Kit.{‵, raw, ◌⊛◌, ◌$◌, ◌∵◌, !, qed, move, keep, split, join, fjoin, feq_i, fpack, suffices, done}
use types.Run.{returns, enter, no_more}
use types.Part.{agg}
use types.ByLocal.{alloc_all, pass_all, free_all, look_at, sets}
use denote.RattleType.{Valss, owns}
use denote.Struct.Owning.{shape}
use denote.Struct.Struct.{within}
use denote.Exit.{yes}
use denote.Builtin.{RefOf}
use denote.Ref.{shr_vals, shr_Tells}
use denote.Signature.{Slot, plain, types_at}
use denote.Steps.{nothing}
use denote.Triple.Entry.{alive}
use denote.Triple.Walked.{says, Stays, stay_dropped, walk_of, ends_at, Goes-dropped}
use Rattle.trace.specs.Asked.{event}
use Rattle.trace.specs.contracts.asked.Asked as Asked
use Rattle.trace.specs.contracts.trace.Trace as Trace
use Rattle.trace.specs.contracts.trace.longer as f
use Rattle.trace.proofs.trace.longer.Statement.{statement}
use Rattle.trace.proofs.trace.longer.Code as code

abbrev old : Slot 3
old = RefOf (0 ∷ []) tt (plain (λ κs. Trace.the_row)) (λ κs. tt)

abbrev asked : Slot 3
asked = RefOf (1 ∷ []) tt (plain (λ κs. Asked.the_row (record { mir = named 2; lft = κs.1.1.0 }))) (λ κs. tt)

abbrev stayed : Stays f.ended.signature.params f.ended.kept
stayed = (stay_dropped old yes, (stay_dropped asked yes, tt))

pub longer_spec : {M : Type 1} → statement M
longer_spec 𝓤 𝓛 𝓜 𝓡 wired =
    let c = f.clauses 𝓛 𝓜.mem 𝓡.returns in let W = walk_of 𝓛 f.ended stayed c in
    proved 𝓛 f.ended stayed c 𝓜 𝓡 (Goes-dropped 𝓛 3 old yes (λ κs x w. refl), (Goes-dropped 𝓛 3 asked yes (λ κs x w. refl), tt))
    f.Key.name code.function (code.unfolded 𝓤 𝓛.H 𝓜 𝓡 wired)
    (λ κs. (shr_vals, (shr_vals, tt))) (λ κs. (shr_Tells (named 0) κs.0 Trace.the_row, (shr_Tells (named 1) κs.1.0 (Asked.the_row (record { mir = named 2; lft = κs.1.1.0 })), tt))) (λ κs qs bounds a g are.
    let y : W.Ghost = ((κs, qs, bounds, a, (shr_vals a.0, (shr_vals a.1.0, tt))), g) in
    qed 𝓛 ((raw (alive 𝓛 f.signature κs qs) ⊛ ‵ (owns (types_at f.signature.params κs) a y.0.4)) ∷ raw ((c κs a).requires g) ∷ []) ∵ split ! $ keep ! (0 ∷ []) $
    enter ! _ _ _ _ _ $ alloc_all ! (λ l. pass_all ! refl ((tt, tt), ((tt, tt), tt)) $
    sets ! (agg ! (no_more !)) refl (tt, tt) $
    returns ! (look_at ! 0 refl) $ free_all ! refl $
    nothing ! $ feq_i ! (List Val) (vstruct vnil ∷ []) (vstruct vnil ∷ []) refl $ fjoin ! $ fpack ! (Valss []) (within (shape Trace.the_type) tt (vstruct vnil ∷ [])) tt $ nothing ! $ move ! (1 ∷ 0 ∷ []) $ fjoin ! $
    suffices ! _ (ends_at 𝓛 f.ended stayed c y (vstruct vnil) (record { asked = event a.1.0.now ∷ a.0.now.asked }) (tt, (tt, tt)) (tt, (tt, tt))) $ says ! refl $
    nothing ! $ nothing ! $ fjoin ! $ nothing ! $ fjoin ! $ join ! $ move ! (1 ∷ 0 ∷ []) $ join ! $ done !))
