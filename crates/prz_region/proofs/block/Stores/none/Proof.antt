-- `none` makes a struct of no bytes, with an empty list. Assumes `Logic`.
use Rattle.std.proofs.Common.{[], ◌∷◌, refl}
use mir.Syntax.{Args, a_type}
use mir.Val.{Val, vstruct, vcons, vnil}
use mir.MapTy.{inst_fn}
use denote.Param.{layouts, param}
use base.Logic.{SProp}
use base.Fml.{Fml}
use types.Kit.{‵, raw, ◌⊛◌, ◌$◌, ◌∵◌, !, qed, move, keep, use0, split, suffices, done}
use types.Part.{agg}
use types.Run.{no_more, and_then, returns, enter}
use types.ByLocal.{alloc_all, pass_all, free_all, look_at, get, sets}
use contract.Running.{tables}
use denote.RattleType.{RattleType, owns}
use denote.Signature.{types_at}
use denote.Steps.{nothing}
use denote.Shadow.{makes_shadow}
use denote.Triple.Entry.{alive}
use denote.Triple.Walked.{says, walk_of, ends_at}
use Rattle.std.proofs.raw_atomic.Walks.{proved_at}
use Rattle.prz_region.specs.contracts.block.Stores as St
use Rattle.prz_region.specs.contracts.block.Stores.none.{ended, clauses}
use Rattle.prz_region.specs.contracts.block.Stores.none.Key.{name as #self}
use Rattle.prz_region.proofs.block.Stores.none.Statement.{statement}
use Rattle.prz_region.proofs.block.Stores.none.Code as code

-- the machine value of a `Stores`
abbrev count_val : Val
count_val = vstruct (vcons (vstruct vnil) vnil)

pub none_spec : {M : Type 1} → statement M
none_spec 𝓤 𝓛 𝓜 𝓡 wired X L =
    let H = 𝓛.H in let 𝓣 = tables 𝓤 H 𝓜 𝓡 𝓡.env in let En = ended X in let c = clauses X 𝓛 𝓜.mem 𝓡.returns in
    let inst : Args = layouts (a_type ∷ []) (X, tt) in let fn = inst_fn inst code.function in
    let Sx : RattleType = St.the_row (param 0 X) in
    proved_at 𝓛 En tt c 𝓜 𝓡 tt (#self inst) fn (code.unfolded 𝓤 H 𝓜 𝓡 wired (X, tt)) (λ z are.
    let Post : Val → SProp 𝓤 = (walk_of 𝓛 En tt c).post z in
    let zero : Sx.Denot = record { marker = record {}; made = [] } in
    let F : Fml = Sx.own_val zero (count_val ∷ []) in
    qed 𝓛 ((raw (alive 𝓛 En.signature z.0.0 z.0.1) ⊛ ‵ (owns (types_at En.signature.params z.0.0) z.0.3 z.0.4))
    ∷ raw ((c z.0.0 z.0.3).requires z.1) ∷ []) ∵
    keep ! (0 ∷ []) $ split ! $ keep ! (0 ∷ []) $
    enter ! 𝓣.C 𝓣.Λ fn [] Post $ alloc_all ! (λ l. pass_all ! refl tt $
    sets ! (agg ! (no_more !)) refl (tt, tt) $ sets ! (agg ! (and_then ! (get ! refl) (no_more !))) refl (tt, (tt, tt)) $
    use0 𝓛 (‵ F) (makes_shadow 𝓛 F ((λ vss. (tt, ((λ uss. (tt, tt)), tt))), tt)
    (((vstruct vnil ∷ [], tt), (refl, ((tt, (refl, tt)), tt))), tt)) $
    returns ! (look_at ! 0 refl) $ free_all ! refl $
    suffices ! _ (ends_at 𝓛 En tt c z count_val zero tt tt) $ says ! refl $
    nothing ! $ move ! (2 ∷ 0 ∷ 1 ∷ []) $ done !))
