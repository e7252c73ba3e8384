-- `as_spans` shares the pieces as the lists that they hold. Assumes `Logic`.
use mathlib.Core.Path.{◌≡◌, refl, sym, subst}
use Prim.Native.Nat.{ℕ, ◌+◌, ◌*◌, ◌<◌, ◌^◌}
use mathlib.Core.List.{List, [], ◌∷◌, map}
use lib.ListN.{length}
use seplogic.Ra.Ura.{Ura}
use mir.Syntax.{named}
use mir.Val.{Val}
use base.Logic.{ent}
use base.Fml.{Lft, ftrue, flft, fsep}
use contract.Running.{tables}
use types.Logic.{Logic, sem}
use types.Kit.{‵, ◌⊛◌, at_ret, ◌$◌, ◌∵◌, !, qed, move, keep, drop, use1, split, join, fsplit, fjoin, fpack, feq_i}
use types.Kit.{flt_i, suffices, frame, done}
use types.Part.{whole, sub, agg}
use types.Run.{stop, fld, hop, from, addr, of_opd, and_then, no_more, first, blocks, exec, returns, enter}
use types.ByLocal.{alloc_all, pass_all, free_all, look_at, look_in_at, get, get_in, sets, sets_last, env}
use denote.Exit.{yes}
use denote.Memory.{each_shared, shared_of, mem}
use denote.Opens.{unhide, hide}
use denote.RattleType.{owns}
use denote.Signature.{plain, shr_slice_of, types_at}
use denote.Slice.{slice_val, shr_slice_vals, shr_slice_Tells}
use denote.Steps.{nothing}
use denote.Triple.Walked.{Stays, stay_dropped, walk_of, ends_at, says, Goes-dropped}
use Rattle.core.proofs.alloc.Shapes.{after}
use Rattle.std.proofs.raw_atomic.Walks.{proved}
use Rattle.std.proofs.lemmas.List.{length-map}
use Rattle.prz_region.specs.declared.pieces.Piece.{Piece}
use Rattle.prz_region.specs.declared.spans.Span.TheInside.{Inside}
use Rattle.prz_region.specs.Chain.{piece_bytes}
use Rattle.prz_region.specs.contracts.pieces.Piece.{the_row as Pr}
use Rattle.prz_region.specs.contracts.spans.Span.{the_row as Sp, the_view, the_invariant}
use Rattle.prz_region.specs.contracts.spans.Span.TheInside.{the_row as Fr}
use Rattle.prz_region.specs.contracts.block.as_spans as f
use Rattle.prz_region.proofs.block.as_spans.Statement.{statement}
use Rattle.prz_region.proofs.block.as_spans.Code as code

module _ {M : Type 1} {𝓤 : Ura M} (𝓛 : Logic 𝓤) (κ : Lft) (b : ℕ) where
  one : (p : Piece) (o : ℕ) → ent 𝓤 (sem 𝓛 (shared_of Pr p b o κ)) (sem 𝓛 (shared_of Sp (piece_bytes p) b o κ))
  one p o =
      qed 𝓛 (‵ (shared_of Pr p b o κ) ∷ []) ∵ nothing ! $ move ! (1 ∷ 0 ∷ []) $ fjoin ! $
      fpack ! ((a : Inside) × ((the_view a ≡ piece_bytes p) × the_invariant a))
      (λ x. fsep (Fr.shr_at x.0 b o κ) ftrue) (record { base = p.base; slots = p.slots }, (refl, p.row)) $ done !

  seen : (xs : List Piece) (o : ℕ) → ent 𝓤 (sem 𝓛 (each_shared xs (shared_of Pr) (mem Pr).size b o κ))
      (sem 𝓛 (each_shared (map piece_bytes xs) (shared_of Sp) (mem Sp).size b o κ))
  seen [] o = qed 𝓛 (‵ (each_shared [] (shared_of Pr) (mem Pr).size b o κ) ∷ []) ∵ done !
  seen (x ∷ xs) o =
      qed 𝓛 (‵ (each_shared (x ∷ xs) (shared_of Pr) (mem Pr).size b o κ) ∷ []) ∵ fsplit ! $ use1 𝓛
      (‵ (shared_of Sp (piece_bytes x) b o κ)) (one x o) $ move ! (1 ∷ []) $
      use1 𝓛 (‵ (each_shared (map piece_bytes xs) (shared_of Sp) (mem Sp).size b (o + (mem Sp).size) κ))
      (seen xs (o + (mem Pr).size)) $ move ! (1 ∷ 0 ∷ []) $ fjoin ! $ done !

abbrev stayed : Stays f.ended.signature.params f.ended.kept
stayed = (stay_dropped (shr_slice_of (0 ∷ []) tt (plain (λ _. Pr))) yes, tt)

pub as_spans_spec : {M : Type 1} → statement M
as_spans_spec 𝓤 𝓛 𝓜 𝓡 wired =
    let c = f.clauses 𝓛 𝓜.mem 𝓡.returns in let W = walk_of 𝓛 f.ended stayed c in let 𝓣 = tables 𝓤 𝓛.H 𝓜 𝓡 𝓡.env in
    proved 𝓛 f.ended stayed c 𝓜 𝓡 (
      Goes-dropped 𝓛 1 (shr_slice_of (0 ∷ []) tt (plain (λ _. Pr))) yes (λ κs x f. refl),
      tt,
    )
    f.Key.name code.function (code.unfolded 𝓤 𝓛.H 𝓜 𝓡 wired) (λ κs. (shr_slice_vals, tt))
    (λ κs. (shr_slice_Tells (named 0) κs.0 Pr, tt)) (λ κs qs bounds a g are.
    let κ = κs.0 in let q = qs.0 in let b = a.0.ref_ptr.0 in let o = a.0.ref_ptr.1 in let xs : List Piece = a.0.now in
    let n = length xs in let rm = are.0.0.1 in
    let y : W.Ghost = ((κs, qs, bounds, a, (shr_slice_vals a.0, tt)), g) in
    let zs : List (List ℕ) = map piece_bytes xs in let many : length zs ≡ n = length-map xs piece_bytes in
    qed 𝓛 (((‵ (flft κ q) ⊛ ‵ ftrue) ⊛ ‵ (owns (types_at f.ended.signature.params κs) a (shr_slice_vals a.0, tt)))
    ∷ ‵ ftrue ∷ []) ∵
    split ! $ split ! $ move ! (2 ∷ []) $ fsplit ! $ keep ! (0 ∷ 2 ∷ []) $
    -- [the pieces; the token]
    enter ! 𝓣.C 𝓣.Λ code.function (slice_val (b, o) n ∷ []) _ $ alloc_all !
    (λ l. pass_all ! refl ((tt, (tt, (record { fits = rm.0 }, tt))), tt) $ let En = env (code.function).locals l in
    sets ! (of_opd ! (get_in ! (fld ! refl (stop !)) (sub ! 1 refl (whole !)))) refl (tt, record { fits = rm.0 }) $
    first ! $ blocks ! $
    sets ! (addr ! (from ! (fld ! refl (hop ! (look_in_at ! 1 (sub ! 0 refl (whole !))) (stop !))))) refl (tt, tt) $
    sets_last ! (agg ! (and_then ! (get ! refl) (and_then ! (get ! refl) (no_more !)))) refl
    (tt, (tt, (record { fits = rm.0 }, tt))) $
    exec ! 𝓣.C 𝓣.Λ En (after 2 (code.function).body) (at_ret En (W.post y)) $
    sets ! (of_opd ! (get ! refl)) refl (tt, (tt, (record { fits = rm.0 }, tt))) $
    fsplit ! $ drop ! $ unhide ! $ use1 𝓛 (‵ (each_shared zs (shared_of Sp) (mem Sp).size b o κ)) (seen 𝓛 κ b xs o)
    $ hide ! $
    returns ! (look_at ! 0 refl) $ free_all ! refl $ keep ! (1 ∷ 0 ∷ []) $
    suffices ! _ (ends_at 𝓛 f.ended stayed c y (slice_val (b, o) n) (record { ref_ptr = (b, o); now = zs }) (tt, tt)
    (tt, tt)) $ says ! refl $
    nothing ! $ move ! (1 ∷ 0 ∷ []) $ join ! $ frame ! $ nothing ! $ nothing ! $ fjoin ! $ frame ! $
    flt_i ! (length zs * (mem Sp).size) (2 ^ 63) (subst (λ (j : ℕ). j * (mem Sp).size < 2 ^ 63) (sym many) rm.1)
    $ flt_i ! (length zs) (2 ^ 64) (subst (λ (j : ℕ). j < 2 ^ 64) (sym many) rm.0) $ fjoin ! $
    feq_i ! (List Val) (slice_val (b, o) n ∷ []) (slice_val (b, o) (length zs) ∷ [])
    (λ i. slice_val (b, o) (sym many i) ∷ []) $ fjoin ! $ fjoin ! $ done !))
