-- `close` makes the block of the row and the rest, and the Vec has it again. Assumes `Logic`.
use Rattle.prz_region.proofs.Names.{◌≡◌, refl, sym, ◌∙◌, Bool, ℕ, ◌≤◌, ◌<◌, arith, List, [], ◌∷◌, ◌++◌, length, take}
use Rattle.prz_region.proofs.Names.{length-take-le, a_type, dcons, dnil, Val, WT, inst_fn, SProp, emp, Lft, Share}
use Rattle.prz_region.proofs.Names.{ftrue, flft, WpFn, ◌⊑◌, fact, fact_i, tables, ‵, raw, ◌⊛◌, given, later, prop}
use Rattle.prz_region.proofs.Names.{at_ret, ◌$◌, ◌∵◌, !, qed, by, move, keep, use0, use1, use2, split, join, learn}
use Rattle.prz_region.proofs.Names.{regoal, fsplit3, fjoin, await, whole, sub, stop, fld, of_opd, no_more, and_then}
use Rattle.prz_region.proofs.Names.{first, blocks, exec, returns, enter, alloc_all, pass_all, free_all, look_at, get}
use Rattle.prz_region.proofs.Names.{get_in, sets, lands_last, env, owns, block_ptr, bounded, plain, types_at, nothing}
use Rattle.prz_region.proofs.Names.{heard, calls_at_last, Stays, stay_dropped, walk_of, Goes-dropped, after, fm}
use Rattle.prz_region.proofs.Names.{proved_at, leaves, slots_items, slots_filled, slots_ptr, slots_len, slots_counts}
use Rattle.prz_region.proofs.Names.{IsFull, row_val, El, all, Row, Into, at_into, Into-goes, Into-gives, Row-seen}
use Rattle.prz_region.proofs.Names.{parts_typed}
use lib.Seq.{take_all}
use types.Kit.{split3}
use Rattle.std_alloc.specs.Vec.Ownership.{has_block}
use Rattle.std_alloc.proofs.VecSteps.El.{el_d, vec_val, vec_typed}
use Rattle.std_alloc.proofs.VecSteps.Opens.{Blk, vec_made}
use Rattle.std_alloc.proofs.vec.Blocks.{vec_in}
use Rattle.prz_region.proofs.Shells.{shell_val, Sh, shell_typed, shell_had}
use Rattle.core.proofs.slots.Slots.into_raw_parts.Met as takes
use Rattle.prz_region.specs.contracts.block.close.{ended, clauses}
use Rattle.prz_region.specs.contracts.block.close.Key.{name as #self}
use Rattle.prz_region.proofs.block.close.Statement.{statement}
use Rattle.prz_region.proofs.block.close.Code as code

pub close_spec : {M : Type 1} → statement M
close_spec 𝓤 𝓛 𝓜 𝓡 wired T A L LA g d dd met md =
    let H = 𝓛.H in let E : El = record {
      row = T;
      laws = L;
      al = record { row = A; laws = LA; g = g; d = d; drops = dd };
    } in let En = ended T A g d dd in
    let c' = clauses T A g d dd 𝓛 𝓜.mem 𝓡.returns in
    let inst = bounded (a_type ∷ a_type ∷ []) (T, (A, tt)) (dcons d (dcons dd dnil)) in let fn =
    inst_fn inst code.function in
    let C = (tables 𝓤 H 𝓜 𝓡 𝓡.env).C in let Λ = (tables 𝓤 H 𝓜 𝓡 𝓡.env).Λ in
    let hs : Stays En.signature.params En.kept = (
      stay_dropped (plain (λ _. Row E)) En.kept.0,
      (stay_dropped (plain (λ _. Sh E)) En.kept.1.0, tt),
    ) in
    let have = takes.met 𝓤 𝓛 𝓜 𝓡 (code.calls-core::slots::Slots::into_raw_parts 𝓡.env wired) T L in
    proved_at 𝓛 En hs c' 𝓜 𝓡 (
      Goes-dropped 𝓛 2 (plain (λ _. Row E)) En.kept.0 (λ κs x f. refl),
      (Goes-dropped 𝓛 2 (plain (λ _. Sh E)) En.kept.1.0 (λ κs x f. refl), tt),
    ) (#self inst) fn
    (code.unfolded 𝓤 H 𝓜 𝓡 wired (T, (A, tt)) d dd) (λ z are.
    let Post : Val → SProp 𝓤 = (walk_of 𝓛 En hs c').post z in let κ : Lft = z.0.0.0 in let q : Share = z.0.1.0 in
    let κ₁ : Lft = z.0.0.1.0 in let q₁ : Share = z.0.1.1.0 in let vss = z.0.4 in
    let r : (Row E).Denot = z.0.3.0 in let x : el_d E = z.0.3.1.0 in let k : ℕ = slots_len r in let n : ℕ = x.len in
    let c : ℕ = x.cap in let zs : List T.Denot = slots_items r in let fs : List Bool = slots_filled r in
    let Req : Type 0 = (slots_ptr r ≡ x.ptr) × (k ≡ n) × IsFull r in
    qed 𝓛 (((‵ (flft κ q) ⊛ ‵ (flft κ₁ q₁) ⊛ ‵ ftrue) ⊛ ‵ (owns (types_at En.signature.params z.0.0) z.0.3 vss)) ∷ raw
    (fact 𝓤 (κ ⊑ T.lives)) ∷ raw (fact 𝓤 (κ₁ ⊑ A.lives)) ∷ raw (fact 𝓤 Req) ∷ []) ∵
    move ! (1 ∷ 2 ∷ 3 ∷ []) $ heard ! (κ ⊑ T.lives) (λ le. heard ! (κ₁ ⊑ A.lives)
    (λ le₁. heard ! Req (λ req. split ! $ split3 ! $ move ! (3 ∷ []) $ fsplit3 ! $
    Row-seen E ! r vss.0 (λ b o at e fk. move ! (1 ∷ []) $ let xat : x.ptr ≡ block_ptr b o = sym req.0 ∙ at in
    shell_had E ! x vss.1.0 b o xat (λ hv told fn' fc fit fa. keep ! (2 ∷ 4 ∷ 0 ∷ 1 ∷ 5 ∷ []) $
    -- [the row; T's token; the rest; the handle; A's token]
    let lz : length zs ≡ n = sym (slots_counts r).0 ∙ req.1 in let lf : length fs ≡ n =
    sym (slots_counts r).1 ∙ req.1 in let lc : n ≤ c = x.ok.1 in
    let full : (j : ℕ) → 0 ≤ j → j < n → lib.ListN.get_or fs j mathlib.Core.Bool.false ≡ mathlib.Core.Bool.true =
    λ j low high. req.2 j low (omega arith) in
    let v₀ : Val = vec_val E hv b o n c in let vt = vec_typed E hv b o n c fa fn' fc in let st =
    shell_typed E hv b o n c fa fn' fc in let words : WT (row_val b o k) = (tt, (record { fits = fk }, tt)) in
    let new : el_d E = record {
      ptr = x.ptr;
      len = n;
      cap = c;
      alloc = x.alloc;
      items = take n zs;
      ok = (sym (length-take-le n zs (omega arith)), lc);
      small = x.small;
    } in
    regoal ! (λ (us : List Val). prop (WpFn 𝓤 H C Λ fn us Post)) (λ i. e i ++ (told i ++ [])) refl $
    enter ! C Λ fn (row_val b o k ∷ shell_val v₀ ∷ []) Post $ alloc_all !
    (λ l. pass_all ! refl ((tt, words), (st, tt)) $ let Ev = env fn.locals l in
    let y = at_into E 𝓛 𝓜.mem 𝓡.returns κ q r b o in
    first ! $ blocks ! $ sets ! (of_opd ! (get ! refl)) refl (tt, words) $
    use2 𝓛 (raw ((Into E 𝓛 𝓜.mem 𝓡.returns).pre y)) (Into-goes E 𝓛 𝓜.mem 𝓡.returns κ q r b o le) $
    calls_at_last ! (fm 𝓛 𝓜 𝓡) (Into E 𝓛 𝓜.mem 𝓡.returns) have y (and_then ! (get ! refl) (no_more !)) (λ v.
    use1 𝓛 (later (given (v ≡ row_val b o k) (‵ (all E b o zs fs) ⊛ ‵ (flft κ q))))
    (Into-gives E 𝓛 𝓜.mem 𝓡.returns κ q r b o v at) $ await ! tt $ learn ! (λ ev. split ! $
    lands_last ! refl (parts_typed v b o k ev fk) $ exec ! C Λ Ev (after 1 fn.body) (at_ret Ev Post) $ sets !
    (of_opd ! (get ! refl)) refl (parts_typed v b o k ev fk) $
    sets ! (of_opd ! (get_in ! (fld ! refl (stop !)) (sub ! 0 refl (whole !)))) refl vt $ sets !
    (of_opd ! (get ! refl)) refl vt $
    -- [the places; T's token; the rest; the handle; A's token]
    move ! (0 ∷ 2 ∷ []) $ use2 𝓛 (‵ (Blk E x.alloc b o n c (take n zs)))
    (vec_in E 𝓛 b x.alloc o (has_block c) n n c zs fs lz lf (omega arith) lc full) $
    move ! (0 ∷ 2 ∷ []) $ vec_made E ! new b o n c (take n zs) (xat, refl, refl, refl) fn' fc fit $
    let Told : Type 0 = take n zs ≡ zs in
    nothing ! $ move ! (3 ∷ 0 ∷ []) $ join ! $ move ! (2 ∷ 0 ∷ []) $ join ! $
    use0 𝓛 (raw (fact 𝓤 Told)) (fact_i 𝓤 Told (emp 𝓤) (take_all n zs (omega arith))) $
    nothing ! $ nothing ! $ fjoin ! $ nothing ! $ fjoin ! $
    returns ! (look_at ! 0 refl) $ free_all ! refl $ keep ! (2 ∷ 0 ∷ 3 ∷ 1 ∷ []) $ by !
    (leaves 𝓛 En hs c' z v₀ new (tt, (tt, tt)) (tt, (tt, tt))))))))))))
