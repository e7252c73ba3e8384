-- `take_apart` makes a row of the elements, and keeps the rest. Assumes `Logic`.
use Rattle.prz_region.proofs.Names.{◌≡◌, refl, sym, ap, subst, ◌∙◌, Bool, ℕ, ◌-◌, ◌*◌, ◌≤◌, ◌<◌, ◌^◌, arith, List, []}
use Rattle.prz_region.proofs.Names.{◌∷◌, ◌++◌, length, times_below, a_type, dcons, dnil, w64, Val, WT, vint, inst_fn}
use Rattle.prz_region.proofs.Names.{SProp, emp, Lft, Share, ftrue, flft, WpFn, ◌⊑◌, fact, fact_i, tables, ‵, raw, ◌⊛◌}
use Rattle.prz_region.proofs.Names.{some, given, later, prop, at_ret, ◌$◌, ◌∵◌, !, qed, by, move, keep, use0, use1}
use Rattle.prz_region.proofs.Names.{use2, split, join, pick, learn, regoal, fsplit, fjoin, await, agg, of_opd, no_more}
use Rattle.prz_region.proofs.Names.{and_then, first, blocks, exec, returns, enter, alloc_all, pass_all, free_all}
use Rattle.prz_region.proofs.Names.{look_at, get, sets, lands_last, is, env, owns, Ptr, bounded, plain, usize, types_at}
use Rattle.prz_region.proofs.Names.{nothing, heard, calls_at_last, Stays, stay_dropped, walk_of, Goes-dropped, after}
use Rattle.prz_region.proofs.Names.{fm, proved_at, leaves, slots_items, slots_ptr, slots_len, IsFull, row_val, El, all}
use Rattle.prz_region.proofs.Names.{Row, From, at_from, Made, from_goes, from_gives, row_Typed, pair_of, pair_val}
use types.Kit.{split3}
use denote.Exit.{rest}
use denote.Param.{layout}
use denote.RawPtr.{RawPtr, ptr_val}
use denote.Struct.Tuple.{Tuple}
use Rattle.core.proofs.alloc.Calls.{Goes-blank}
use Rattle.std_alloc.specs.Vec.Ownership.{owns_if, has_block}
use Rattle.std_alloc.proofs.Pairs.{pair_Typed}
use Rattle.std_alloc.proofs.VecSteps.El.{Vr, sz, el_d, vec_val, vec_typed}
use Rattle.std_alloc.proofs.VecSteps.Opens.{vec_had, not_live}
use Rattle.std_alloc.proofs.vec.Blocks.{flags, vec_flags, vec_laid, vec_out, Rest}
use Rattle.prz_region.proofs.Shells.{shell_val, Sh, shell_typed, shell_made}
use Rattle.core.proofs.slots.Slots.from_raw_parts.Met as makes
use Rattle.prz_region.specs.contracts.block.take_apart.{ended, clauses}
use Rattle.prz_region.specs.contracts.block.take_apart.Key.{name as #self}
use Rattle.prz_region.proofs.block.take_apart.Statement.{statement}
use Rattle.prz_region.proofs.block.take_apart.Code as code

pub take_apart_spec : {M : Type 1} → statement M
take_apart_spec 𝓤 𝓛 𝓜 𝓡 wired T A L LA g d dd met md =
    let H = 𝓛.H in let E : El = record {
      row = T;
      laws = L;
      al = record { row = A; laws = LA; g = g; d = d; drops = dd };
    } in let En = ended T A g d dd in
    let c' = clauses T A g d dd 𝓛 𝓜.mem 𝓡.returns in
    let inst = bounded (a_type ∷ a_type ∷ []) (T, (A, tt)) (dcons d (dcons dd dnil)) in let fn =
    inst_fn inst code.function in
    let C = (tables 𝓤 H 𝓜 𝓡 𝓡.env).C in let Λ = (tables 𝓤 H 𝓜 𝓡 𝓡.env).Λ in
    let hs : Stays En.signature.params En.kept = (
      stay_dropped (plain (λ _. Vr E)) En.kept.0,
      (stay_dropped (plain (λ _. RawPtr)) En.kept.1.0, (stay_dropped (plain (λ _. usize)) En.kept.1.1.0, tt)),
    ) in
    let give = makes.met 𝓤 𝓛 𝓜 𝓡 (code.calls-core::slots::Slots::from_raw_parts 𝓡.env wired) T L in
    proved_at 𝓛 En hs c' 𝓜 𝓡 (
      Goes-blank 𝓛 2 (plain (λ _. Vr E)) En.kept.0 (λ κs x f. tt),
      (
        Goes-dropped 𝓛 2 (plain (λ _. RawPtr)) En.kept.1.0 (λ κs x f. refl),
        (Goes-dropped 𝓛 2 (plain (λ _. usize)) En.kept.1.1.0 (λ κs x f. refl), tt),
      ),
    ) (#self inst) fn
    (code.unfolded 𝓤 H 𝓜 𝓡 wired (T, (A, tt)) d dd) (λ z are.
    let Post : Val → SProp 𝓤 = (walk_of 𝓛 En hs c').post z in let κ : Lft = z.0.0.0 in let q : Share = z.0.1.0 in
    let κ₁ : Lft = z.0.0.1.0 in let q₁ : Share = z.0.1.1.0 in let vss = z.0.4 in
    let x : el_d E = z.0.3.0 in let n : ℕ = x.len in let c : ℕ = x.cap in let xs : List T.Denot = x.items in
    let Req : Type 0 = (z.0.3.1.0 ≡ x.ptr) × (z.0.3.1.1.0 ≡ n) in
    qed 𝓛 (((‵ (flft κ q) ⊛ ‵ (flft κ₁ q₁) ⊛ ‵ ftrue) ⊛ ‵ (owns (types_at En.signature.params z.0.0) z.0.3 vss)) ∷ raw
    (fact 𝓤 (κ ⊑ T.lives)) ∷ raw (fact 𝓤 (κ₁ ⊑ A.lives)) ∷ raw (fact 𝓤 Req) ∷ []) ∵
    move ! (1 ∷ 2 ∷ 3 ∷ []) $ heard ! (κ ⊑ T.lives) (λ le. heard ! (κ₁ ⊑ A.lives)
    (λ le₁. heard ! Req (λ req. split ! $ split3 ! $ move ! (3 ∷ []) $ fsplit ! $
    vec_had E ! x vss.0 (λ b o hv at told fn' fc fit fa. keep ! (0 ∷ 1 ∷ 3 ∷ 4 ∷ []) $
    let lx : n ≡ length xs = x.ok.0 in let lc : n ≤ c = x.ok.1 in
    let laid = vec_laid xs n n lx (omega arith) (λ bad. absurd (omega arith)) in let ys : List T.Denot = laid.0 in
    let marks = vec_flags n n (omega arith) in let zs : List T.Denot = xs ++ ys in let fs : List Bool =
    flags n (n - n) in
    let small : n * sz E < 2 ^ 63 = times_below n c (sz E) (2 ^ 63) lc fit in
    let vt = vec_typed E hv b o n c fa fn' fc in let st = shell_typed E hv b o n c fa fn' fc in
    let words : WT (row_val b o n) = (tt, (record { fits = fn' }, tt)) in
    let v₀ : Val = vec_val E hv b o n c in
    regoal ! (λ (us : List Val). prop (WpFn 𝓤 H C Λ fn us Post))
    (λ i. told i ++ ((are.1.0 ∙ ap (λ (p : Ptr). ptr_val p ∷ []) (req.0 ∙ at)) i
    ++ ((are.1.1.0.0 ∙ ap (λ (j : ℕ). vint w64 j ∷ []) req.1) i ++ []))) refl $
    enter ! C Λ fn (v₀ ∷ mir.Val.vptr b o ∷ vint w64 n ∷ []) Post $ alloc_all !
    (λ l. pass_all ! refl (vt, ((tt, tt), ((tt, record { fits = fn' }), tt))) $ let Ev = env fn.locals l in
    let y = at_from E 𝓛 𝓜.mem 𝓡.returns κ q b o n zs fs in
    sets ! (of_opd ! (get ! refl)) refl vt $ sets ! (agg ! (and_then ! (get ! refl) (no_more !))) refl st $
    use1 𝓛 (‵ (all E b o zs fs) ⊛ ‵ (owns_if (has_block c) (Rest E x.alloc b o n c)))
    (vec_out E 𝓛 b x.alloc o (has_block c) n n c xs ys (not_live c) (omega arith) lc (sym lx) laid.1) $ split ! $
    -- [the places; the rest; the handle; the tokens]
    first ! $ blocks ! $ sets ! (of_opd ! (get ! refl)) refl (tt, tt) $ sets ! (of_opd ! (get ! refl)) refl
    (tt, record { fits = fn' }) $
    move ! (0 ∷ 3 ∷ []) $ use2 𝓛 (raw ((From E 𝓛 𝓜.mem 𝓡.returns).pre y))
    (from_goes E 𝓛 𝓜.mem 𝓡.returns κ q b o n zs fs le laid.2 marks.0 fn' small) $
    calls_at_last ! (fm 𝓛 𝓜 𝓡) (From E 𝓛 𝓜.mem 𝓡.returns) give y
    (and_then ! (get ! refl) (and_then ! (get ! refl) (no_more !))) (λ v.
    use1 𝓛 (later (some (λ (t : (Row E).Denot). given ((v ≡ row_val b o n)
    × Made E 𝓛 𝓜.mem 𝓡.returns κ q b o n zs fs t) (‵ ((Row E).own_val t (row_val b o n ∷ [])) ⊛ ‵ (flft κ q)))))
    (from_gives E 𝓛 𝓜.mem 𝓡.returns κ q b o n zs fs v) $ await ! tt $ pick !
    (λ t. learn ! (λ got. split ! $ let made = got.1 in
    lands_last ! refl (row_Typed E v b o n got.0 fn') $ exec ! C Λ Ev (after 3 fn.body) (at_ret Ev Post) $
    sets ! (is ! (of_opd ! (get ! refl)) got.0) refl (tt, words) $ sets ! (of_opd ! (get ! refl)) refl st $
    sets ! (agg ! (and_then ! (get ! refl) (and_then ! (get ! refl) (no_more !)))) refl
    (pair_Typed (layout (Row E)) (layout (Sh E)) (row_val b o n) (shell_val v₀) (tt, words) st) $
    -- [the row; the token; the rest; the handle; A's token]
    let full : IsFull t = λ j low high. subst (λ (hs : List Bool). lib.ListN.get_or hs j mathlib.Core.Bool.false
    ≡ mathlib.Core.Bool.true) (sym made.3) (marks.1 j low (subst (λ (m : ℕ). j < m) made.1 high)) in
    let First : Type 0 = (slots_items t ≡ xs) × IsFull t × (slots_ptr t ≡ x.ptr) × (slots_len t ≡ n) in
    let Second : Type 0 = x ≡ x in
    move ! (2 ∷ 3 ∷ []) $ shell_made E ! x hv b o at fn' fc fit fa $ move ! (1 ∷ 0 ∷ []) $
    use2 𝓛 (‵ ((Tuple (Row E ∷ Sh E ∷ [])).own_val (t, x) (pair_val (row_val b o n) (shell_val v₀) ∷ [])))
    (pair_of 𝓛 (Row E) (Sh E) t x (row_val b o n) (shell_val v₀)) $
    nothing ! $ move ! (3 ∷ 0 ∷ []) $ join ! $ move ! (2 ∷ 0 ∷ []) $ join ! $
    use0 𝓛 (raw (fact 𝓤 Second)) (fact_i 𝓤 Second (emp 𝓤) refl) $ use0 𝓛 (raw (fact 𝓤 First))
    (fact_i 𝓤 First (emp 𝓤) (made.2 ∙ laid.4 refl, full, made.0 ∙ sym at, made.1)) $ join ! $
    nothing ! $ nothing ! $ fjoin ! $ nothing ! $ fjoin ! $ nothing ! $ fjoin ! $
    returns ! (look_at ! 0 refl) $ free_all ! refl $ keep ! (2 ∷ 0 ∷ 3 ∷ 1 ∷ []) $ by !
    (leaves 𝓛 En hs c' z (pair_val (row_val b o n) (shell_val v₀)) (t, x)
    (rest ((Vr E).exit En.kept.0) x, (tt, (tt, tt))) (tt, (tt, (tt, tt)))))))))))))
