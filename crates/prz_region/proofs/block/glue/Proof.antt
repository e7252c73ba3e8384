-- `glue` takes two rows apart and makes one of their places. Assumes `Logic`.
use Rattle.prz_region.proofs.Names.{◌≡◌, refl, sym, ap, subst, ◌∙◌, Bool, ℕ, ◌+◌, ◌*◌, ◌<◌, ◌^◌, arith, List, [], ◌∷◌}
use Rattle.prz_region.proofs.Names.{◌++◌, length, length-append, a_type, Val, WT, inst_fn, SProp, emp, Lft, Share}
use Rattle.prz_region.proofs.Names.{ftrue, flft, WpFn, ◌⊑◌, fact, fact_i, tables, ‵, raw, ◌⊛◌, some, given, later, prop}
use Rattle.prz_region.proofs.Names.{at_ret, ◌$◌, ◌∵◌, !, qed, by, move, keep, use0, use1, use2, split, join, pick}
use Rattle.prz_region.proofs.Names.{learn, rewrite, regoal, fsplit3, fjoin, await, whole, sub, stop, fld, of_opd, bin}
use Rattle.prz_region.proofs.Names.{no_more, and_then, first, blocks, exec, returns, enter, alloc_all, pass_all}
use Rattle.prz_region.proofs.Names.{free_all, look_at, get, get_in, sets, lands_as, lands_last, is, env, no, owns, Ptr}
use Rattle.prz_region.proofs.Names.{block_ptr, ◌+ₚ◌, layouts, plain, types_at, nothing, heard, calls_at, calls_at_last}
use Rattle.prz_region.proofs.Names.{Stays, stay_dropped, walk_of, Goes-dropped, after, fm, proved_at, leaves}
use Rattle.prz_region.proofs.Names.{slots_items, slots_filled, slots_ptr, slots_len, slots_counts, IsFull, bytes_of}
use Rattle.prz_region.proofs.Names.{row_val, words_val, row_glue, El, no_al, el, all, Row, From, at_from, Made}
use Rattle.prz_region.proofs.Names.{from_goes, from_gives, Into, at_into, Into-goes, Into-gives, Row-seen, row_Typed}
use Rattle.std_alloc.proofs.VecSteps.El.{R}
use Rattle.prz_region.proofs.Rows.{filled-append}
use Rattle.core.proofs.slots.Slots.from_raw_parts.Met as makes
use Rattle.core.proofs.slots.Slots.into_raw_parts.Met as takes
use Rattle.prz_region.specs.contracts.block.glue.{ended, clauses}
use Rattle.prz_region.specs.contracts.block.glue.Key.{name as #self}
use Rattle.prz_region.proofs.block.glue.Statement.{statement}
use Rattle.prz_region.proofs.block.glue.Code as code

pub glue_spec : {M : Type 1} → statement M
glue_spec 𝓤 𝓛 𝓜 𝓡 wired T L =
    let H = 𝓛.H in let E : El = record { row = T; laws = L; al = no_al } in let En = ended T in let c =
    clauses T 𝓛 𝓜.mem 𝓡.returns in
    let inst = layouts (a_type ∷ []) (T, tt) in let fn = inst_fn inst code.function in
    let C = (tables 𝓤 H 𝓜 𝓡 𝓡.env).C in let Λ = (tables 𝓤 H 𝓜 𝓡 𝓡.env).Λ in
    let hs : Stays En.signature.params En.kept = (
      stay_dropped (plain (λ _. Row E)) no,
      (stay_dropped (plain (λ _. Row E)) no, tt),
    ) in
    let give = makes.met 𝓤 𝓛 𝓜 𝓡 (code.calls-core::slots::Slots::from_raw_parts 𝓡.env wired) T L in
    let have = takes.met 𝓤 𝓛 𝓜 𝓡 (code.calls-core::slots::Slots::into_raw_parts 𝓡.env wired) T L in
    proved_at 𝓛 En hs c 𝓜 𝓡 (
      Goes-dropped 𝓛 1 (plain (λ _. Row E)) no (λ κs x f. refl),
      (Goes-dropped 𝓛 1 (plain (λ _. Row E)) no (λ κs x f. refl), tt),
    ) (#self inst) fn
    (code.unfolded 𝓤 H 𝓜 𝓡 wired (T, tt)) (λ z are.
    let Post : Val → SProp 𝓤 = (walk_of 𝓛 En hs c).post z in let κ : Lft = z.0.0.0 in let q : Share = z.0.1.0 in
    let vss = z.0.4 in
    let r : (Row E).Denot = z.0.3.0 in let r' : (Row E).Denot = z.0.3.1.0 in let s : ℕ = bytes_of (R E) in
    let n : ℕ = slots_len r in let k : ℕ = slots_len r' in let xs : List T.Denot = slots_items r in
    let ys : List T.Denot = slots_items r' in let fs : List Bool = slots_filled r in let gs : List Bool =
    slots_filled r' in
    let Req : Type 0 = (slots_ptr r' ≡ slots_ptr r +ₚ (n * s)) × IsFull r × IsFull r' × ((n + k) * s < 2 ^ 63)
    × (n + k < 2 ^ 64) in
    qed 𝓛 (((‵ (flft κ q) ⊛ ‵ ftrue) ⊛ ‵ (owns (types_at En.signature.params z.0.0) z.0.3 vss)) ∷ raw
    (fact 𝓤 (κ ⊑ T.lives)) ∷ raw (fact 𝓤 Req) ∷ []) ∵
    move ! (1 ∷ 2 ∷ []) $ heard ! (κ ⊑ T.lives) (λ le. heard ! Req
    (λ req. split ! $ split ! $ move ! (2 ∷ []) $ fsplit3 ! $
    Row-seen E ! r vss.0 (λ b o at e fn'. move ! (1 ∷ []) $ Row-seen E ! r' vss.1.0 (λ b' o' at' e' fk.
    let at'' : slots_ptr r' ≡ block_ptr b (o + n * s) = req.0 ∙ ap (λ (p : Ptr). p +ₚ (n * s)) at in
    let same : row_val b' o' k ≡ row_val b (o + n * s) k = ap (λ (p : Ptr). words_val p k) (sym at' ∙ at'') in
    rewrite ! 0 (λ (v : Val). ‵ ((Row E).own_val r' (v ∷ []))) same refl $ keep ! (1 ∷ 0 ∷ 3 ∷ []) $
    let lx : n ≡ length xs = (slots_counts r).0 in let lf : n ≡ length fs = (slots_counts r).1 in
    let ly : k ≡ length ys = (slots_counts r').0 in let lg : k ≡ length gs = (slots_counts r').1 in
    let words : WT (row_val b o n) = (tt, (record { fits = fn' }, tt)) in let words' : WT (row_val b (o + n * s) k) =
    (tt, (record { fits = fk }, tt)) in let words'' : WT (row_val b o (n + k)) =
    (tt, (record { fits = req.4 }, tt)) in
    regoal ! (λ (us : List Val). prop (WpFn 𝓤 H C Λ fn us Post))
    (λ i. e i ++ ((e' ∙ ap (λ (v : Val). v ∷ []) same) i ++ [])) refl $
    enter ! C Λ fn (row_val b o n ∷ row_val b (o + n * s) k ∷ []) Post $ alloc_all !
    (λ l. pass_all ! refl ((tt, words), ((tt, words'), tt)) $ let Ev = env fn.locals l in
    let y = at_into E 𝓛 𝓜.mem 𝓡.returns κ q r b o in let y' = at_into E 𝓛 𝓜.mem 𝓡.returns κ q r' b (o + n * s) in
    let y'' = at_from E 𝓛 𝓜.mem 𝓡.returns κ q b o (n + k) (xs ++ ys) (fs ++ gs) in
    first ! $ blocks ! $ sets ! (of_opd ! (get ! refl)) refl (tt, words) $
    move ! (0 ∷ 2 ∷ []) $ use2 𝓛 (raw ((Into E 𝓛 𝓜.mem 𝓡.returns).pre y)) (Into-goes E 𝓛 𝓜.mem 𝓡.returns κ q r b o le) $
    calls_at ! (fm 𝓛 𝓜 𝓡) (Into E 𝓛 𝓜.mem 𝓡.returns) have y (and_then ! (get ! refl) (no_more !)) (λ v.
    use1 𝓛 (later (given (v ≡ row_val b o n) (‵ (all E b o xs fs) ⊛ ‵ (flft κ q))))
    (Into-gives E 𝓛 𝓜.mem 𝓡.returns κ q r b o v at) $ await ! tt $ learn ! (λ ev. split ! $
    lands_as ! ev refl (tt, words) $
    sets ! (of_opd ! (get_in ! (fld ! refl (stop !)) (sub ! 0 refl (whole !)))) refl (tt, tt) $ sets !
    (of_opd ! (get_in ! (fld ! refl (stop !)) (sub ! 1 refl (whole !)))) refl (tt, record { fits = fn' }) $
    sets ! (of_opd ! (get ! refl)) refl (tt, words') $
    -- [the places of low; the token; high]
    move ! (2 ∷ 1 ∷ []) $ use2 𝓛 (raw ((Into E 𝓛 𝓜.mem 𝓡.returns).pre y'))
    (Into-goes E 𝓛 𝓜.mem 𝓡.returns κ q r' b (o + n * s) le) $
    calls_at ! (fm 𝓛 𝓜 𝓡) (Into E 𝓛 𝓜.mem 𝓡.returns) have y' (and_then ! (get ! refl) (no_more !)) (λ v'.
    use1 𝓛 (later (given (v' ≡ row_val b (o + n * s) k) (‵ (all E b (o + n * s) ys gs) ⊛ ‵ (flft κ q))))
    (Into-gives E 𝓛 𝓜.mem 𝓡.returns κ q r' b (o + n * s) v' at'') $ await ! tt $ learn ! (λ ev'. split ! $
    lands_as ! ev' refl (tt, words') $
    sets ! (of_opd ! (get_in ! (fld ! refl (stop !)) (sub ! 1 refl (whole !)))) refl (tt, record { fits = fk }) $
    sets ! (bin ! (get ! refl) (get ! refl) (record { fits = req.4 })) refl (tt, record { fits = req.4 }) $
    -- [the places of high; the token; the places of low]
    move ! (2 ∷ 0 ∷ []) $ use2 𝓛 (‵ (all E b o (xs ++ ys) (fs ++ gs)))
    (row_glue (el E) 𝓛 b xs ys fs gs o (o + n * s) (sym lf ∙ lx) (omega (arith, ap (λ (j : ℕ). j * s) lx))) $
    use2 𝓛 (raw ((From E 𝓛 𝓜.mem 𝓡.returns).pre y'')) (from_goes E 𝓛 𝓜.mem 𝓡.returns κ q b o (n + k) (xs ++ ys)
    (fs ++ gs) le (omega (arith, length-append xs ys)) (omega (arith, length-append fs gs)) req.4 req.3) $
    calls_at_last ! (fm 𝓛 𝓜 𝓡) (From E 𝓛 𝓜.mem 𝓡.returns) give y''
    (and_then ! (get ! refl) (and_then ! (get ! refl) (no_more !))) (λ v''.
    use1 𝓛 (later (some (λ (t : (Row E).Denot). given ((v'' ≡ row_val b o (n + k))
    × Made E 𝓛 𝓜.mem 𝓡.returns κ q b o (n + k) (xs ++ ys) (fs ++ gs) t)
    (‵ ((Row E).own_val t (row_val b o (n + k) ∷ [])) ⊛ ‵ (flft κ q)))))
    (from_gives E 𝓛 𝓜.mem 𝓡.returns κ q b o (n + k) (xs ++ ys) (fs ++ gs) v'') $ await ! tt $ pick !
    (λ t. learn ! (λ got. split ! $ let made = got.1 in
    lands_last ! refl (row_Typed E v'' b o (n + k) got.0 req.4) $ exec ! C Λ Ev (after 1 fn.body) (at_ret Ev Post)
    $ sets ! (is ! (of_opd ! (get ! refl)) got.0) refl (tt, words'') $
    let full : IsFull t = λ j low high. subst (λ (hs : List Bool). lib.ListN.get_or hs j mathlib.Core.Bool.false
    ≡ mathlib.Core.Bool.true) (sym made.3) (filled-append fs gs n k (sym lf) req.1 req.2 j low
    (subst (λ (m : ℕ). j < m) made.1 high)) in
    let Told : Type 0 = (slots_items t ≡ xs ++ ys) × IsFull t × (slots_ptr t ≡ slots_ptr r) × (slots_len t ≡ n + k) in
    nothing ! $ move ! (2 ∷ 0 ∷ []) $ join ! $ use0 𝓛 (raw (fact 𝓤 Told))
    (fact_i 𝓤 Told (emp 𝓤) (made.2, full, made.0 ∙ sym at, made.1))
    $ nothing ! $ nothing ! $ fjoin ! $ nothing ! $ fjoin ! $
    returns ! (look_at ! 0 refl) $ free_all ! refl $ keep ! (2 ∷ 0 ∷ 3 ∷ 1 ∷ []) $ by !
    (leaves 𝓛 En hs c z (row_val b o (n + k)) t (tt, (tt, tt)) (tt, (tt, tt))))))))))))))))
