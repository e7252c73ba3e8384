-- `split` takes a row apart and makes two of its places. Assumes `Logic`.
use Rattle.prz_region.proofs.Names.{◌≡◌, refl, sym, ap, subst, ◌∙◌, Bool, ℕ, ◌+◌, ◌-◌, ◌*◌, ◌≤◌, ◌<◌, ◌^◌, arith, List}
use Rattle.prz_region.proofs.Names.{[], ◌∷◌, ◌++◌, length, length-take-le, length-drop, take, drop_l, take-append-drop}
use Rattle.prz_region.proofs.Names.{times_below, a_type, w64, Val, WT, vint, inst_fn, SProp, emp, Lft, Share, ftrue}
use Rattle.prz_region.proofs.Names.{flft, WpFn, ◌⊑◌, fact, fact_i, tables, ‵, raw, ◌⊛◌, some, given, later, prop}
use Rattle.prz_region.proofs.Names.{at_ret, ◌$◌, ◌∵◌, !, qed, by, move, keep, use0, use1, use2, split, join, pick}
use Rattle.prz_region.proofs.Names.{learn, rewrite, regoal, fsplit, fjoin, await, whole, sub, agg, stop, fld, of_opd}
use Rattle.prz_region.proofs.Names.{bin, size_word, no_more, and_then, first, blocks, exec, returns, enter, alloc_all}
use Rattle.prz_region.proofs.Names.{pass_all, free_all, look_at, get, get_in, sets, sets_last, lands_as, is, env, no}
use Rattle.prz_region.proofs.Names.{yes, owns, Ptr, block_ptr, ◌+ₚ◌, layouts, plain, usize, types_at, nothing, heard}
use Rattle.prz_region.proofs.Names.{calls_at, Stays, stay_dropped, walk_of, Goes-dropped, after, fm, proved_at, leaves}
use Rattle.prz_region.proofs.Names.{slots_items, slots_filled, slots_ptr, slots_len, slots_counts, IsFull, bytes_of}
use Rattle.prz_region.proofs.Names.{row_val, row_had, row_made, row_cut, El, no_al, el, all, Row, From, at_from, Made}
use Rattle.prz_region.proofs.Names.{from_goes, from_gives, Into, at_into, Into-goes, Into-gives, uncapped, pair_of}
use Rattle.prz_region.proofs.Names.{pair_val}
use Rattle.std_alloc.proofs.VecSteps.El.{R}
use Rattle.prz_region.proofs.Rows.{filled-take, filled-drop}
use Rattle.core.proofs.slots.Slots.from_raw_parts.Met as makes
use Rattle.core.proofs.slots.Slots.into_raw_parts.Met as takes
use Rattle.prz_region.specs.contracts.block.split.{ended, clauses}
use Rattle.prz_region.specs.contracts.block.split.Key.{name as #self}
use Rattle.prz_region.proofs.block.split.Statement.{statement}
use Rattle.prz_region.proofs.block.split.Code as code

pub split_spec : {M : Type 1} → statement M
split_spec 𝓤 𝓛 𝓜 𝓡 wired T L =
    let H = 𝓛.H in let E : El = record { row = T; laws = L; al = no_al } in let En = ended T in let c =
    clauses T 𝓛 𝓜.mem 𝓡.returns in
    let inst = layouts (a_type ∷ []) (T, tt) in let fn = inst_fn inst code.function in
    let C = (tables 𝓤 H 𝓜 𝓡 𝓡.env).C in let Λ = (tables 𝓤 H 𝓜 𝓡 𝓡.env).Λ in
    let hs : Stays En.signature.params En.kept = (
      stay_dropped (plain (λ _. Row E)) no,
      (stay_dropped (plain (λ _. usize)) yes, tt),
    ) in
    let give = makes.met 𝓤 𝓛 𝓜 𝓡 (code.calls-core::slots::Slots::from_raw_parts 𝓡.env wired) T L in
    let have = takes.met 𝓤 𝓛 𝓜 𝓡 (code.calls-core::slots::Slots::into_raw_parts 𝓡.env wired) T L in
    proved_at 𝓛 En hs c 𝓜 𝓡 (
      Goes-dropped 𝓛 1 (plain (λ _. Row E)) no (λ κs x f. refl),
      (Goes-dropped 𝓛 1 (plain (λ _. usize)) yes (λ κs x f. refl), tt),
    ) (#self inst) fn
    (code.unfolded 𝓤 H 𝓜 𝓡 wired (T, tt)) (λ z are.
    let Post : Val → SProp 𝓤 = (walk_of 𝓛 En hs c).post z in let κ : Lft = z.0.0.0 in let q : Share = z.0.1.0 in
    let vss = z.0.4 in
    let r : (Row E).Denot = z.0.3.0 in let k : ℕ = z.0.3.1.0 in let s : ℕ = bytes_of (R E) in
    let n : ℕ = slots_len r in let xs : List T.Denot = slots_items r in let fs : List Bool = slots_filled r in
    let Req : Type 0 = (k ≤ n) × IsFull r in
    qed 𝓛 (((‵ (flft κ q) ⊛ ‵ ftrue) ⊛ ‵ (owns (types_at En.signature.params z.0.0) z.0.3 vss)) ∷ raw
    (fact 𝓤 (κ ⊑ T.lives)) ∷ raw (fact 𝓤 Req) ∷ []) ∵
    move ! (1 ∷ 2 ∷ []) $ heard ! (κ ⊑ T.lives) (λ le. heard ! Req
    (λ req. split ! $ split ! $ move ! (2 ∷ []) $ fsplit ! $
    row_had (el E) ! r vss.0 (λ b o at e fn' fit. row_made (el E) ! r b o at fn' fit $ keep ! (0 ∷ 2 ∷ []) $
    let fk : k < 2 ^ 64 = are.1.0.1 in let within : k ≤ n = req.0 in
    let lx : n ≡ length xs = (slots_counts r).0 in let lf : n ≡ length fs = (slots_counts r).1 in
    let far : k * s < 2 ^ 63 = times_below k n s (2 ^ 63) within fit in let wide : k * s < 2 ^ 64 = omega arith in
    let m : ℕ = n - k in let fm' : m < 2 ^ 64 = omega arith in let past : m * s < 2 ^ 63 =
    times_below m n s (2 ^ 63) (omega arith) fit in let at' : ℕ = k * s + o in
    let lows : List T.Denot = take k xs in let highs : List T.Denot = drop_l k xs in let lowf : List Bool =
    take k fs in let highf : List Bool = drop_l k fs in
    let llx : length lows ≡ k = length-take-le k xs (omega arith) in let llf : length lowf ≡ k =
    length-take-le k fs (omega arith) in
    let words : WT (row_val b o n) = (tt, (record { fits = fn' }, tt)) in let words' : WT (row_val b o k) =
    (tt, (record { fits = fk }, tt)) in let words'' : WT (row_val b at' m) = (tt, (record { fits = fm' }, tt)) in
    regoal ! (λ (us : List Val). prop (WpFn 𝓤 H C Λ fn us Post)) (λ i. e i ++ (are.1.0.0 i ++ [])) refl $
    enter ! C Λ fn (row_val b o n ∷ vint w64 k ∷ []) Post $ alloc_all !
    (λ l. pass_all ! refl ((tt, words), ((tt, record { fits = fk }), tt)) $ let Ev = env fn.locals l in
    let y = at_into E 𝓛 𝓜.mem 𝓡.returns κ q r b o in let y' = at_from E 𝓛 𝓜.mem 𝓡.returns κ q b o k lows lowf in
    let y'' = at_from E 𝓛 𝓜.mem 𝓡.returns κ q b at' m highs highf in
    first ! $ blocks ! $ sets ! (of_opd ! (get ! refl)) refl (tt, words) $
    use2 𝓛 (raw ((Into E 𝓛 𝓜.mem 𝓡.returns).pre y)) (Into-goes E 𝓛 𝓜.mem 𝓡.returns κ q r b o le) $
    calls_at ! (fm 𝓛 𝓜 𝓡) (Into E 𝓛 𝓜.mem 𝓡.returns) have y (and_then ! (get ! refl) (no_more !)) (λ v.
    use1 𝓛 (later (given (v ≡ row_val b o n) (‵ (all E b o xs fs) ⊛ ‵ (flft κ q))))
    (Into-gives E 𝓛 𝓜.mem 𝓡.returns κ q r b o v at) $ await ! tt $ learn ! (λ ev. split ! $
    lands_as ! ev refl (tt, words) $
    sets ! (of_opd ! (get_in ! (fld ! refl (stop !)) (sub ! 0 refl (whole !)))) refl (tt, tt) $ sets !
    (of_opd ! (get_in ! (fld ! refl (stop !)) (sub ! 1 refl (whole !)))) refl (tt, record { fits = fn' }) $
    -- [the places; the token]
    rewrite ! 0 (λ (l : List T.Denot). ‵ (all E b o l fs)) (sym (take-append-drop k xs)) refl $ rewrite ! 0
    (λ (l : List Bool). ‵ (all E b o (lows ++ highs) l)) (sym (take-append-drop k fs)) refl $
    use1 𝓛 (‵ (all E b o lows lowf) ⊛ ‵ (all E b at' highs highf))
    (row_cut (el E) 𝓛 b lows highs lowf highf o at' (llf ∙ sym llx) (omega (arith, ap (λ (j : ℕ). j * s) llx)))
    $ split ! $
    -- [the low places; the high places; the token]
    move ! (0 ∷ 2 ∷ []) $ use2 𝓛 (raw ((From E 𝓛 𝓜.mem 𝓡.returns).pre y'))
    (from_goes E 𝓛 𝓜.mem 𝓡.returns κ q b o k lows lowf le (sym llx) (sym llf) fk far) $
    calls_at ! (fm 𝓛 𝓜 𝓡) (From E 𝓛 𝓜.mem 𝓡.returns) give y'
    (and_then ! (get ! refl) (and_then ! (get ! refl) (no_more !))) (λ v'.
    use1 𝓛 (later (some (λ (t : (Row E).Denot). given ((v' ≡ row_val b o k)
    × Made E 𝓛 𝓜.mem 𝓡.returns κ q b o k lows lowf t) (‵ ((Row E).own_val t (row_val b o k ∷ [])) ⊛ ‵ (flft κ q)))))
    (from_gives E 𝓛 𝓜.mem 𝓡.returns κ q b o k lows lowf v') $ await ! tt $ pick !
    (λ t. learn ! (λ got. split ! $ let made = got.1 in
    lands_as ! got.0 refl (tt, words') $
    sets ! (is ! (bin ! (get ! refl) (size_word !) (record
    { fits = subst (λ (j : ℕ). j < 2 ^ 64) (sym (uncapped k s wide)) wide })) (ap (vint w64) (uncapped k s wide)))
    refl (tt, record { fits = wide }) $
    sets ! (bin ! (get ! refl) (get ! refl) tt) refl (tt, tt) $ sets ! (bin ! (get ! refl) (get ! refl) within) refl
    (tt, record { fits = fm' }) $
    -- [the low row; the token; the high places]
    move ! (2 ∷ 1 ∷ []) $ use2 𝓛 (raw ((From E 𝓛 𝓜.mem 𝓡.returns).pre y''))
    (from_goes E 𝓛 𝓜.mem 𝓡.returns κ q b at' m highs highf le (omega (arith, length-drop k xs))
    (omega (arith, length-drop k fs)) fm' past) $
    calls_at ! (fm 𝓛 𝓜 𝓡) (From E 𝓛 𝓜.mem 𝓡.returns) give y''
    (and_then ! (get ! refl) (and_then ! (get ! refl) (no_more !))) (λ v''.
    use1 𝓛 (later (some (λ (t : (Row E).Denot). given ((v'' ≡ row_val b at' m)
    × Made E 𝓛 𝓜.mem 𝓡.returns κ q b at' m highs highf t)
    (‵ ((Row E).own_val t (row_val b at' m ∷ [])) ⊛ ‵ (flft κ q)))))
    (from_gives E 𝓛 𝓜.mem 𝓡.returns κ q b at' m highs highf v'') $ await ! tt $ pick !
    (λ t'. learn ! (λ got'. split ! $ let made' = got'.1 in
    lands_as ! got'.0 refl (tt, words'') $
    sets ! (of_opd ! (get ! refl)) refl (tt, words') $ sets ! (of_opd ! (get ! refl)) refl (tt, words'') $
    sets_last ! (agg ! (and_then ! (get ! refl) (and_then ! (get ! refl) (no_more !)))) refl
    (tt, (words', (words'', tt))) $
    exec ! C Λ Ev (after 1 fn.body) (at_ret Ev Post) $ sets ! (of_opd ! (get ! refl)) refl
    (tt, (words', (words'', tt))) $
    -- [the high row; the token; the low row]
    let full : IsFull t = λ j low high. subst (λ (hs : List Bool). lib.ListN.get_or hs j mathlib.Core.Bool.false
    ≡ mathlib.Core.Bool.true) (sym made.3) (filled-take fs n k within req.1 j low
    (subst (λ (m : ℕ). j < m) made.1 high)) in
    let full' : IsFull t' = λ j low high. subst (λ (hs : List Bool). lib.ListN.get_or hs j mathlib.Core.Bool.false
    ≡ mathlib.Core.Bool.true) (sym made'.3) (filled-drop fs n k within req.1 j low
    (subst (λ (m : ℕ). j < m) made'.1 high)) in
    let turn : at' ≡ o + k * s = omega arith in
    let Low : Type 0 = (slots_items t ≡ lows) × IsFull t × (slots_ptr t ≡ slots_ptr r) × (slots_len t ≡ k) in
    let High : Type 0 = (slots_items t' ≡ highs) × IsFull t' × (slots_ptr t' ≡ slots_ptr r +ₚ (k * s))
    × (slots_len t' ≡ n - k) in
    nothing ! $ move ! (2 ∷ 0 ∷ []) $ join ! $
    -- [the token; the high row; the low row]
    move ! (2 ∷ 1 ∷ []) $ use2 𝓛 (‵ ((denote.Struct.Tuple.Tuple (Row E ∷ Row E ∷ [])).own_val (t, t')
    (pair_val (row_val b o k) (row_val b at' m) ∷ [])))
    (pair_of 𝓛 (Row E) (Row E) t t' (row_val b o k) (row_val b at' m)) $
    -- [the pair; the token]
    use0 𝓛 (raw (fact 𝓤 High)) (fact_i 𝓤 High (emp 𝓤) (
      made'.2,
      full',
      made'.0 ∙ ap (λ (j : ℕ). block_ptr b j) turn
          ∙ sym (ap (λ (p : Ptr). p +ₚ (k * s)) at),
      made'.1,
    )) $
    use0 𝓛 (raw (fact 𝓤 Low)) (fact_i 𝓤 Low (emp 𝓤) (made.2, full, made.0 ∙ sym at, made.1))
    $ join ! $ nothing ! $ nothing ! $ fjoin ! $ nothing ! $ fjoin ! $
    -- [what is left of the parameters; the facts; the pair; the token]
    returns ! (look_at ! 0 refl) $ free_all ! refl $ keep ! (3 ∷ 0 ∷ 2 ∷ 1 ∷ []) $ by !
    (leaves 𝓛 En hs c z (pair_val (row_val b o k) (row_val b at' m)) (t, t') (tt, (tt, tt))
    (tt, (tt, tt))))))))))))))))
