-- `based` takes a row apart and makes it again, with its place. Assumes `Logic`.
use Rattle.prz_region.proofs.Names.{◌≡◌, refl, sym, subst, ◌∙◌, Bool, ℕ, ◌<◌, List, [], ◌∷◌, ◌++◌, length, a_type, Val}
use Rattle.prz_region.proofs.Names.{WT, inst_fn, SProp, emp, Lft, Share, ftrue, flft, WpFn, ◌⊑◌, fact, fact_i, tables}
use Rattle.prz_region.proofs.Names.{‵, raw, ◌⊛◌, some, given, later, prop, at_ret, ◌$◌, ◌∵◌, !, qed, by, move, keep}
use Rattle.prz_region.proofs.Names.{use0, use1, use2, split, join, pick, learn, regoal, fsplit, fjoin, await, whole}
use Rattle.prz_region.proofs.Names.{sub, agg, stop, fld, of_opd, no_more, and_then, first, blocks, exec, returns, enter}
use Rattle.prz_region.proofs.Names.{alloc_all, pass_all, free_all, look_at, get, get_in, sets, sets_last, lands_as, env}
use Rattle.prz_region.proofs.Names.{no, owns, block_ptr, layouts, plain, types_at, nothing, heard, calls_at, Stays}
use Rattle.prz_region.proofs.Names.{stay_dropped, walk_of, Goes-dropped, after, fm, proved_at, leaves, slots_items}
use Rattle.prz_region.proofs.Names.{slots_filled, slots_ptr, slots_len, slots_counts, IsFull, row_val, row_had}
use Rattle.prz_region.proofs.Names.{row_made, El, no_al, el, all, Row, From, at_from, Made, from_goes, from_gives, Into}
use Rattle.prz_region.proofs.Names.{at_into, Into-goes, Into-gives, pair_of, pair_val}
use Rattle.core.proofs.slots.Slots.from_raw_parts.Met as makes
use Rattle.core.proofs.slots.Slots.into_raw_parts.Met as takes
use mir.Val.{vptr}
use denote.RawPtr.{RawPtr}
use types.Kit.{feq_i}
use Rattle.prz_region.specs.contracts.block.based.{ended, clauses}
use Rattle.prz_region.specs.contracts.block.based.Key.{name as #self}
use Rattle.prz_region.proofs.block.based.Statement.{statement}
use Rattle.prz_region.proofs.block.based.Code as code

pub based_spec : {M : Type 1} → statement M
based_spec 𝓤 𝓛 𝓜 𝓡 wired T L =
    let H = 𝓛.H in let E : El = record { row = T; laws = L; al = no_al } in let En = ended T in let c =
    clauses T 𝓛 𝓜.mem 𝓡.returns in
    let inst = layouts (a_type ∷ []) (T, tt) in let fn = inst_fn inst code.function in
    let C = (tables 𝓤 H 𝓜 𝓡 𝓡.env).C in let Λ = (tables 𝓤 H 𝓜 𝓡 𝓡.env).Λ in
    let hs : Stays En.signature.params En.kept = (stay_dropped (plain (λ _. Row E)) no, tt) in
    let give = makes.met 𝓤 𝓛 𝓜 𝓡 (code.calls-core::slots::Slots::from_raw_parts 𝓡.env wired) T L in
    let have = takes.met 𝓤 𝓛 𝓜 𝓡 (code.calls-core::slots::Slots::into_raw_parts 𝓡.env wired) T L in
    proved_at 𝓛 En hs c 𝓜 𝓡 (Goes-dropped 𝓛 1 (plain (λ _. Row E)) no (λ κs x f. refl), tt) (#self inst) fn
    (code.unfolded 𝓤 H 𝓜 𝓡 wired (T, tt)) (λ z are.
    let Post : Val → SProp 𝓤 = (walk_of 𝓛 En hs c).post z in let κ : Lft = z.0.0.0 in let q : Share = z.0.1.0 in
    let vss = z.0.4 in
    let r : (Row E).Denot = z.0.3.0 in
    let n : ℕ = slots_len r in let xs : List T.Denot = slots_items r in let fs : List Bool = slots_filled r in
    let Req : Type 0 = IsFull r in
    qed 𝓛 (((‵ (flft κ q) ⊛ ‵ ftrue) ⊛ ‵ (owns (types_at En.signature.params z.0.0) z.0.3 vss)) ∷ raw
    (fact 𝓤 (κ ⊑ T.lives)) ∷ raw (fact 𝓤 Req) ∷ []) ∵
    move ! (1 ∷ 2 ∷ []) $ heard ! (κ ⊑ T.lives) (λ le. heard ! Req
    (λ req. split ! $ split ! $ move ! (2 ∷ []) $ fsplit ! $
    row_had (el E) ! r vss.0 (λ b o at e fn' fit. row_made (el E) ! r b o at fn' fit $ keep ! (0 ∷ 2 ∷ []) $
    let lx : n ≡ length xs = (slots_counts r).0 in let lf : n ≡ length fs = (slots_counts r).1 in
    let words : WT (row_val b o n) = (tt, (record { fits = fn' }, tt)) in
    regoal ! (λ (us : List Val). prop (WpFn 𝓤 H C Λ fn us Post)) (λ i. e i ++ []) refl $
    enter ! C Λ fn (row_val b o n ∷ []) Post $ alloc_all !
    (λ l. pass_all ! refl ((tt, words), tt) $ let Ev = env fn.locals l in
    let y = at_into E 𝓛 𝓜.mem 𝓡.returns κ q r b o in let y' = at_from E 𝓛 𝓜.mem 𝓡.returns κ q b o n xs fs in
    first ! $ blocks ! $ sets ! (of_opd ! (get ! refl)) refl (tt, words) $
    use2 𝓛 (raw ((Into E 𝓛 𝓜.mem 𝓡.returns).pre y)) (Into-goes E 𝓛 𝓜.mem 𝓡.returns κ q r b o le) $
    calls_at ! (fm 𝓛 𝓜 𝓡) (Into E 𝓛 𝓜.mem 𝓡.returns) have y (and_then ! (get ! refl) (no_more !)) (λ v.
    use1 𝓛 (later (given (v ≡ row_val b o n) (‵ (all E b o xs fs) ⊛ ‵ (flft κ q))))
    (Into-gives E 𝓛 𝓜.mem 𝓡.returns κ q r b o v at) $ await ! tt $ learn ! (λ ev. split ! $
    lands_as ! ev refl (tt, words) $
    sets ! (of_opd ! (get_in ! (fld ! refl (stop !)) (sub ! 0 refl (whole !)))) refl (tt, tt) $ sets !
    (of_opd ! (get_in ! (fld ! refl (stop !)) (sub ! 1 refl (whole !)))) refl (tt, record { fits = fn' }) $
    -- [the places; the token]
    use2 𝓛 (raw ((From E 𝓛 𝓜.mem 𝓡.returns).pre y')) (from_goes E 𝓛 𝓜.mem 𝓡.returns κ q b o n xs fs le lx lf fn' fit) $
    calls_at ! (fm 𝓛 𝓜 𝓡) (From E 𝓛 𝓜.mem 𝓡.returns) give y'
    (and_then ! (get ! refl) (and_then ! (get ! refl) (no_more !))) (λ v'.
    use1 𝓛 (later (some (λ (t : (Row E).Denot). given ((v' ≡ row_val b o n)
    × Made E 𝓛 𝓜.mem 𝓡.returns κ q b o n xs fs t) (‵ ((Row E).own_val t (row_val b o n ∷ [])) ⊛ ‵ (flft κ q)))))
    (from_gives E 𝓛 𝓜.mem 𝓡.returns κ q b o n xs fs v') $ await ! tt $ pick !
    (λ t. learn ! (λ got. split ! $ let made = got.1 in
    lands_as ! got.0 refl (tt, words) $
    sets ! (of_opd ! (get ! refl)) refl (tt, words) $
    sets_last ! (agg ! (and_then ! (get ! refl) (and_then ! (get ! refl) (no_more !)))) refl (tt, (words, (tt, tt))) $
    exec ! C Λ Ev (after 1 fn.body) (at_ret Ev Post) $ sets ! (of_opd ! (get ! refl)) refl (tt, (words, (tt, tt))) $
    -- [the row; the token]
    let full : IsFull t = λ j low high. subst (λ (hs : List Bool). lib.ListN.get_or hs j mathlib.Core.Bool.false
    ≡ mathlib.Core.Bool.true) (sym made.3) (req j low (subst (λ (m : ℕ). j < m) made.1 high)) in
    let Same : Type 0 = (slots_items t ≡ xs) × IsFull t × (slots_ptr t ≡ slots_ptr r) × (slots_len t ≡ n) in
    let Base : Type 0 = block_ptr b o ≡ slots_ptr r in
    feq_i ! (List Val) (vptr b o ∷ []) (vptr b o ∷ []) refl $ move ! (1 ∷ 0 ∷ []) $
    use2 𝓛 (‵ ((denote.Struct.Tuple.Tuple (Row E ∷ RawPtr ∷ [])).own_val (t, block_ptr b o)
    (pair_val (row_val b o n) (vptr b o) ∷ []))) (pair_of 𝓛 (Row E) RawPtr t (block_ptr b o) (row_val b o n)
    (vptr b o)) $
    -- [the pair; the token]
    nothing ! $ move ! (2 ∷ 0 ∷ []) $ join ! $ move ! (1 ∷ 0 ∷ []) $
    use0 𝓛 (raw (fact 𝓤 Base)) (fact_i 𝓤 Base (emp 𝓤) (sym at)) $
    use0 𝓛 (raw (fact 𝓤 Same)) (fact_i 𝓤 Same (emp 𝓤) (made.2, full, made.0 ∙ sym at, made.1))
    $ join ! $ nothing ! $ nothing ! $ fjoin ! $
    -- [what is left of the parameters; the facts; the pair; the token]
    returns ! (look_at ! 0 refl) $ free_all ! refl $ keep ! (3 ∷ 0 ∷ 2 ∷ 1 ∷ []) $ by !
    (leaves 𝓛 En hs c z (pair_val (row_val b o n) (vptr b o)) (t, block_ptr b o) (tt, tt) (tt, tt))))))))))))
