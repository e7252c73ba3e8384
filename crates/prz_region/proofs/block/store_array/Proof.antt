-- `store_array` takes the places of an array out of a row, writes them in one assignment, and puts them back. The list
-- of stores grows beside it. Assumes `Logic`.
use mathlib.Core.Path.{◌≡◌, refl, sym, subst, ap, ◌∙◌}
use mathlib.Core.Bool.{Bool, true, false}
use mathlib.Core.Logic.{⊎_elim, inl, inr}
use mathlib.Core.List.{List, [], ◌∷◌, ◌++◌, append_assoc}
use Prim.Native.Nat.{ℕ, ◌+◌, ◌-◌, ◌*◌, ◌≤◌, ◌<◌, ◌^◌}
use native.Mathlib.Omega.{arith}
use lib.Dec.{T}
use lib.ListN.{length, take, drop, replicate, get_or, length-replicate, get_or-replicate}
use base.Fraction.{full_share}
use mir.Syntax.{Fn, Args, Ty, a_type, a_number, w32, w64, ty_array, ty_ptr}
use mir.Val.{Val, vunit, vint, vptr, has_ty, WT}
use base.Fml.{ftrue, fat, froom, flft}
use seplogic.Ra.Ura.{Ura}
use mir.MapTy.{inst_fn}
use base.Logic.{SProp, ent, emp, via, id⊢}
use prog.Memory.{Memory, size}
use prog.Routine.{Routine}
use prog.Wp.{Env, WpFn, Tables}
use types.Logic.{Logic, sem}
use contract.BorrowLft.{◌⊑◌}
use contract.Monad.{Fun, fact}
use contract.Running.{tables, tables_of}
use denote.RattleType.{RattleType, owns}
use denote.Signature.{plain, types_at}
use denote.Steps.{heard, nothing, opens, closes}
use denote.Triple.Clauses.{Clauses, Ended, closing}
use denote.Triple.Entry.{Vals}
use denote.Triple.Spec.{Meets, triple_of}
use denote.Triple.Table.{entered}
use sound.WpLaws.{WpFn-mono}
use types.Kit.{‵, raw, ◌⊛◌, at_ret, ◌$◌, ◌∵◌, !, qed, move, keep, use0, use1, use2, drop as leave, split, join}
use types.Kit.{fsplit3, fjoin, fjoin3, feq_i, given, learn, rewrite, suffices, done}
use types.Run.{init, stop, size_word, unit_lit, of_opd, bin, assigns_last, first, blocks, exec, returns, enter}
use types.ByLocal.{alloc_all, pass_all, free_all, look_at, get, is, through, sets, take_at, give_at, env}
use denote.Array.{Array}
use denote.Builtin.{u32, usize}
use denote.Exit.{yes, no, Entries, all_last, all_rest}
use denote.Laws.{Typed}
use denote.Index.{row}
use denote.Memory.{part_at}
use denote.Param.{layouts, number, param, ArrayAt}
use denote.Param.Laws.{param_laws, array_laws}
use denote.RawPtr.{Ptr, RawPtr, block_ptr, ptr_val, rawptr_Lawful}
use denote.Triple.Walked.{Stays, stay_dropped, stay_ref, walk_of, ends_at, Goes-dropped, Goes-ref, walk_Meets}
use borrow.Table.OneValue.{part_in}
use Rattle.core.specs.Mem.Slots.{IsFull}
use Rattle.core.specs.Mem.Slots.Ownership.{slots, Filled}
use Rattle.core.proofs.mem.Param.{El, R, el_x, elτ}
use Rattle.core.proofs.ptr.Rows as arrays
use Rattle.core.proofs.ptr.Rows.{times_below, one_below}
use Rattle.core.proofs.slots.Bodies.{after, knowing, says_five}
use Rattle.core.proofs.slots.Places.{sz, of_row}
use Rattle.core.proofs.str.Laws.{order}
use Rattle.core.proofs.slots.Opens.{Sr, el_d, places, row_opens, row_closes}
use Rattle.core.proofs.slots.Leases.{uncapped}
use Rattle.core.proofs.slots.Runs.{run as part, spliced, run_long, spliced_long, inside, outside, Around, run_out}
use Rattle.core.proofs.slots.Runs.{run_in, to_space}
use Rattle.prz_region.specs.Made.{Write}
use Rattle.prz_region.specs.contracts.block.Stores as St
use Rattle.prz_region.specs.contracts.block.store_array as F
use Rattle.prz_region.specs.contracts.block.store_array.Key.{name as #self}
use Rattle.prz_region.proofs.block.store_array.Statement as stated
use Rattle.prz_region.proofs.block.store_array.Code as code

abbrev Good : Ty → Val → Type 0
Good τ v = T (has_ty τ v) × WT v

one_of : (τ : Ty) (vs : List Val) → Typed (τ ∷ []) vs → (v : Val) × (vs ≡ v ∷ []) × Good τ v
one_of τ [] t = absurd t
one_of τ (v ∷ []) t = (v, refl, t.0)
one_of τ (v ∷ w ∷ vs) t = absurd t.1

nothing_left : {M : Type 1} {𝓤 : Ura M} (𝓛 : Logic 𝓤) {X : Type 0} (xs : List X) (ws : Entries (λ _. Unit {0}) xs)
    → ent 𝓤 (emp 𝓤) (sem 𝓛 (all_last (λ _. Unit {0}) (λ _ _. ftrue) xs ws))
nothing_left {𝓤 = 𝓤} 𝓛 [] ws = id⊢ 𝓤 (emp 𝓤)
nothing_left 𝓛 (x ∷ xs) ws = qed 𝓛 [] ∵ use0 𝓛 (‵ (all_last (λ _. Unit {0}) (λ _ _. ftrue) xs ws.1))
    (nothing_left 𝓛 xs ws.1) $ nothing ! $ fjoin ! $ done !

-- a full row stays full
stays_full : (fs gs : List Bool) (i n : ℕ) → i + n ≤ length fs → length gs ≡ n → ((k : ℕ) → k < n → get_or gs k false ≡ true)
    → (m : ℕ) → Filled fs 0 m → Filled (spliced fs i n gs) 0 m
stays_full fs gs i n fits long marks m all j low high = ⊎_elim
    (λ before. outside fs i n fits gs long j false (inl before) ∙ all j low high)
    (λ past. ⊎_elim
    (λ within. inside fs i n fits gs long j false past within ∙ marks (j - i) (omega (arith, past, within)))
    (λ after. outside fs i n fits gs long j false (inr after) ∙ all j low high)
    (order j (i + n)))
    (order j i)

module _ (E : El) (n : ℕ) where
  abbrev args : Args
  args = layouts (a_type ∷ a_number ∷ []) (E.row, (number n, tt))

  abbrev here : Fn
  here = inst_fn args code.function

  abbrev ended : Ended
  ended = F.ended E.row (number n)

  abbrev Arr : RattleType
  Arr = ArrayAt (R E) (param 1 (number n))

  abbrev Made : RattleType
  Made = St.the_row (R E)

  abbrev stayed : Stays ended.signature.params ended.kept
  stayed = (
    stay_ref (0 ∷ []) tt (plain (λ _. Sr E)),
    (
      stay_dropped (plain (λ _. RawPtr)) yes,
      (
        stay_dropped (plain (λ _. usize)) yes,
        (
          stay_dropped (plain (λ _. Arr)) no,
          (stay_dropped (plain (λ _. u32)) yes, (stay_ref (1 ∷ []) tt (plain (λ _. Made)), tt)),
        ),
      ),
    ),
  )

  module _ {M : Type 1} {𝓤 : Ura M} (𝓛 : Logic 𝓤) (at_mem : Memory → SProp 𝓤) (run : Routine → Fun 𝓤)
      (𝓣 : Tables 𝓤 𝓛.H) where
    open 𝓛 use {H}

    abbrev held : Clauses 𝓤 ended
    held = F.clauses E.row (number n) 𝓛 at_mem run

    abbrev Bound : Type 0
    Bound = (walk_of 𝓛 ended stayed held).Ghost

    abbrev Goes : Bound → Type 1
    Goes y = ent 𝓤 ((walk_of 𝓛 ended stayed held).pre y)
        (WpFn 𝓤 H 𝓣.C 𝓣.Λ here ((walk_of 𝓛 ended stayed held).args y) ((walk_of 𝓛 ended stayed held).post y))

    abbrev at : (z : Bound) → Vals ended.signature z.0.0 → Bound
    at z vss = ((z.0.0, z.0.1, z.0.2, z.0.3, vss), z.1)

    abbrev spelled : Bound → Val → Bound
    spelled z v = at z (
      vptr z.0.3.0.ref_ptr.0 z.0.3.0.ref_ptr.1 ∷ [],
      (
        ptr_val z.0.3.1.0 ∷ [],
        (
          vint w64 z.0.3.1.1.0 ∷ [],
          (
            v ∷ [],
            (
              vint w32 z.0.3.1.1.1.1.0 ∷ [],
              (vptr z.0.3.1.1.1.1.1.0.ref_ptr.0 z.0.3.1.1.1.1.1.0.ref_ptr.1 ∷ [], tt),
            ),
          ),
        ),
      ),
    )

    walk : (z : Bound) → z.0.3.1.1.0 < 2 ^ 64 → z.0.3.1.1.1.1.0 < 2 ^ 32 → (v : Val) → T (has_ty (ty_array (elτ E) n) v) × WT v → Goes (spelled z v)
    walk z fi fj v tv =
        let κ = z.0.0.0 in let κ₁ = z.0.0.1.0 in let κT = z.0.0.1.1.0 in let κN = z.0.0.1.1.1.0 in
        let q = z.0.1.0 in let q₁ = z.0.1.1.0 in let qT = z.0.1.1.1.0 in let qN = z.0.1.1.1.1.0 in
        let a = z.0.3 in
        let rb : ℕ = a.0.ref_ptr.0 in let ro : ℕ = a.0.ref_ptr.1 in let h : el_d E = a.0.now in
        let base : Ptr = a.1.0 in let i : ℕ = a.1.1.0 in let ws : List (el_x E) = a.1.1.1.0 in
        let number : ℕ = a.1.1.1.1.0 in
        let cb : ℕ = a.1.1.1.1.1.0.ref_ptr.0 in let co : ℕ = a.1.1.1.1.1.0.ref_ptr.1 in
        let made : List (Write (el_x E)) = a.1.1.1.1.1.0.now.made in
        let s : ℕ = sz E in let τ : Ty = ty_array (elτ E) n in
        let Post : Val → SProp 𝓤 = (walk_of 𝓛 ended stayed held).post (spelled z v) in
        let Ok : Type 0 = (h.ptr ≡ base) × (i + n ≤ h.len) × IsFull h in
        qed 𝓛 (((‵ (flft κ q) ⊛ ‵ (flft κ₁ q₁) ⊛ ‵ (flft κT qT) ⊛ ‵ (flft κN qN) ⊛ ‵ ftrue) ⊛ ‵
        (owns (types_at ended.signature.params z.0.0) a (spelled z v).0.4))
        ∷ (raw (fact 𝓤 (κT ⊑ E.row.lives)) ⊛ raw (fact 𝓤 (κN ⊑ [])) ⊛ raw (fact 𝓤 (n * size (elτ E) < 2 ^ 63))
        ⊛ raw (fact 𝓤 Ok)) ∷ []) ∵
        move ! (1 ∷ []) $ split ! $ leave ! $ split ! $ leave ! $ split ! $ heard ! (n * size (elτ E) < 2 ^ 63) (λ wide.
        heard ! Ok (λ ok.
        let lx : h.len ≡ length h.items = h.ok.0 in let lf : h.len ≡ length h.filled = h.ok.1 in
        let fx : i + n ≤ length h.items = omega (arith, ok.1, lx) in let ff : i + n ≤ length h.filled = omega (arith, ok.1, lf) in
        let more : Made.Denot = record {
          marker = record {};
          made = made ++ record { span = number; place = i; values = ws } ∷ [];
        } in
        split ! $ split ! $ move ! (2 ∷ []) $ fsplit3 ! $ move ! (2 ∷ []) $ fsplit3 ! $
        keep ! (2 ∷ 3 ∷ 1 ∷ 5 ∷ 6 ∷ []) $ fsplit3 ! $ leave ! $ fsplit3 ! $ move ! (4 ∷ []) $ fsplit3 ! $
        keep ! (1 ∷ 2 ∷ 8 ∷ 4 ∷ 5 ∷ 7 ∷ 9 ∷ []) $ move ! (6 ∷ []) $ split ! $
        keep ! (2 ∷ 3 ∷ 4 ∷ 5 ∷ 6 ∷ 0 ∷ 7 ∷ 1 ∷ []) $
        -- [the row's borrow and its token; the list's borrow and its token; the array; the other tokens]
        enter ! 𝓣.C 𝓣.Λ here (vptr rb ro ∷ ptr_val base ∷ vint w64 i ∷ v ∷ vint w32 number ∷ vptr cb co ∷ []) _ $ alloc_all !
        (λ l. pass_all ! refl (
          (tt, tt),
          (
            ((rawptr_Lawful 𝓛).typed base (ptr_val base ∷ []) refl).0,
            ((tt, record { fits = fi }), (tv, ((tt, record { fits = fj }), ((tt, tt), tt)))),
          ),
        ) $
        let En : Env 𝓤 H = env here.locals l in
        move ! (3 ∷ 4 ∷ 5 ∷ []) $ opens ! tt Made cb co (λ cs.
        closes ! tt Made more cs cb co $ move ! (3 ∷ 4 ∷ 5 ∷ []) $
        row_opens E ! tt h rb ro (λ b o at_b fl fit.
        let dst : ℕ = i * s + o in
        let part_fits : i * s < 2 ^ 63 = times_below i h.len s (2 ^ 63) (omega (arith, ok.1)) fit in
        let fm : i * s < 2 ^ 64 = omega (arith, part_fits) in
        take_at ! 2 $ rewrite ! 0 (λ (p : Ptr). ‵ (fat full_share ty_ptr (l 2) 0 (ptr_val p))) (sym ok.0 ∙ at_b) refl $
        give_at ! 2 $
        use1 𝓛 (‵ (slots (R E) (block_ptr b dst) (part h.items i n) (part h.filled i n)) ⊛ ‵
        (Around E 𝓛 b o h.items h.filled i n)) (run_out E 𝓛 b o h.items h.filled i n fx (sym lf ∙ lx)) $ split ! $
        use1 𝓛 (‵ (froom τ b dst)) (to_space E 𝓛 b dst n _ (run_long h.items i n fx) _ (run_long h.filled i n ff)) $
        -- [the room; the other places; the row's words, open borrow, obs and auth; the list's borrow and its token; the
        -- array; the other tokens]
        first ! $ blocks ! $
        sets ! (is ! (bin ! (get ! refl) (size_word !)
        (record { fits = subst (λ (k : ℕ). k < 2 ^ 64) (sym (uncapped i s fm)) fm })) (ap (vint w64) (uncapped i s fm)))
        refl (tt, record { fits = fm }) $
        sets ! (bin ! (get ! refl) (get ! refl) tt) refl (tt, tt) $ sets ! (of_opd ! (get ! refl)) refl (tt, tt) $
        sets ! (of_opd ! (get ! refl)) refl tv $
        assigns_last ! (of_opd ! (get ! refl)) (through ! refl (stop !)) (init ! 0 refl tv) $
        exec ! 𝓣.C 𝓣.Λ En (after 1 here.body) (at_ret En Post) $ sets ! (of_opd ! (unit_lit !)) refl (tt, tt) $
        move ! (0 ∷ 9 ∷ []) $ use2 𝓛 (‵ (part_at (Array (R E) n) full_share ws b dst))
        (part_in 𝓛 (Array (R E) n) refl full_share ws b dst v) $
        use1 𝓛 (given (length ws ≡ n) (‵ (row (R E) full_share ws b dst)))
        (arrays.apart (record { row = E.row; laws = E.laws }) 𝓛 full_share n ws b dst) $ learn ! (λ long.
        let marks = length-replicate (length ws) true in
        let filled : List Bool = replicate (length ws) true in
        let g : el_d E = record {
          ptr = h.ptr;
          len = h.len;
          items = spliced h.items i n ws;
          filled = spliced h.filled i n filled;
          ok = (
            lx ∙ sym (spliced_long h.items i n fx ws long),
            lf ∙ sym (spliced_long h.filled i n ff filled (marks ∙ long)),
          );
          small = h.small;
        } in
        use1 𝓛 (‵ (slots (R E) (block_ptr b dst) ws filled)) (of_row E 𝓛 b ws dst) $
        use2 𝓛 (‵ (places E g b o)) (run_in E 𝓛 b o h.items h.filled i n fx (sym lf ∙ lx) ws filled long (marks ∙ long)) $
        row_closes E ! tt g b o rb ro at_b fl fit $
        -- [the row's borrow and its token; the list's borrow and its token; the other tokens]
        returns ! (look_at ! 0 refl) $ free_all ! refl $
        suffices ! _ (ends_at 𝓛 ended stayed held (spelled z v) vunit tt
        (g, (tt, (tt, (all_rest (λ _. Unit {0}) (λ _. tt) ws, (tt, (more, tt)))))) (tt, (tt, (tt, (tt, (tt, (tt, tt))))))) $
        says_five ! (
          sym (append_assoc (take i h.items) ws (drop (i + n) h.items)),
          stays_full h.filled filled i n ff (marks ∙ long)
              (λ k lt. get_or-replicate (length ws) k true false (omega (arith, lt, long))) h.len ok.2,
          record { start = refl; count = refl },
          refl,
          long,
        ) $
        feq_i ! (List Val) (vptr rb ro ∷ []) (vptr rb ro ∷ []) refl $ fjoin3 ! $ move ! (2 ∷ 3 ∷ []) $
        feq_i ! (List Val) (vptr cb co ∷ []) (vptr cb co ∷ []) refl $ fjoin3 ! $ nothing ! $ move ! (1 ∷ 0 ∷ []) $
        fjoin ! $ nothing ! $ fjoin ! $ nothing ! $ fjoin ! $ nothing ! $ fjoin ! $ nothing ! $ fjoin ! $ move ! (1 ∷ 0 ∷ []) $ fjoin ! $
        move ! (2 ∷ 3 ∷ []) $ join ! $ move ! (2 ∷ 0 ∷ []) $ join ! $
        feq_i ! (List Val) (vunit ∷ []) (vunit ∷ []) refl $ keep ! (1 ∷ 2 ∷ 0 ∷ []) $ done !))))))

    meets : Meets 𝓛 ended.signature (WpFn 𝓤 H 𝓣.C 𝓣.Λ here) (closing 𝓛 ended held)
    meets =
        walk_Meets 𝓛 ended stayed (
          Goes-ref 𝓛 4 0 tt (plain (λ _. Sr E)),
          (
            Goes-dropped 𝓛 4 (plain (λ _. RawPtr)) yes (λ κs x f. refl),
            (
              Goes-dropped 𝓛 4 (plain (λ _. usize)) yes (λ κs x f. refl),
              (
                λ κs x f vs ok. via 𝓤 _ (nothing_left 𝓛 x f) (𝓛.laws.⇛_intro _),
                (
                  Goes-dropped 𝓛 4 (plain (λ _. u32)) yes (λ κs x f. refl),
                  (Goes-ref 𝓛 4 1 tt (plain (λ _. Made)), tt),
                ),
              ),
            ),
          ),
        ) held (WpFn 𝓤 H 𝓣.C 𝓣.Λ here) (WpFn-mono 𝓤 H 𝓛.laws 𝓣 here)
        (λ z. let a = z.0.3 in let vss = z.0.4 in
        knowing 𝓛 ended stayed held (WpFn 𝓤 H 𝓣.C 𝓣.Λ here) z (λ are.
        let got = one_of (ty_array (elτ E) n) vss.1.1.1.0
        (((array_laws (R E) (param_laws 0 E.row E.laws) n).lawful 𝓛).typed a.1.1.1.0 vss.1.1.1.0 are.1.1.1.0) in
        subst (λ (uss : Vals ended.signature z.0.0). Goes (at z uss))
        (sym (λ k. (are.0.0 k, (are.1.0 k, (are.1.1.0.0 k, (got.1 k, (are.1.1.1.1.0.0 k, (are.1.1.1.1.1.0.0 k, tt))))))))
        (walk z are.1.1.0.1 are.1.1.1.1.0.1 got.0 got.2)))

pub store_array_spec : {M : Type 1} → stated.statement M
unfolding tables_of
store_array_spec 𝓤 𝓛 𝓜 𝓡 wired X n L fits =
    let E : El = record { row = X; laws = L } in
    let 𝓣 : Tables 𝓤 𝓛.H = tables_of 𝓤 𝓛.H 𝓜 (tables 𝓤 𝓛.H 𝓜 𝓡 𝓡.env) in
    entered 𝓤 𝓛.H (triple_of 𝓛 (ended E n).signature (F.spec X (number n) 𝓛 𝓜.mem 𝓡.returns)) 𝓣.C 𝓣.Λ
    (#self (args E n)) (here E n) (code.unfolded 𝓤 𝓛.H 𝓜 𝓡 wired (X, (number n, tt)))
    (meets E n 𝓛 𝓜.mem 𝓡.returns 𝓣)
