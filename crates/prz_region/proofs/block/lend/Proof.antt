-- `lend` hands on the `&` to each value that a `&` to the row holds. Assumes `Logic`.
use mathlib.Core.Path.{◌≡◌, refl, sym, ap, subst, ◌∙◌}
use mathlib.Core.Bool.{Bool}
use Prim.Native.Nat.{ℕ, suc, ◌+◌, ◌*◌, ◌<◌, ◌^◌}
use native.Mathlib.Omega.{arith}
use mathlib.Core.List.{List, [], ◌∷◌}
use lib.ListN.{length}
use mir.Syntax.{Fn, w64, named}
use mir.Val.{Val, vint, vptr}
use base.Fml.{Lft, ftrue, flt, flft}
use seplogic.Ra.Ura.{Ura}
use mir.MapTy.{inst_fn}
use base.Logic.{SProp, ent}
use prog.Memory.{Memory}
use prog.Routine.{Routine}
use prog.Wp.{Env, WpFn, Tables}
use types.Logic.{Logic, sem}
use contract.BorrowLft.{◌⊑◌}
use contract.Monad.{Fun, fact}
use contract.Running.{tables, tables_of}
use denote.RattleType.{owns}
use denote.Signature.{plain, types_at}
use denote.Slice.{slice_val, elements_shared}
use denote.Steps.{heard, nothing}
use denote.Triple.Clauses.{Clauses, Ended, closing}
use denote.Triple.Spec.{Meets, triple_of}
use denote.Triple.Table.{entered}
use sound.WpLaws.{WpFn-mono}
use types.Kit.{‵, raw, ◌⊛◌, prop, at_ret, ◌$◌, ◌∵◌, !, qed, move, keep, use1, drop, split, split3, join, rewrite}
use types.Kit.{regoal, fsplit, fjoin, feq_i, flt_l, flt_i, suffices, done}
use types.Part.{agg}
use types.Run.{of_opd, no_more, and_then, first, blocks, exec, returns, enter}
use types.ByLocal.{alloc_all, pass_all, free_all, look_at, get, sets, sets_last, env}
use denote.Exit.{yes}
use denote.Builtin.{usize, RefOf}
use denote.Memory.{hidden_shr}
use denote.Opens.{hide}
use denote.Plain.{uint_vals, uint_Tells}
use denote.RawPtr.{Ptr, block_ptr, RawPtr, ptr_val, rawptr_vals, rawptr_Tells, in_a_block}
use denote.Ref.{shr_vals, shr_Tells}
use denote.Triple.Walked.{says, Stays, stay_dropped, walk_of, ends_at, walked, Goes-dropped, walk_Meets}
use Rattle.core.proofs.mem.Param.{El, R, args, el_x}
use Rattle.core.specs.Mem.Slots.{IsFull}
use Rattle.core.specs.Mem.Slots.Ownership.{Filled, slot_lent, slots_lent}
use Rattle.core.proofs.slots.Bodies.{after}
use Rattle.core.proofs.slots.Places.{sz}
use Rattle.core.proofs.slots.Opens.{Sr, el_d}
use Rattle.core.proofs.slots.Lent.{shown, none_at_null}
use Rattle.prz_region.specs.contracts.block.lend as F
use Rattle.prz_region.specs.contracts.block.lend.Key.{name as #self}
use Rattle.prz_region.proofs.block.lend.Statement as stated
use Rattle.prz_region.proofs.block.lend.Code as code

module _ (E : El) {M : Type 1} {𝓤 : Ura M} (𝓛 : Logic 𝓤) (κ : Lft) (b : ℕ) where
  -- a row without a hole is lent value by value, as a slice is
  all_lent : (o : ℕ) (xs : List (el_x E)) (fs : List Bool) → length xs ≡ length fs → Filled fs 0 (length fs)
      → ent 𝓤 (sem 𝓛 (slots_lent (R E) (block_ptr b o) xs fs κ)) (sem 𝓛 (elements_shared (R E) xs b o κ))
  all_lent o [] fs e full = qed 𝓛 (‵ (slots_lent (R E) (block_ptr b o) [] fs κ) ∷ []) ∵ done !
  all_lent o (x ∷ xs) [] e full = absurd (omega arith)
  all_lent o (x ∷ xs) (f ∷ fs) e full = qed 𝓛 (‵ (slot_lent (R E) f (block_ptr b o) x κ) ∷ ‵
      (slots_lent (R E) (block_ptr b (o + sz E)) xs fs κ) ∷ []) ∵
      rewrite ! 0 (λ (g : Bool). ‵ (slot_lent (R E) g (block_ptr b o) x κ)) (full 0 (omega arith) (omega arith))
      refl $ fsplit ! $ drop ! $ move ! (1 ∷ []) $
      use1 𝓛 (‵ (elements_shared (R E) xs b (o + sz E) κ))
      (all_lent (o + sz E) xs fs (omega arith) (λ k low high. full (suc k) (omega arith) (omega arith))) $ move !
      (1 ∷ 0 ∷ []) $ fjoin ! $ done !

module _ (E : El) where
  abbrev here : Fn
  here = inst_fn (args E) code.function

  abbrev ended : Ended
  ended = F.ended E.row

  abbrev stayed : Stays ended.signature.params ended.kept
  stayed = (
    stay_dropped (RefOf (0 ∷ []) tt (plain (λ _. Sr E)) (λ _. tt)) yes,
    (stay_dropped (plain (λ _. RawPtr)) yes, (stay_dropped (plain (λ _. usize)) yes, tt)),
  )

  module _ {M : Type 1} {𝓤 : Ura M} (𝓛 : Logic 𝓤) (at_mem : Memory → SProp 𝓤) (run : Routine → Fun 𝓤)
      (𝓣 : Tables 𝓤 𝓛.H) where
    open 𝓛 use {H}

    abbrev held : Clauses 𝓤 ended
    held = F.clauses E.row 𝓛 at_mem run

    abbrev Bound : Type 0
    Bound = (walk_of 𝓛 ended stayed held).Ghost

    abbrev Goes : Bound → Type 1
    Goes y = ent 𝓤 ((walk_of 𝓛 ended stayed held).pre y)
        (WpFn 𝓤 H 𝓣.C 𝓣.Λ here ((walk_of 𝓛 ended stayed held).args y) ((walk_of 𝓛 ended stayed held).post y))

    abbrev spelled : Bound → Bound
    spelled z = (
      (
        z.0.0,
        z.0.1,
        z.0.2,
        z.0.3,
        (
          shr_vals z.0.3.0,
          (rawptr_vals z.0.3.1.0, (uint_vals w64 z.0.3.1.1.0, tt)),
        ),
      ),
      z.1,
    )

    walk : (z : Bound) → z.0.3.1.1.0 < 2 ^ 64 → Goes (spelled z)
    walk z fi =
        let κ = z.0.0.0 in let κ₁ = z.0.0.1.0 in let q = z.0.1.0 in let q₁ = z.0.1.1.0 in
        let rb : ℕ = z.0.3.0.ref_ptr.0 in let ro : ℕ = z.0.3.0.ref_ptr.1 in let h : el_d E = z.0.3.0.now in
        let base : Ptr = z.0.3.1.0 in let n : ℕ = z.0.3.1.1.0 in
        let Post : Val → SProp 𝓤 = (walk_of 𝓛 ended stayed held).post (spelled z) in
        let Ok : Type 0 = (0 < n) × (h.ptr ≡ base) × (h.len ≡ n) × IsFull h in
        let s : ℕ = sz E in
        let lx : h.len ≡ length h.items = h.ok.0 in let lf : h.len ≡ length h.filled = h.ok.1 in
        qed 𝓛 (((‵ (flft κ q) ⊛ ‵ (flft κ₁ q₁) ⊛ ‵ ftrue) ⊛ ‵
        (owns (types_at ended.signature.params z.0.0) z.0.3 (spelled z).0.4))
        ∷ (raw (fact 𝓤 (κ₁ ⊑ E.row.lives)) ⊛ raw (fact 𝓤 Ok)) ∷ []) ∵
        move ! (1 ∷ []) $ split ! $ drop ! $ heard ! Ok (λ ok.
        let some : 0 < length h.items = omega (arith, ok.0, ok.2, lx) in let marks : 0 < length h.filled =
        omega (arith, ok.0, ok.2, lf) in
        let full : Filled h.filled 0 (length h.filled) = subst (λ (k : ℕ). Filled h.filled 0 k) lf ok.3 in
        let long : length h.items ≡ n = sym lx ∙ ok.2 in
        split ! $ split ! $ move ! (2 ∷ []) $ fsplit ! $ fsplit ! $ drop ! $
        use1 𝓛 (‵ (hidden_shr RawPtr κ h.ptr rb (ro + 0)) ⊛ ‵ (hidden_shr usize κ h.len rb (ro + 8)) ⊛ ‵
        (flt (h.len * s) (2 ^ 63)) ⊛ ‵ (slots_lent (R E) h.ptr h.items h.filled κ)) (shown E 𝓛 κ h rb ro) $
        split3 ! $ move ! (2 ∷ []) $ split ! $ flt_l ! (λ fit.
        in_a_block ! h.ptr (λ p. slots_lent (R E) p h.items h.filled κ)
        (none_at_null E 𝓛 κ h.items h.filled 0 some marks (full 0 (omega arith) marks)) (λ b o at_b.
        use1 𝓛 (‵ (elements_shared (R E) h.items b o κ)) (all_lent E 𝓛 κ b o h.items h.filled (sym lx ∙ lf) full)
        $ hide ! $ keep ! (0 ∷ 4 ∷ 5 ∷ []) $
        regoal ! (λ (us : List Val). prop (WpFn 𝓤 H 𝓣.C 𝓣.Λ here us Post))
        (λ i. vptr rb ro ∷ ptr_val ((sym ok.1 ∙ at_b) i) ∷ vint w64 n ∷ []) refl $
        enter ! 𝓣.C 𝓣.Λ here (vptr rb ro ∷ vptr b o ∷ vint w64 n ∷ []) _ $ alloc_all !
        (λ l. pass_all ! refl ((tt, tt), ((tt, tt), ((tt, record { fits = fi }), tt))) $
        let En : Env 𝓤 H = env here.locals l in
        first ! $ blocks ! $
        sets_last ! (agg ! (and_then ! (get ! refl) (and_then ! (get ! refl) (no_more !)))) refl
        (tt, (tt, (record { fits = fi }, tt))) $
        exec ! 𝓣.C 𝓣.Λ En (after 1 here.body) (at_ret En Post) $ sets ! (of_opd ! (get ! refl)) refl
        (tt, (tt, (record { fits = fi }, tt))) $
        returns ! (look_at ! 0 refl) $ free_all ! refl $
        suffices ! _ (ends_at 𝓛 ended stayed held (spelled z) (slice_val (b, o) n)
        (record { ref_ptr = (b, o); now = h.items }) (tt, (tt, (tt, tt))) (tt, (tt, (tt, tt)))) $ says ! refl $
        move ! (1 ∷ 2 ∷ []) $ join ! $ move ! (1 ∷ []) $
        flt_i ! (length h.items * s) (2 ^ 63) (subst (λ (k : ℕ). k * s < 2 ^ 63) lx fit) $ flt_i ! (length h.items)
        (2 ^ 64) (subst (λ (k : ℕ). k < 2 ^ 64) (sym long) fi) $ fjoin ! $
        feq_i ! (List Val) (slice_val (b, o) n ∷ []) (slice_val (b, o) (length h.items) ∷ [])
        (ap (λ (k : ℕ). slice_val (b, o) k ∷ []) (sym long)) $ fjoin ! $ fjoin ! $
        nothing ! $ nothing ! $ fjoin ! $ nothing ! $ fjoin ! $ nothing ! $ fjoin ! $ keep ! (2 ∷ 0 ∷ 1 ∷ [])
        $ done !))))

    meets : Meets 𝓛 ended.signature (WpFn 𝓤 H 𝓣.C 𝓣.Λ here) (closing 𝓛 ended held)
    meets =
        walk_Meets 𝓛 ended stayed (
          Goes-dropped 𝓛 2 (RefOf (0 ∷ []) tt (plain (λ _. Sr E)) (λ _. tt)) yes
              (λ κs x f. refl),
          (
            Goes-dropped 𝓛 2 (plain (λ _. RawPtr)) yes (λ κs x f. refl),
            (Goes-dropped 𝓛 2 (plain (λ _. usize)) yes (λ κs x f. refl), tt),
          ),
        ) held
        (WpFn 𝓤 H 𝓣.C 𝓣.Λ here) (WpFn-mono 𝓤 H 𝓛.laws 𝓣 here)
        (walked 𝓛 ended stayed held (WpFn 𝓤 H 𝓣.C 𝓣.Λ here) (λ κs. (shr_vals, (rawptr_vals, (uint_vals w64, tt))))
        (λ κs. (shr_Tells (named 0) κs.0 (Sr E), (rawptr_Tells, (uint_Tells w64, tt))))
        (λ κs qs bounds a g are. walk (
          (
            κs,
            qs,
            bounds,
            a,
            (shr_vals a.0, (rawptr_vals a.1.0, (uint_vals w64 a.1.1.0, tt))),
          ),
          g,
        ) are.1.1.0.1))

pub lend_spec : {M : Type 1} → stated.statement M
unfolding tables_of
lend_spec 𝓤 𝓛 𝓜 𝓡 wired X L =
    let E : El = record { row = X; laws = L } in
    let 𝓣 : Tables 𝓤 𝓛.H = tables_of 𝓤 𝓛.H 𝓜 (tables 𝓤 𝓛.H 𝓜 𝓡 𝓡.env) in
    entered 𝓤 𝓛.H (triple_of 𝓛 (F.signature X) (F.spec X 𝓛 𝓜.mem 𝓡.returns)) 𝓣.C 𝓣.Λ (#self (args E)) (here E)
    (code.unfolded 𝓤 𝓛.H 𝓜 𝓡 wired (X, tt))
    (meets E 𝓛 𝓜.mem 𝓡.returns 𝓣)
