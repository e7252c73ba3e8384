-- What a `Shell` owns is made, and taken apart. Assumes `Logic`.
use Rattle.prz_region.proofs.Names.{◌≡◌, refl, sym, ap, ◌∙◌, ℕ, ◌-◌, ◌*◌, ◌<◌, ◌^◌, List, [], ◌∷◌, ◌++◌, w64, Val, WT}
use Rattle.prz_region.proofs.Names.{vint, vptr, vstruct, vcons, vnil, ‵, ◌$◌, move, drop, rewrite, fsplit, fjoin}
use Rattle.prz_region.proofs.Names.{RattleType, Ptr, block_ptr, nothing, El}
use seplogic.Ra.Ura.{Ura}
use lib.Dec.{T}
use mir.Val.{of_list, has_ty}
use mir.Syntax.{ty_array, ty_struct, tcons, tnil}
use mir.Raw.{raw as bare}
use base.Fml.{fsep, feq, ftrue}
use types.Logic.{Logic}
use types.Kit.{Goal, Step, step, Seq, Item, fpick, fpack, feq_l, feq_i, flt_l, flt_i}
use denote.RattleType.{Valss}
use denote.Laws.{Typed}
use denote.RawPtr.{room_for, ◌+ₚ◌}
use denote.Steps.{only}
use denote.Struct.Struct.{Struct, within}
use denote.Struct.Owning.{shape}
use Rattle.core.proofs.alloc.Calls.{token, Fits, handle_tells}
use Rattle.std_alloc.specs.Vec.Ownership.{owns_if, has_block}
use Rattle.std_alloc.proofs.ResultValues.{and_tt}
use Rattle.std_alloc.proofs.VecSteps.El.{R, P, sz, elτ, el_d, handle, owning, vec_val, words_val, vec_ty, vec_typed}
use Rattle.std_alloc.proofs.vec.Blocks.{Rest}
use Rattle.prz_region.specs.Shell.{shell}
use Rattle.prz_region.specs.contracts.block.Shell as C

abbrev pub shell_val : Val → Val
shell_val v = vstruct (vcons v vnil)

module _ (E : El) where
  abbrev pub Sh : RattleType
  Sh = C.the_row (R E) (P E) E.al.g

  pub shell_typed : (hv : Val) (b o n c : ℕ) → Fits E.al hv → n < 2 ^ 64 → c < 2 ^ 64
      → T (has_ty (ty_struct [] (tcons (vec_ty E) tnil)) (shell_val (vec_val E hv b o n c)))
      × WT (shell_val (vec_val E hv b o n c))
  shell_typed hv b o n c fa fn fc = let t = vec_typed E hv b o n c fa fn fc in
      (and_tt (has_ty (vec_ty E) (vec_val E hv b o n c)) t.0, (t.1, tt))

module _ (E : El) {M : Type 1} {𝓤 : Ura M} {𝓛 : Logic 𝓤} {K : Type 0} {Γ : List (Item 𝓤)} {G : Goal 𝓤 𝓛.H} where
  pub shell_made : K → (d : el_d E) (hv : Val) (b o : ℕ) → d.ptr ≡ block_ptr b o → d.len < 2 ^ 64 → d.cap < 2 ^ 64
      → d.cap * sz E < 2 ^ 63 → Fits E.al hv
      → Step K 𝓛 (‵ ((Sh E).own_val d (shell_val (vec_val E hv b o d.len d.cap) ∷ [])) ∷ Γ) G
      (‵ (owns_if (has_block d.cap) (Rest E d.alloc b o d.len d.cap)) ∷ ‵ (handle E d.alloc hv) ∷ Γ) G
  shell_made t d hv b o at fn fc fit fa = step (λ s.
      let v : Val = vec_val E hv b o d.len d.cap in
      flt_i t (d.cap * sz E) (2 ^ 63) fit $ fjoin t $
      nothing t $ move t (2 ∷ 0 ∷ []) $ fjoin t $
      flt_i t d.cap (2 ^ 64) fc $ feq_i t (List Val) (vint w64 d.cap ∷ []) (vint w64 d.cap ∷ [])
      refl $ fjoin t $ fjoin t $ flt_i t d.len (2 ^ 64) fn $ feq_i t (List Val) (vint w64 d.len ∷ [])
      (vint w64 d.len ∷ []) refl $ fjoin t $ fjoin t $
      feq_i t (List Val) (vptr b o ∷ []) (vptr b o ∷ []) refl $ fjoin t $ feq_i t (List Val) (v ∷ []) (v ∷ [])
      refl $ fjoin t $
      fpack t (Valss (shape (owning E)).fields) (within (shape (owning E))
      (block_ptr b o, (d.len, (d.cap, (d.alloc, tt)))) (v ∷ []))
      (vptr b o ∷ [], (vint w64 d.len ∷ [], (vint w64 d.cap ∷ [], (hv ∷ [], tt)))) $ fjoin t $
      rewrite t 0 (λ (p : Ptr). ‵ (fsep ((Struct (shape (owning E))).own_val (p, (d.len, (d.cap, (d.alloc, tt))))
      (v ∷ []))
      (Rattle.std_alloc.specs.Vec.Detached.spare (token E.al d.alloc) (R E) p d.len d.cap))) (sym at) refl $
      feq_i t (List Val) (shell_val v ∷ []) (shell_val v ∷ []) refl $ fjoin t $
      fpack t Val (λ u. fsep (feq (List Val) (shell_val v ∷ []) (vstruct (vcons u vnil) ∷ []))
      (shell (R E) (P E) E.al.g d (u ∷ []))) v $
      nothing t $ fpack t (Typed (Sh E).mir (shell_val v ∷ [])) (λ _. ftrue)
      (shell_typed E hv b o d.len d.cap fa fn fc, tt) $ fjoin t $ s)

  pub shell_had : K → (d : el_d E) (vs : List Val) (b o : ℕ) → d.ptr ≡ block_ptr b o
      → ((hv : Val) → vs ≡ shell_val (vec_val E hv b o d.len d.cap) ∷ [] → d.len < 2 ^ 64 → d.cap < 2 ^ 64
      → d.cap * sz E < 2 ^ 63 → Fits E.al hv
      → Seq K 𝓛 (‵ (owns_if (has_block d.cap) (Rest E d.alloc b o d.len d.cap)) ∷ ‵ (handle E d.alloc hv) ∷ Γ) G)
      → Seq K 𝓛 (‵ ((Sh E).own_val d vs) ∷ Γ) G
  shell_had t d vs b o at k =
      fsplit t $ drop t $ fpick t (λ v. fsplit t $ feq_l t
      (λ outer. fsplit t $ fpick t (λ vss. fsplit t $ feq_l t
      (λ inner. fsplit t $ feq_l t (λ e₀. fsplit t $ fsplit t $ feq_l t
      (λ e₁. flt_l t (λ fn. fsplit t $ fsplit t $ feq_l t (λ e₂. flt_l t (λ fc.
      fsplit t $ handle_tells E.al t d.alloc vss.1.1.1.0 (λ hv e₃ fa. move t (1 ∷ []) $ drop t $ move t (1 ∷ [])
      $ fsplit t $ flt_l t (λ fit.
      rewrite t 0 (λ (p : Ptr). ‵ (owns_if (has_block d.cap)
      (fsep (room_for (bare (ty_array (elτ E) (d.cap - d.len))) (p +ₚ d.len * sz E))
      (token E.al d.alloc (bare (ty_array (elτ E) d.cap)) p)))) at refl $
      let words : v ∷ [] ≡ vec_val E hv b o d.len d.cap ∷ [] =
      inner ∙ ((λ i. vstruct (of_list (e₀ i ++ (e₁ i ++ (e₂ i ++ (e₃ i ++ []))))) ∷ [])
      ∙ ap (λ (p : Ptr). words_val E hv p d.len d.cap ∷ []) at) in
      k hv (outer ∙ ap (λ (u : Val). shell_val u ∷ []) (ap only words)) fn fc fit fa)))))))))))
