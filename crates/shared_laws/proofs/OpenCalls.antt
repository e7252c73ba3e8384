-- Which open calls are shown
use Rattle.std.proofs.Common.{◌≡◌, ℕ, zero, suc, ◌+◌, Bool, true, false, cond, List, [], ◌∷◌, ◌++◌, refl, sym, ap, ◌∙◌}
use Rattle.std.proofs.Common.{subst, arith, inl, inr, Some}
use Rattle.std.proofs.lemmas.List.Elements.{Contains-append_left, Contains-append_right, Contains-append_cases}
use Rattle.std.specs.Prelude.{slice_get, Contains}
use Rattle.zone_spec.specs.declared.Zone.{Zone}
use Rattle.shared_spec.specs.declared.OpenCall.{OpenCall}
use Rattle.shared_spec.specs.Calls.{SharedCall, is_open_call, open_call}
use Rattle.shared_spec.specs.Machine.{SharedZone, shown, open_calls_from}
use Rattle.shared_laws.specs.Laws.{OpenCallsAreShown}
use Rattle.shared_laws.proofs.Counts.{open_call-some, open_call-is}

one : (a o : OpenCall) → Contains (a ∷ []) o → a ≡ o
one a o (zero, l, e) = e
one a o (suc k, l, e) = absurd (omega arith)

only : (o : OpenCall) → Contains [] o → ⊥
only o (k, l, e) = omega arith

first_shown : (b : Bool) (a o : OpenCall) → Contains (cond b (a ∷ []) []) o → (b ≡ true) × (a ≡ o)
first_shown true a o h = (refl, one a o h)
first_shown false a o h = absurd (only o h)

first_there : (b : Bool) (a : OpenCall) → b ≡ true → Contains (cond b (a ∷ []) []) a
first_there true a e = (0, omega arith, refl)
first_there false a e = cc

module _ (z : Zone) (shared : SharedZone) where
  abbrev pub IsShown : List SharedCall → ℕ → OpenCall → Type 0
  IsShown cs k o = (i : ℕ) × (c : SharedCall) × (open_call cs i ≡ Some c) × (o ≡ shown z shared (k + i) c)

  shown_then : (cs : List SharedCall) (k : ℕ) (o : OpenCall) → Contains (open_calls_from z shared k cs) o
      → IsShown cs k o
  unfolding open_calls_from
  shown_then [] k o h = absurd (only o h)
  shown_then (x ∷ xs) k o h = elim (Contains-append_cases
      (cond (is_open_call x) (shown z shared k x ∷ []) []) (open_calls_from z shared (k + 1) xs) o h) [
        | inl a ↦
            (let f : (is_open_call x ≡ true) × (shown z shared k x ≡ o) =
            first_shown (is_open_call x) (shown z shared k x) o a in (
              0,
              x,
              open_call-is (x ∷ xs) 0 x refl f.0,
              sym f.1 ∙ (let e : k ≡ k + 0 = omega arith in ap (λ t. shown z shared t x) e),
            ))
        | inr b ↦
            (let r : IsShown xs (k + 1) o = shown_then xs (k + 1) o b in (
              suc r.0,
              r.1,
              r.2,
              r.3 ∙ (let e : (k + 1) + r.0 ≡ k + suc r.0 = omega arith in ap (λ t. shown z shared t r.1) e),
            ))
      ]

  then_shown : (cs : List SharedCall) (k i : ℕ) (c : SharedCall) → open_call cs i ≡ Some c
      → Contains (open_calls_from z shared k cs) (shown z shared (k + i) c)
  unfolding open_calls_from
  then_shown [] k i c e = cc
  then_shown (x ∷ xs) k zero c e =
      let h : (slice_get (x ∷ xs) 0 ≡ Some c) × (is_open_call c ≡ true) = open_call-some (x ∷ xs) 0 c e in
      let s : x ≡ c = (let g : slice_get (x ∷ xs) 0 ≡ Some c = h.0 in cc) in
      subst (λ o. Contains (cond (is_open_call x) (shown z shared k x ∷ []) []
      ++ open_calls_from z shared (k + 1) xs) o)
      (ap (shown z shared k) s ∙ (let m : k ≡ k + 0 = omega arith in ap (λ t. shown z shared t c) m))
      (Contains-append_left (cond (is_open_call x) (shown z shared k x ∷ []) []) (open_calls_from z shared (k + 1) xs)
      (shown z shared k x) (first_there (is_open_call x) (shown z shared k x) (ap is_open_call s ∙ h.1)))
  then_shown (x ∷ xs) k (suc i) c e =
      subst (λ o. Contains (cond (is_open_call x) (shown z shared k x ∷ []) []
      ++ open_calls_from z shared (k + 1) xs) o)
      (let m : (k + 1) + i ≡ k + suc i = omega arith in ap (λ t. shown z shared t c) m)
      (Contains-append_right (cond (is_open_call x) (shown z shared k x ∷ []) []) (open_calls_from z shared (k + 1) xs)
      (shown z shared ((k + 1) + i) c) (then_shown xs (k + 1) i c e))

pub open_calls_are_shown : OpenCallsAreShown
open_calls_are_shown z shared o = (
  λ h.
      let r : IsShown z shared shared.calls 0 o = shown_then z shared shared.calls 0 o h in
      let t : o.ticket ≡ r.0 = ap (λ (x : OpenCall). x.ticket) r.3 ∙ (let e : 0 + r.0 ≡ r.0 = omega arith in e) in (
        r.1,
        ap (open_call shared.calls) t ∙ r.2,
        r.3 ∙ (let e : 0 + r.0 ≡ o.ticket = omega arith in ap (λ n. shown z shared n r.1) e),
      ),
  λ h.
      let c : SharedCall = h.0 in
      subst (Contains (open_calls_from z shared 0 shared.calls))
      ((let e : 0 + o.ticket ≡ o.ticket = omega arith in ap (λ n. shown z shared n c) e) ∙ sym h.2)
      (then_shown z shared shared.calls 0 o.ticket c h.1),
)
