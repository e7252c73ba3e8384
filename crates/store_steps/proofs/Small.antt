-- No call has as many stores as a word can count
use Rattle.std.proofs.Common.{◌≡◌, ℕ, ◌+◌, ◌-◌, ◌*◌, ◌/◌, ◌<◌, ◌≤◌, ◌^◌, List, [], ◌∷◌, ◌++◌, length, take, drop, sym}
use Rattle.std.proofs.Common.{ap, ◌∙◌, subst, arith, if◌then◌else◌, ◌==◌, length-take, length-drop, inl, inr}
use Rattle.std.proofs.lemmas.Bool.Decides.{eqb_tells}
use Rattle.std.proofs.lemmas.List.Sums.{sum_by-append}
use Rattle.std.specs.List.{sum_by}
use Rattle.zone_spec.specs.declared.Zone.{Zone}
use Rattle.zone_spec.specs.declared.Words.{Words}
use Rattle.zone_spec.specs.Zones.{IsValidZone}
use Rattle.zone_spec.specs.Told.{Call, Append, Erase, Dump}
use Rattle.zone_spec.specs.Stages.{stage_count}
use Rattle.zone_spec.specs.Calls.{append_stages, call_stages, erase_stages}
use Rattle.store_steps.specs.Calls.{last_of, line_of, front_of, body_stages, IsOpenFor}
use Rattle.store_steps.proofs.StoresLeft.{counted}
use Rattle.store_steps.proofs.PhaseStores.{block_some, end_in}
use Rattle.store_steps.proofs.Totals.{met, append_count, parity_most, last_short, stages_append, stages_dump}
use Rattle.store_steps.proofs.Totals.{erase_count}

met_most : (z : Zone) (place n : ℕ) → IsValidZone z → place + n ≤ z.cap → met z place n ≤ z.blocks
met_most z place n valid h = omega (arith, end_in z (place + n) valid h)

append_small : (z : Zone) (start size : ℕ) (bytes : List ℕ) → IsValidZone z → start < z.cap → length bytes ≤ z.cap
    → counted z (append_stages z start size bytes) < 2 ^ 28
append_small z start size [] valid h k = omega arith
append_small z start size (b ∷ bs) valid h k =
    let bytes : List ℕ = b ∷ bs in
    let m1 : ℕ = met z start (length (take (z.cap - start) bytes)) in
    let m2 : ℕ = met z 0 (length (drop (z.cap - start) bytes)) in
    let e = append_count z start size bytes (block_some z.block valid.block).0 (omega arith) h in
    let l1 : m1 ≤ z.blocks = met_most z start (length (take (z.cap - start) bytes)) valid
    (omega (arith, h, length-take (z.cap - start) bytes)) in
    let l2 : m2 ≤ z.blocks = met_most z 0 (length (drop (z.cap - start) bytes)) valid
    (omega (arith, k, length-drop (z.cap - start) bytes)) in
    let word : (if size == z.cap then 1 else 2) ≤ 2 = words size z.cap in
    omega (arith, e, k, word, parity_most z m1 m2 valid l1 l2, valid.cap, valid.at_most)
  where
    words : (n cap : ℕ) → (if n == cap then 1 else 2) ≤ 2
    words n cap = elim (eqb_tells n cap) [ inl e ↦ rw e.0 (omega arith) | inr e ↦ rw e.0 (omega arith) ]

front_short : (cap : ℕ) (head body : List ℕ) → length (front_of cap (Dump head body)) ≤ cap
unfolding front_of
front_short cap head body = omega (arith, length-take (cap - length head) body)

pub total_small : (z : Zone) (w : Words) (call : Call) → IsValidZone z → IsOpenFor call w z.cap
    → length (line_of call) ≤ 36 → sum_by (stage_count z) (call_stages z w call) < 2 ^ 32
total_small z w (Append bytes) valid open_for line =
    let e : counted z (call_stages z w (Append bytes))
    ≡ counted z (append_stages z w.start w.size (last_of z.cap (Append bytes))) =
    ap (counted z) (stages_append z w bytes) in
    omega (
      arith,
      e,
      append_small z w.start w.size (last_of z.cap (Append bytes)) valid open_for.0
          (last_short z.cap (Append bytes)),
    )
total_small z w Erase valid open_for line = omega (arith, erase_count z, valid.parity)
total_small z w (Dump head body) valid open_for line =
    let call : Call = Dump head body in
    let at : ℕ = length (line_of call) in
    let e : counted z (call_stages z w call) ≡ counted z erase_stages
    + (counted z (append_stages z 0 0 (line_of call)) + counted z (body_stages z call)) =
    ap (counted z) (stages_dump z w head body)
    ∙ sum_by-append (stage_count z) erase_stages (append_stages z 0 0 (line_of call) ++ body_stages z call)
    ∙ ap (λ m. counted z erase_stages + m)
    (sum_by-append (stage_count z) (append_stages z 0 0 (line_of call)) (body_stages z call)) in
    let l1 = append_small z 0 0 (line_of call) valid (omega (arith, valid.room)) (omega (arith, line, valid.room)) in
    let l2 = append_small z at at (front_of z.cap call) valid (omega (arith, line, valid.room))
    (front_short z.cap head body) in
    omega (arith, e, l1, l2, erase_count z, valid.parity)
