-- How many stores the stages of a call have
use Rattle.std.proofs.Common.{◌≡◌, ℕ, suc, ◌+◌, ◌-◌, ◌*◌, ◌/◌, ◌%◌, ◌^◌, ◌<◌, ◌≤◌, min, if◌then◌else◌, ◌==◌, List, []}
use Rattle.std.proofs.Common.{◌∷◌, ◌++◌, length, take, drop, map, refl, sym, ap, ◌∙◌, arith, append-nil, inl, inr}
use Rattle.std.proofs.Common.{length-take, length-drop, mul-le-mul_right}
use Rattle.std.proofs.Math.Nat.{div-lt_iff_lt-mul}
use Rattle.std.proofs.lemmas.List.FromFn.{length-range_with_len}
use Rattle.std.proofs.lemmas.List.Sums.{sum_by-cons, sum_by-append}
use Rattle.std.proofs.lemmas.Bool.Decides.{eqb_tells}
use Rattle.zone_spec.specs.declared.Zone.{Zone}
use Rattle.zone_spec.specs.Zones.{IsValidZone}
use Rattle.zone_spec.specs.declared.Words.{Words}
use Rattle.zone_spec.specs.Parts.{Header, Block}
use Rattle.zone_spec.specs.Told.{Call, Append, Erase, Dump}
use Rattle.zone_spec.specs.Stages.{Stage, StartWord, SizeWord, Run, ParityOf, stage_count, blocks_met}
use Rattle.zone_spec.specs.Calls.{append_stages, erase_stages, run_stages, call_stages}
use Rattle.store_steps.specs.Calls.{last_of, line_of, front_of, body_stages}
use Rattle.store_steps.proofs.StoresLeft.{counted}
use Rattle.store_steps.proofs.Parts.{append_begins_ne, append_begins_full, sized}

abbrev pub met : Zone → ℕ → ℕ → ℕ
met z place n = ((place + n + z.block) - 1) / z.block - place / z.block

pub parities_count : (z : Zone) (bs : List ℕ) → counted z (map (λ k. ParityOf (Block k)) bs) ≡ length bs * z.parity
parities_count z [] = grind arith
parities_count z (b ∷ bs) =
    sum_by-cons (stage_count z) (ParityOf (Block b)) (map (λ k. ParityOf (Block k)) bs)
    ∙ ap (λ n. z.parity + n) (parities_count z bs)
    ∙ (let e : z.parity + length bs * z.parity ≡ suc (length bs) * z.parity = grind arith in e)

pub met_none : (z : Zone) → 0 < z.block → met z 0 0 ≡ 0
met_none z k = let l : ((0 + 0 + z.block) - 1) / z.block < 1 = (div-lt_iff_lt-mul k).1 (omega arith) in omega arith

pub run_count : (z : Zone) (place : ℕ) (xs : List ℕ) → 0 < z.block → (length xs ≡ 0 → place ≡ 0)
    → counted z (run_stages z place xs) ≡ length xs + met z place (length xs) * z.parity
run_count z place [] k h =
    let at : place ≡ 0 = h refl in
    let none : met z place 0 ≡ 0 = ap (λ p. met z p 0) at ∙ met_none z k in
    rw none (let e : 0 ≡ 0 + 0 * z.parity = grind arith in e)
run_count z place (b ∷ bs) k h =
    sum_by-cons (stage_count z) (Run place (b ∷ bs)) (map (λ j. ParityOf (Block j))
    (blocks_met z place (length (b ∷ bs))))
    ∙ ap (λ n. length (b ∷ bs) + n) (parities_count z (blocks_met z place (length (b ∷ bs)))
    ∙ ap (λ n. n * z.parity) (length-range_with_len (place / z.block) (met z place (length (b ∷ bs)))))

sized_count : (z : Zone) (start : ℕ) (bytes more : List ℕ) → 0 < z.block → 0 < length bytes → start < z.cap
    → counted z (sized z start bytes []) ≡ 1 + length bytes
    + (met z start (length (take (z.cap - start) bytes)) + met z 0 (length (drop (z.cap - start) bytes)) + 1)
    * z.parity
sized_count z start bytes more k some h =
    let r1 : List Stage = run_stages z start (take (z.cap - start) bytes) in
    let r2 : List Stage = run_stages z 0 (drop (z.cap - start) bytes) in
    let m1 : ℕ = met z start (length (take (z.cap - start) bytes)) in
    let m2 : ℕ = met z 0 (length (drop (z.cap - start) bytes)) in
    let c1 : counted z r1 ≡ length (take (z.cap - start) bytes) + m1 * z.parity =
    run_count z start (take (z.cap - start) bytes) k (λ e. absurd
    (omega (arith, e, length-take (z.cap - start) bytes))) in
    let c2 : counted z r2 ≡ length (drop (z.cap - start) bytes) + m2 * z.parity =
    run_count z 0 (drop (z.cap - start) bytes) k (λ e. refl) in
    let c3 : counted z (ParityOf Header ∷ []) ≡ z.parity = sum_by-cons (stage_count z) (ParityOf Header) []
    ∙ (let e : z.parity + 0 ≡ z.parity = omega arith in e) in
    let a1 : counted z (r2 ++ ParityOf Header ∷ []) ≡ counted z r2 + counted z (ParityOf Header ∷ []) =
    sum_by-append (stage_count z) r2 (ParityOf Header ∷ []) in
    let a2 : counted z (r1 ++ (r2 ++ ParityOf Header ∷ [])) ≡ counted z r1 + counted z (r2 ++ ParityOf Header ∷ []) =
    sum_by-append (stage_count z) r1 (r2 ++ ParityOf Header ∷ []) in
    let a3 : counted z (sized z start bytes []) ≡ 1 + counted z (r1 ++ (r2 ++ ParityOf Header ∷ [])) =
    sum_by-cons (stage_count z) (StartWord ((start + length bytes) % z.cap)) (r1 ++ (r2 ++ ParityOf Header ∷ [])) in
    let p : (m1 + m2 + 1) * z.parity ≡ m1 * z.parity + m2 * z.parity + z.parity = grind arith in
    omega (arith, a3, a2, a1, c1, c2, c3, p, length-take (z.cap - start) bytes, length-drop (z.cap - start) bytes)

pub append_count : (z : Zone) (start size : ℕ) (bytes : List ℕ) → 0 < z.block → 0 < length bytes → start < z.cap
    → counted z (append_stages z start size bytes) ≡ (if size == z.cap then 1 else 2) + length bytes
    + (met z start (length (take (z.cap - start) bytes)) + met z 0 (length (drop (z.cap - start) bytes)) + 1)
    * z.parity
append_count z start size bytes k some h = elim (eqb_tells size z.cap) [
  | inl e ↦ rw e.0 (ap (counted z) (sym (append-nil (append_stages z start size bytes))
      ∙ append_begins_full z start size bytes [] e.0 some) ∙ sized_count z start bytes [] k some h)
  | inr e ↦ rw e.0 (ap (counted z) (sym (append-nil (append_stages z start size bytes))
      ∙ append_begins_ne z start size bytes [] e.0 some)
      ∙ sum_by-cons (stage_count z) (SizeWord (min z.cap (size + length bytes))) (sized z start bytes [])
      ∙ (let s = sized_count z start bytes [] k some h in omega (arith, s)))
]

-- the parity of an append's blocks takes no more room than three times that of the zone's
pub parity_most : (z : Zone) (m1 m2 : ℕ) → IsValidZone z → m1 ≤ z.blocks → m2 ≤ z.blocks
    → (m1 + m2 + 1) * z.parity ≤ 3 * 2 ^ 24
parity_most z m1 m2 valid h k =
    let l1 : m1 * z.parity ≤ z.blocks * z.parity = mul-le-mul_right z.parity h in
    let l2 : m2 * z.parity ≤ z.blocks * z.parity = mul-le-mul_right z.parity k in
    let p : (m1 + m2 + 1) * z.parity ≡ m1 * z.parity + m2 * z.parity + z.parity = grind arith in
    let c : (z.blocks + 1) * z.parity ≡ z.blocks * z.parity + z.parity = grind arith in
    omega (arith, valid.cap, valid.at_most)

pub last_short : (cap : ℕ) (call : Call) → length (last_of cap call) ≤ cap
unfolding last_of
last_short cap (Append bytes) = omega (arith, length-drop (length bytes - cap) bytes)
last_short cap Erase = omega arith
last_short cap (Dump line body) = omega arith

-- the stages of a whole call, by its parts
pub stages_append : (z : Zone) (w : Words) (bytes : List ℕ)
    → call_stages z w (Append bytes) ≡ append_stages z w.start w.size (last_of z.cap (Append bytes))
unfolding last_of
stages_append z w bytes = append-nil (append_stages z w.start w.size (last_of z.cap (Append bytes)))

pub stages_dump : (z : Zone) (w : Words) (line body : List ℕ)
    → call_stages z w (Dump line body) ≡ erase_stages ++ (append_stages z 0 0 (line_of (Dump line body))
    ++ body_stages z (Dump line body))
unfolding line_of front_of
stages_dump z w line body = ap (λ gs. erase_stages ++ (append_stages z 0 0 line ++ gs))
    (append-nil (body_stages z (Dump line body)))

pub erase_count : (z : Zone) → counted z erase_stages ≡ 2 + z.parity
erase_count z = omega arith
