-- The blocks that a call touches, and the stages that leave the others
use Rattle.std.proofs.Common.{◌≡◌, ℕ, zero, suc, ◌+◌, ◌-◌, ◌*◌, ◌/◌, ◌%◌, ◌<◌, ◌≤◌, min, Bool, true, false, cond, ◌==◌}
use Rattle.std.proofs.Common.{List, [], ◌∷◌, ◌++◌, length, take, drop, map, refl, sym, ap, ◌∙◌, arith, inl, inr, Option}
use Rattle.std.proofs.Common.{Some, None, length-take, length-drop, append-nil, append_assoc, true≢false, eq-eqb}
use Rattle.std.proofs.Common.{unwrap_or, mul_comm, ◌||◌}
use Rattle.std.proofs.lemmas.Bool.{cases_lt, cases_eq, or_parts}
use Rattle.std.proofs.lemmas.Bool.Decides.{nat_tests}
use Rattle.std.proofs.lemmas.List.Folds.{list_any-append}
use Rattle.std.specs.List.{AllByRecursion, range_with_len, list_any}
use Rattle.list_laws.proofs.Elements.{AllByRecursion-append}
use Rattle.zone_spec.specs.declared.Zone.{Zone}
use Rattle.zone_spec.specs.Zones.{IsValidZone}
use Rattle.code_spec.specs.Code.{is_codeword, parity_of, the_word}
use Rattle.zone_spec.specs.Parts.{Header, Block, standing_words}
use Rattle.zone_spec.specs.Told.{Call, Append, Erase, Dump, last_items}
use Rattle.zone_spec.specs.Stages.{Stage, SigWord, StartWord, SizeWord, Run, ParityOf, blocks_met}
use Rattle.zone_spec.specs.Calls.{run_stages, append_stages, erase_stages, call_stages, CanBegin}
use Rattle.zone_spec.specs.Touched.{touched_by}
use Rattle.code_laws.proofs.Nearest.{the_word-passes}
use Rattle.ring_laws.proofs.PartsLaw.{block_some}
use Rattle.ring_laws.proofs.RunLaw.{met_low, met_high, met_order, unmet_high, cap_within}
use Rattle.damage_laws.proofs.UntouchedBlocks.{LeavesBlock, HasParityLength}

pub parity_length : (r : ℕ) → HasParityLength r
unfolding parity_of
parity_length r m = by (the_word r (λ p. is_codeword r (m ++ p))) refl
  where
    by : (o : Option (List ℕ)) → the_word r (λ p. is_codeword r (m ++ p)) ≡ o → length (unwrap_or o []) ≤ r
    by None e = omega arith
    by (Some v) e = let w = the_word-passes (λ p. is_codeword r (m ++ p)) r v e in omega (arith, w.1.0)

-- ---- numbers of a range
pub any_range : (n a b : ℕ) → a ≤ b → b < a + n → list_any (λ c. c == b) (range_with_len a n) ≡ true
any_range zero a b h k = absurd (omega arith)
any_range (suc n) a b h k = elim (cases_eq a b) [
  | inl e ↦ rw (eq-eqb a b e) refl
  | inr ne ↦ (let f : (a == b) ≡ false = grind (arith, nat_tests) in
      rw f (any_range n (a + 1) b (omega arith) (omega arith)))
]

range_any : (n a b : ℕ) → list_any (λ c. c == b) (range_with_len a n) ≡ true → (a ≤ b) × (b < a + n)
range_any zero a b e = absurd (true≢false (sym e))
range_any (suc n) a b e = elim (cases_eq a b) [
  | inl s ↦ (omega arith, omega arith)
  | inr ne ↦ (let f : (a == b) ≡ false = grind (arith, nat_tests) in
      let r = range_any n (a + 1) b (rw f at e) in (omega (arith, r.0), omega (arith, r.1)))
]

-- ---- what stages touch
abbrev pub touches : Zone → List Stage → ℕ → Bool
touches z gs b = list_any (λ c. c == b) (touched_by z gs)

pub touched-append : (z : Zone) (gs hs : List Stage) → touched_by z (gs ++ hs) ≡ touched_by z gs ++ touched_by z hs
unfolding touched_by
touched-append z [] hs = refl
touched-append z (Run place bytes ∷ gs) hs = ap (λ xs. blocks_met z place (length bytes) ++ xs)
    (touched-append z gs hs) ∙ sym (append_assoc (blocks_met z place (length bytes)) (touched_by z gs)
    (touched_by z hs))
touched-append z (SigWord n ∷ gs) hs = touched-append z gs hs
touched-append z (StartWord n ∷ gs) hs = touched-append z gs hs
touched-append z (SizeWord n ∷ gs) hs = touched-append z gs hs
touched-append z (ParityOf p ∷ gs) hs = touched-append z gs hs

pub touches-append : (z : Zone) (gs hs : List Stage) (b : ℕ)
    → touches z (gs ++ hs) b ≡ (touches z gs b || touches z hs b)
touches-append z gs hs b = ap (list_any (λ c. c == b)) (touched-append z gs hs)
    ∙ list_any-append (λ c. c == b) (touched_by z gs) (touched_by z hs)

touched-parities : (z : Zone) (ks : List ℕ) → touched_by z (map (λ k. ParityOf (Block k)) ks) ≡ []
unfolding touched_by
touched-parities z [] = refl
touched-parities z (k ∷ ks) = touched-parities z ks

-- the blocks of a run
pub run_touches : (z : Zone) (place c : ℕ) (cs : List ℕ) (b : ℕ)
    → touches z (run_stages z place (c ∷ cs)) b ≡ list_any (λ c. c == b) (blocks_met z place (length (c ∷ cs)))
unfolding touched_by
run_touches z place c cs b =
    ap (λ xs. list_any (λ c. c == b) (blocks_met z place (length (c ∷ cs)) ++ xs))
    (touched-parities z (blocks_met z place (length (c ∷ cs))))
    ∙ ap (list_any (λ c. c == b)) (append-nil (blocks_met z place (length (c ∷ cs))))

module _ (z : Zone) (valid : IsValidZone z) where
  some : 0 < z.block
  some = block_some z valid

  -- the block of a place of a run is touched
  pub run_hits : (place : ℕ) (bs : List ℕ) (p : ℕ) → place ≤ p → p < place + length bs
      → touches z (run_stages z place bs) (p / z.block) ≡ true
  run_hits place [] p h k = absurd (omega arith)
  run_hits place (c ∷ cs) p h k =
      let q : ℕ = p / z.block in
      let m : z.block * q ≤ p = omega (arith, some) in
      let n : p < z.block * (q + 1) = (let e : z.block * (q + 1) ≡ z.block * q + z.block = grind arith in
      omega (arith, some)) in
      let low : place / z.block ≤ q = met_low z.block place (length (c ∷ cs)) q some (omega arith) in
      let high : q < ((place + length (c ∷ cs) + z.block) - 1) / z.block =
      met_high z.block place (length (c ∷ cs)) q some (omega arith) in
      run_touches z place c cs q ∙ any_range _ (place / z.block) q low
      (omega (arith, met_order z.block place (length (c ∷ cs)) some))

  -- a stage list that leaves each block that it does not touch, and touches none but the zone's
  pub record Leaves (gs : List Stage) : Type 0 where
    pub each : (b : ℕ) → b < z.blocks → touches z gs b ≡ false → AllByRecursion (LeavesBlock z b) gs
    pub within : (b : ℕ) → touches z gs b ≡ true → b < z.blocks

  pub leaves-append : (gs hs : List Stage) → Leaves gs → Leaves hs → Leaves (gs ++ hs)
  leaves-append gs hs h k = record {
    each = λ b l e. (let o = or_parts (touches z gs b) (touches z hs b) (sym (touches-append z gs hs b) ∙ e) in
        AllByRecursion-append (LeavesBlock z b) gs hs (h.each b l o.0) (k.each b l o.1));
    within = λ b e. by b (touches z gs b) refl (sym (touches-append z gs hs b) ∙ e);
  }
    where
      by : (b : ℕ) (t : Bool) → touches z gs b ≡ t → (touches z gs b || touches z hs b) ≡ true → b < z.blocks
      by b true e f = h.within b e
      by b false e f = k.within b (rw e at f)

  parities-leave : (b n a : ℕ) → list_any (λ c. c == b) (range_with_len a n) ≡ false
      → AllByRecursion (LeavesBlock z b) (map (λ k. ParityOf (Block k)) (range_with_len a n))
  parities-leave b zero a e = tt
  parities-leave b (suc n) a e =
      let o = or_parts (a == b) (list_any (λ c. c == b) (range_with_len (a + 1) n)) e in
      ((λ s. true≢false (sym (eq-eqb a b s) ∙ o.0)), parities-leave b n (a + 1) o.1)

  pub run-leaves : (place : ℕ) (bs : List ℕ) → place + length bs ≤ z.cap → Leaves (run_stages z place bs)
  unfolding touched_by
  run-leaves place [] fits = record { each = λ b l e. tt; within = λ b e. absurd (true≢false (sym e)) }
  run-leaves place (c ∷ cs) fits = record {
    each = λ b l e.
        let n : ℕ = length (c ∷ cs) in
        let u : list_any (λ c. c == b) (blocks_met z place n) ≡ false = sym (run_touches z place c cs b) ∙ e in
        let next : z.block * (b + 1) ≡ z.block * b + z.block = grind arith in (
          (
            fits,
            elim (cases_lt place (z.block * (b + 1))) [
              | inl low ↦ elim (cases_lt (z.block * b) (place + n)) [
                | inl high ↦ (let hit : list_any (λ c. c == b) (blocks_met z place n) ≡ true =
                    any_range _ (place / z.block) b (met_low z.block place n b some low)
                    (let m : b < ((place + n + z.block) - 1) / z.block = met_high z.block place n b some high in
                    omega (arith, met_order z.block place n some)) in
                    absurd (true≢false (sym hit ∙ u)))
                | inr g ↦ inr g
              ]
              | inr g ↦ inl g
            ],
          ),
          parities-leave b _ (place / z.block) u,
        );
    within = λ b e.
        let n : ℕ = length (c ∷ cs) in
        let r = range_any _ (place / z.block) b (sym (run_touches z place c cs b) ∙ e) in
        let most : ((place + n + z.block) - 1) / z.block ≤ z.blocks =
        unmet_high z.block place n z.blocks some (omega (arith, cap_within z valid, mul_comm z.blocks z.block)) in
        omega (arith, r.1, r.0);
  }

  nothing-leaves : (b : ℕ) → b < z.blocks → (z.blocks ≡ b → ⊥)
  nothing-leaves b l e = omega (arith, e)

  sizes-leave : (full : Bool) (n : ℕ) → Leaves (cond full [] (SizeWord n ∷ []))
  unfolding touched_by
  sizes-leave true n = record { each = λ b l e. tt; within = λ b e. absurd (true≢false (sym e)) }
  sizes-leave false n = record { each = λ b l e. (tt, tt); within = λ b e. absurd (true≢false (sym e)) }

  start-leaves : (n : ℕ) → Leaves (StartWord n ∷ [])
  unfolding touched_by
  start-leaves n = record { each = λ b l e. (tt, tt); within = λ b e. absurd (true≢false (sym e)) }

  header-leaves : Leaves (ParityOf Header ∷ [])
  unfolding touched_by
  header-leaves = record { each = λ b l e. (nothing-leaves b l, tt); within = λ b e. absurd (true≢false (sym e)) }

  erase-leaves : Leaves erase_stages
  unfolding touched_by
  erase-leaves = record {
    each = λ b l e. (tt, (tt, (nothing-leaves b l, tt)));
    within = λ b e. absurd (true≢false (sym e));
  }

  none-leaves : Leaves []
  unfolding touched_by
  none-leaves = record { each = λ b l e. tt; within = λ b e. absurd (true≢false (sym e)) }

  pub append-leaves : (start size : ℕ) (bs : List ℕ) → start ≤ z.cap → length bs ≤ z.cap
      → Leaves (append_stages z start size bs)
  append-leaves start size [] h k = none-leaves
  append-leaves start size (b ∷ bs) h k =
      let q : List ℕ = b ∷ bs in
      let sizes : List Stage = cond (size == z.cap) [] (SizeWord (min z.cap (size + length q)) ∷ []) in
      let starts : List Stage = StartWord ((start + length q) % z.cap) ∷ [] in
      let first : List Stage = run_stages z start (take (z.cap - start) q) in
      let second : List Stage = run_stages z 0 (drop (z.cap - start) q) in
      leaves-append (sizes ++ starts ++ first ++ second) (ParityOf Header ∷ [])
      (leaves-append (sizes ++ starts ++ first) second
      (leaves-append (sizes ++ starts) first (leaves-append sizes starts
      (sizes-leave (size == z.cap) (min z.cap (size + length q))) (start-leaves ((start + length q) % z.cap)))
      (run-leaves start (take (z.cap - start) q) (omega (arith, length-take (z.cap - start) q))))
      (run-leaves 0 (drop (z.cap - start) q) (omega (arith, length-drop (z.cap - start) q))))
      header-leaves

  -- the stages of a call that may begin
  pub call-leaves : (image : List ℕ) (call : Call) → (standing_words z image).start ≤ z.cap → CanBegin z image call
      → Leaves (call_stages z (standing_words z image) call)
  call-leaves image (Append payload) h can =
      leaves-append (append_stages z (standing_words z image).start (standing_words z image).size
      (last_items z.cap payload)) []
      (append-leaves (standing_words z image).start (standing_words z image).size (last_items z.cap payload) h
      (omega (arith, length-drop (length payload - z.cap) payload))) none-leaves
  call-leaves image Erase h can = erase-leaves
  call-leaves image (Dump line body) h can =
      let n : ℕ = length line in
      let first : List Stage = append_stages z 0 0 line in
      let second : List Stage = append_stages z n n (take (z.cap - n) body) in
      leaves-append erase_stages (first ++ (second ++ [])) erase-leaves
      (leaves-append first (second ++ []) (append-leaves 0 0 line (omega arith) (omega (arith, can.1)))
      (leaves-append second [] (append-leaves n n (take (z.cap - n) body) (omega (arith, can.1))
      (omega (arith, length-take (z.cap - n) body))) none-leaves))
