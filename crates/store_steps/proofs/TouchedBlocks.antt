-- The blocks that the stages of a call touch
use Rattle.std.proofs.Common.{◌≡◌, ℕ, zero, suc, ◌+◌, ◌-◌, ◌*◌, ◌/◌, ◌<◌, ◌≤◌, ◌⊎◌, min, true, false, List, [], ◌∷◌}
use Rattle.std.proofs.Common.{◌++◌, length, take, drop, map, refl, sym, ap, ap₂, ◌∙◌, arith, append-nil, inl, inr}
use Rattle.std.proofs.Common.{length-take, length-drop, div-mul-le_self, filter, take_all, ◌==◌, ◌||◌}
use Rattle.std.proofs.Math.Nat.{div-lt_iff_lt-mul, le-div_iff_mul-le}
use Rattle.std.proofs.lemmas.Bool.{cases_lt}
use Rattle.std.proofs.lemmas.Bool.Decides.{eqb_tells}
use Rattle.std.proofs.lemmas.List.{nil_from_length, drop_all}
use Rattle.std.proofs.lemmas.List.Folds.{list_any-append}
use Rattle.std.specs.List.{range_with_len}
use Rattle.std.proofs.Math.Bool.{or-true}
use Rattle.zone_spec.specs.declared.Zone.{Zone}
use Rattle.zone_spec.specs.declared.Words.{Words}
use Rattle.zone_spec.specs.Zones.{IsValidZone}
use Rattle.zone_spec.specs.Parts.{Header, Block}
use Rattle.zone_spec.specs.Told.{Append, Erase, Dump}
use Rattle.zone_spec.specs.Stages.{Stage, ParityOf, blocks_met}
use Rattle.zone_spec.specs.Calls.{append_stages, run_stages, call_stages}
use Rattle.zone_spec.specs.Touched.{touched_by, runs_of}
use Rattle.store_steps.specs.Calls.{last_of, line_of, front_of, body_stages}
use Rattle.store_steps.specs.Counts.{runs_between}
use Rattle.store_steps.proofs.Parts.{append_begins_ne, append_begins_full, sized}
use Rattle.ring_laws.proofs.RunLaw.{cap_within}
use Rattle.store_steps.proofs.PhaseStores.{block_some}
use Rattle.store_steps.proofs.Totals.{last_short, stages_append, stages_dump}
use Rattle.store_steps.proofs.Runs.{has, has_range, lacks_range, IsTouched, touched_runs_are}

-- the blocks that bytes from a place on meet
abbrev pub met_by : Zone → ℕ → List ℕ → List ℕ
met_by z place [] = []
met_by z place (b ∷ bs) = blocks_met z place (length (b ∷ bs))

touched_parities : (z : Zone) (bs : List ℕ) (more : List Stage)
    → touched_by z (map (λ k. ParityOf (Block k)) bs ++ more) ≡ touched_by z more
unfolding touched_by
touched_parities z [] more = refl
touched_parities z (b ∷ bs) more = touched_parities z bs more

touched_run : (z : Zone) (place : ℕ) (xs : List ℕ) (more : List Stage)
    → touched_by z (run_stages z place xs ++ more) ≡ met_by z place xs ++ touched_by z more
unfolding touched_by
touched_run z place [] more = refl
touched_run z place (b ∷ bs) more = ap (λ ts. blocks_met z place (length (b ∷ bs)) ++ ts)
    (touched_parities z (blocks_met z place (length (b ∷ bs))) more)

-- the blocks of both runs of an append
abbrev pub met_twice : Zone → ℕ → List ℕ → List ℕ → List ℕ
met_twice z start bytes others = met_by z start (take (z.cap - start) bytes)
    ++ (met_by z 0 (drop (z.cap - start) bytes) ++ others)

touched_sized : (z : Zone) (start : ℕ) (bytes : List ℕ) (more : List Stage)
    → touched_by z (sized z start bytes more) ≡ met_twice z start bytes (touched_by z more)
unfolding touched_by
touched_sized z start bytes more =
    touched_run z start (take (z.cap - start) bytes) (run_stages z 0 (drop (z.cap - start) bytes) ++ ParityOf Header
    ∷ more)
    ∙ ap (λ ts. met_by z start (take (z.cap - start) bytes) ++ ts)
    (touched_run z 0 (drop (z.cap - start) bytes) (ParityOf Header ∷ more))

met_nothing : (z : Zone) (start n : ℕ) (others : List ℕ)
    → met_by z start (take n []) ++ (met_by z 0 (drop n []) ++ others) ≡ others
met_nothing z start n others = ap₂ (λ u v. met_by z start u ++ (met_by z 0 v ++ others)) (take_all n [] (omega arith))
    (drop_all n [] (omega arith))

touched_append : (z : Zone) (start size : ℕ) (bytes : List ℕ) (more : List Stage)
    → touched_by z (append_stages z start size bytes ++ more) ≡ met_twice z start bytes (touched_by z more)
unfolding touched_by
touched_append z start size bytes more = elim (eqb_tells (length bytes) 0) [
  | inl none ↦
      (let e : bytes ≡ [] = nil_from_length bytes none.1 in
      let t : met_twice z start [] (touched_by z more) ≡ touched_by z more =
      met_nothing z start (z.cap - start) (touched_by z more) in
      ap (λ xs. touched_by z (append_stages z start size xs ++ more)) e ∙ sym t
      ∙ ap (λ xs. met_twice z start xs (touched_by z more)) (sym e))
  | inr some ↦ elim (eqb_tells size z.cap) [
    | inl full ↦ ap (touched_by z) (append_begins_full z start size bytes more full.0 (omega (arith, some.1)))
        ∙ touched_sized z start bytes more
    | inr less ↦ ap (touched_by z) (append_begins_ne z start size bytes more less.0 (omega (arith, some.1)))
        ∙ touched_sized z start bytes more
  ]
]

div_mono : (k x y : ℕ) → 0 < k → x ≤ y → x / k ≤ y / k
div_mono k x y some h = (le-div_iff_mul-le some).1 (omega (arith, div-mul-le_self x k))

-- the first block behind n bytes from a place on
abbrev pub behind_run : Zone → ℕ → ℕ → ℕ
behind_run z place n = ((place + n + z.block) - 1) / z.block

met_has : (z : Zone) (place : ℕ) (xs : List ℕ) (b : ℕ) → 0 < length xs → place / z.block ≤ b
    → b < behind_run z place (length xs) → has (met_by z place xs) b ≡ true
met_has z place [] b some h k = absurd (omega arith)
met_has z place (x ∷ xs) b some h k = has_range (place / z.block)
    (behind_run z place (length (x ∷ xs)) - place / z.block) b h (omega arith)

met_lacks : (z : Zone) (place : ℕ) (xs : List ℕ) (b : ℕ) → 0 < z.block
    → (b < place / z.block) ⊎ (behind_run z place (length xs) ≤ b) → has (met_by z place xs) b ≡ false
met_lacks z place [] b some h = refl
met_lacks z place (x ∷ xs) b some h =
    let order : place / z.block ≤ behind_run z place (length (x ∷ xs)) =
    div_mono z.block place ((place + length (x ∷ xs) + z.block) - 1) some (omega arith) in
    lacks_range (place / z.block) (behind_run z place (length (x ∷ xs)) - place / z.block) b
    (elim h [ inl l ↦ inl l | inr g ↦ inr (omega (arith, order)) ])

has_first : (xs ys : List ℕ) (b : ℕ) → has xs b ≡ true → has (xs ++ ys) b ≡ true
has_first xs ys b h = list_any-append (λ c. c == b) xs ys ∙ ap (λ t. t || has ys b) h

has_later : (xs ys : List ℕ) (b : ℕ) → has ys b ≡ true → has (xs ++ ys) b ≡ true
has_later xs ys b h = list_any-append (λ c. c == b) xs ys ∙ ap (λ t. has xs b || t) h ∙ or-true (has xs b)

lacks_both : (xs ys : List ℕ) (b : ℕ) → has xs b ≡ false → has ys b ≡ false → has (xs ++ ys) b ≡ false
lacks_both xs ys b h k = list_any-append (λ c. c == b) xs ys ∙ ap₂ (λ t u. t || u) h k

-- no block begins behind no bytes
behind_none : (z : Zone) → 0 < z.block → behind_run z 0 0 ≡ 0
behind_none z some = let l : behind_run z 0 0 < 1 = (div-lt_iff_lt-mul some).1 (omega arith) in omega arith

-- the blocks behind which the data ends are the zone's
behind_most : (z : Zone) (place n : ℕ) → IsValidZone z → place + n ≤ z.cap → behind_run z place n ≤ z.blocks
behind_most z place n valid fits =
    let some : 0 < z.block = (block_some z.block valid.block).0 in
    let m : (z.blocks + 1) * z.block ≡ z.blocks * z.block + z.block = grind arith in
    let l : behind_run z place n < z.blocks + 1 = (div-lt_iff_lt-mul some).1 (omega (arith, cap_within z valid)) in
    omega arith

pub dump_fits : (cap : ℕ) (line body : List ℕ) → length line ≤ cap
    → length line + length (front_of cap (Dump line body)) ≤ cap
unfolding front_of
dump_fits cap line body h = omega (arith, length-take (cap - length line) body)

module _ (z : Zone) (w : Words) (valid : IsValidZone z) where
  some_block : 0 < z.block
  some_block = (block_some z.block valid.block).0

  append_touched : (start : ℕ) (bytes : List ℕ) → start < z.cap → 0 < length bytes → length bytes ≤ z.cap
      → IsTouched (met_twice z start bytes []) (start / z.block)
      (behind_run z start (length (take (z.cap - start) bytes)))
      (behind_run z 0 (length (drop (z.cap - start) bytes)))
  append_touched start bytes below some short =
      let xs : List ℕ = take (z.cap - start) bytes in
      let ys : List ℕ = drop (z.cap - start) bytes in
      let xs_some : 0 < length xs = omega (arith, length-take (z.cap - start) bytes) in
      let zero_first : 0 / z.block ≡ 0 = grind arith in
      record {
        inside = λ b l g. has_first (met_by z start xs) (met_by z 0 ys ++ []) b (met_has z start xs b xs_some l g);
        below = λ b g. has_later (met_by z start xs) (met_by z 0 ys ++ []) b (has_first (met_by z 0 ys) [] b
            (met_has z 0 ys b (elim (cases_lt 0 (length ys)) [
              | inl s ↦ s
              | inr none ↦ absurd (let e : length ys ≡ 0 = omega arith in
                  let f : behind_run z 0 (length ys) ≡ 0 = ap (behind_run z 0) e ∙ behind_none z some_block in
                  omega (arith, f))
            ]) (omega (arith, zero_first)) g));
        outside = λ b side l. lacks_both (met_by z start xs) (met_by z 0 ys ++ []) b
            (met_lacks z start xs b some_block side)
            (lacks_both (met_by z 0 ys) [] b (met_lacks z 0 ys b some_block (inr l)) refl);
      }

  pub runs_append : (bytes : List ℕ) (first : ℕ) → w.start < z.cap → 0 < length (last_of z.cap (Append bytes))
      → first ≡ min (length (last_of z.cap (Append bytes))) (z.cap - w.start)
      → runs_of (filter (has (touched_by z (call_stages z w (Append bytes)))) (range_with_len 0 z.blocks))
      ≡ runs_between (w.start / z.block) (behind_run z w.start first)
      ((((length (last_of z.cap (Append bytes)) - first) + z.block) - 1) / z.block)
  unfolding touched_by
  runs_append bytes first below some is =
      let xs : List ℕ = last_of z.cap (Append bytes) in
      let short : length xs ≤ z.cap = last_short z.cap (Append bytes) in
      let l1 : length (take (z.cap - w.start) xs) ≡ first = omega (arith, length-take (z.cap - w.start) xs, is) in
      let l2 : 0 + length (drop (z.cap - w.start) xs) ≡ length xs - first =
      omega (arith, length-drop (z.cap - w.start) xs, is) in
      let touched : touched_by z (call_stages z w (Append bytes)) ≡ met_twice z w.start xs [] =
      ap (touched_by z) (stages_append z w bytes ∙ sym (append-nil (append_stages z w.start w.size xs)))
      ∙ touched_append z w.start w.size xs [] in
      ap (λ ts. runs_of (filter (has ts) (range_with_len 0 z.blocks))) touched
      ∙ touched_runs_are (met_twice z w.start xs []) (w.start / z.block)
      (behind_run z w.start (length (take (z.cap - w.start) xs)))
      (behind_run z 0 (length (drop (z.cap - w.start) xs))) z.blocks
      (div_mono z.block w.start ((w.start + length (take (z.cap - w.start) xs) + z.block) - 1) some_block
      (omega (arith, length-take (z.cap - w.start) xs)))
      (behind_most z w.start (length (take (z.cap - w.start) xs)) valid
      (omega (arith, length-take (z.cap - w.start) xs)))
      (behind_most z 0 (length (drop (z.cap - w.start) xs)) valid (omega (arith, length-drop (z.cap - w.start) xs)))
      (append_touched w.start xs below some short)
      ∙ ap (λ n. runs_between (w.start / z.block) (behind_run z w.start n)
      (behind_run z 0 (length (drop (z.cap - w.start) xs)))) l1
      ∙ ap (λ n. runs_between (w.start / z.block) (behind_run z w.start first) ((n + z.block - 1) / z.block)) l2

  -- an append that does not wrap touches the blocks of its one run
  plain : (start : ℕ) (bytes others : List ℕ) → length bytes ≤ z.cap - start
      → met_twice z start bytes others ≡ met_by z start bytes ++ others
  plain start bytes others fits =
      ap₂ (λ u v. met_by z start u ++ (met_by z 0 v ++ others)) (take_all (z.cap - start) bytes fits)
      (drop_all (z.cap - start) bytes fits)

  dump_touched : (line front : List ℕ) → length line + length front ≤ z.cap
      → IsTouched (met_by z 0 line ++ (met_by z (length line) front ++ [])) 0
      (((length line + length front) + z.block - 1) / z.block) 0
  dump_touched line front fits =
      let h : ℕ = length line in
      let n : ℕ = length front in
      let zero_first : 0 / z.block ≡ 0 = grind arith in
      let line_end : behind_run z 0 h ≤ behind_run z h n =
      div_mono z.block ((0 + h + z.block) - 1) ((h + n + z.block) - 1) some_block (omega arith) in
      record {
        inside = λ b l g. elim (cases_lt b (behind_run z 0 h)) [
          | inl k ↦ has_first (met_by z 0 line) (met_by z h front ++ []) b
              (met_has z 0 line b (elim (cases_lt 0 h) [
                | inl s ↦ s
                | inr none ↦
                    absurd (let e : h ≡ 0 = omega arith in let f : behind_run z 0 h ≡ 0 = ap (behind_run z 0) e
                    ∙ behind_none z some_block in omega (arith, f))
              ]) (omega (arith, zero_first)) k)
          | inr k ↦ has_later (met_by z 0 line) (met_by z h front ++ []) b (has_first (met_by z h front) [] b
              (met_has z h front b
              (elim (cases_lt 0 n) [
                | inl s ↦ s
                | inr none ↦ absurd
                    (let e : h + n ≡ 0 + h = omega arith in let f : behind_run z h n
                    ≡ behind_run z 0 h = ap (λ x. ((x + z.block) - 1) / z.block) e in omega (arith, f))
              ])
              (let m : h / z.block ≤ behind_run z 0 h = div_mono z.block h ((0 + h + z.block) - 1) some_block
              (omega arith) in omega arith) g))
        ];
        below = λ b g. absurd (omega arith);
        outside = λ b side l. elim side [
          | inl g ↦ absurd (omega arith)
          | inr g ↦ lacks_both (met_by z 0 line) (met_by z h front ++ []) b
              (met_lacks z 0 line b some_block (inr (omega (arith, line_end))))
              (lacks_both (met_by z h front) [] b (met_lacks z h front b some_block (inr g)) refl)
        ];
      }

  pub runs_dump : (line body : List ℕ) → length line ≤ 36
      → runs_of (filter (has (touched_by z (call_stages z w (Dump line body)))) (range_with_len 0 z.blocks))
      ≡ runs_between 0 (((length line + length (front_of z.cap (Dump line body))) + z.block - 1) / z.block) 0
  unfolding touched_by line_of
  runs_dump line body short =
      let front : List ℕ = front_of z.cap (Dump line body) in
      let fits : length line + length front ≤ z.cap = dump_fits z.cap line body (omega (arith, short, valid.room)) in
      let touched : touched_by z (call_stages z w (Dump line body))
      ≡ met_by z 0 line ++ (met_by z (length line) front ++ []) =
      ap (touched_by z) (stages_dump z w line body)
      ∙ touched_append z 0 0 line (body_stages z (Dump line body))
      ∙ plain 0 line (touched_by z (body_stages z (Dump line body))) (omega arith)
      ∙ ap (λ ts. met_by z 0 line ++ ts)
      (ap (touched_by z) (sym (append-nil (body_stages z (Dump line body))))
      ∙ touched_append z (length line) (length line) front [] ∙ plain (length line) front [] (omega arith)) in
      ap (λ ts. runs_of (filter (has ts) (range_with_len 0 z.blocks))) touched
      ∙ touched_runs_are (met_by z 0 line ++ (met_by z (length line) front ++ [])) 0
      (behind_run z (length line) (length front)) 0 z.blocks
      (omega arith) (behind_most z (length line) (length front) valid fits) (omega arith) (dump_touched line front fits)

lacks_all : (a n : ℕ) → filter (has []) (range_with_len a n) ≡ []
lacks_all a zero = refl
lacks_all a (suc n) = lacks_all (a + 1) n

pub runs_none : (z : Zone) (w : Words) (bytes : List ℕ) → length (last_of z.cap (Append bytes)) ≡ 0
    → runs_of (filter (has (touched_by z (call_stages z w (Append bytes)))) (range_with_len 0 z.blocks)) ≡ []
unfolding touched_by runs_of
runs_none z w bytes none =
    ap (λ gs. runs_of (filter (has (touched_by z gs)) (range_with_len 0 z.blocks)))
    (stages_append z w bytes ∙ ap (append_stages z w.start w.size)
    (nil_from_length (last_of z.cap (Append bytes)) none))
    ∙ ap runs_of (lacks_all 0 z.blocks)

pub runs_erase : (z : Zone) (w : Words) → runs_of (filter (has (touched_by z (call_stages z w Erase)))
    (range_with_len 0 z.blocks)) ≡ []
unfolding touched_by runs_of
runs_erase z w = ap runs_of (lacks_all 0 z.blocks)
