-- The stores that are left stay the same where a phase is entered
use Rattle.std.proofs.Common.{◌≡◌, ℕ, ◌+◌, ◌-◌, ◌/◌, ◌%◌, ◌<◌, ◌≤◌, List, [], ◌∷◌, ◌++◌, length, map, refl, sym, ap}
use Rattle.std.proofs.Common.{◌∙◌, arith, length-take, length-drop, div-mul-le_self, add-mul}
use Rattle.std.proofs.Math.Nat.{le-div_iff_mul-le}
use Rattle.std.specs.List.{range_with_len, sum_by}
use Rattle.list_laws.proofs.Ranges.{range_with_len-first}
use Rattle.zone_spec.specs.declared.Zone.{Zone}
use Rattle.zone_spec.specs.Parts.{Header, Block}
use Rattle.zone_spec.specs.Stages.{Stage, StartWord, SizeWord, Run, ParityOf, stage_stores, stage_count, stores_in_turn}
use Rattle.zone_spec.specs.Stages.{blocks_met}
use Rattle.zone_spec.specs.Calls.{run_stages}
use Rattle.store_steps.specs.declared.place.Phase.{Phase}
use Rattle.store_steps.specs.declared.place.Phase.TheVariants.{ZeroStart, ZeroSize, Size, Start, First, FirstParity}
use Rattle.store_steps.specs.declared.place.Phase.TheVariants.{Second, SecondParity, Header as HeaderPhase, Finished}
use Rattle.store_steps.specs.Flying.{Flying, payload, later}
use Rattle.store_steps.specs.Phases.{IsDone, phase_len, first_run, second_run, second_len, first_end, second_end}
use Rattle.store_steps.specs.Machine.{stores_of, behind, closing, Enters, parities_between}
use Rattle.store_steps.proofs.StoresLeft.{AlwaysStored, left_begun, left_done, count_begun, count_done, enters_by}

-- the flight in another phase, at its begin
abbrev pub entered : Flying → Phase → ℕ → Flying
entered f q b = record f { place = record f.place { phase = q; block = b; number = 0 } }

-- within a part of the call
next_phase : (f : Flying) (p q : Phase) (b : ℕ) (st : Stage) → f.place.phase ≡ p
    → AlwaysStored f → IsDone f
    → ((image : List ℕ) → stores_of (entered f q b) image q ≡ stage_stores f.zone st image)
    → stage_count f.zone st ≡ phase_len (entered f q b) q
    → behind f p ≡ st ∷ behind (entered f q b) q
    → Enters f (entered f q b)
next_phase f p q b st e all done stores count next =
    enters_by f (entered f q b) p q st e all done refl refl refl refl refl refl stores count next

parities_step : (a e : ℕ) → a < e → parities_between a e ≡ ParityOf (Block a) ∷ parities_between (a + 1) e
parities_step a e h = ap (map (λ k. ParityOf (Block k))) (range_with_len-first a e h)

parities_end : (a e : ℕ) → e ≤ a → parities_between a e ≡ []
parities_end a e h = let n : e - a ≡ 0 = omega arith in ap (λ m. map (λ k. ParityOf (Block k)) (range_with_len a m)) n

run_some : (z : Zone) (place : ℕ) (xs : List ℕ) → 0 < length xs
    → run_stages z place xs ≡ Run place xs ∷ map (λ k. ParityOf (Block k)) (blocks_met z place (length xs))
run_some z place [] h = absurd (omega arith)
run_some z place (x ∷ xs) h = refl

module _ (f : Flying) (all : AlwaysStored f) (done : IsDone f) where
  pub enter_start : f.place.phase ≡ Size → Enters f (entered f Start f.place.block)
  unfolding stage_stores
  enter_start e = next_phase f Size Start f.place.block
      (StartWord ((f.place.start + length (payload f)) % f.zone.cap)) e all done (λ image. refl) refl refl

  pub enter_first : f.place.phase ≡ Start → 0 < length (first_run f) → Enters f (entered f First f.place.block)
  unfolding stage_stores
  enter_first e some =
      next_phase f Start First f.place.block (Run f.place.start (first_run f)) e all done (λ image. refl)
      (length-take (f.zone.cap - f.place.start) (payload f))
      (ap (λ gs. gs ++ (run_stages f.zone 0 (second_run f) ++ closing f))
      (run_some f.zone f.place.start (first_run f) some)
      ∙ ap (λ n. Run f.place.start (first_run f) ∷ (map (λ k. ParityOf (Block k)) (blocks_met f.zone f.place.start n)
      ++ (run_stages f.zone 0 (second_run f) ++ closing f))) (length-take (f.zone.cap - f.place.start) (payload f)))

  -- a block's parity, the first of a run or a later one
  module _ (b : ℕ) where
    pub enter_first_parity : f.place.phase ≡ First → b ≡ f.place.start / f.zone.block → b < first_end f
        → Enters f (entered f FirstParity b)
    enter_first_parity e is h =
        next_phase f First FirstParity b (ParityOf (Block b)) e all done (λ image. refl) refl
        (ap (λ a. parities_between a (first_end f) ++ (run_stages f.zone 0 (second_run f) ++ closing f)) (sym is)
        ∙ ap (λ gs. gs ++ (run_stages f.zone 0 (second_run f) ++ closing f)) (parities_step b (first_end f) h))

    pub enter_next_parity : f.place.phase ≡ FirstParity → b ≡ f.place.block + 1 → b < first_end f
        → Enters f (entered f FirstParity b)
    enter_next_parity e is h =
        next_phase f FirstParity FirstParity b (ParityOf (Block b)) e all done (λ image. refl) refl
        (ap (λ a. parities_between a (first_end f) ++ (run_stages f.zone 0 (second_run f) ++ closing f)) (sym is)
        ∙ ap (λ gs. gs ++ (run_stages f.zone 0 (second_run f) ++ closing f)) (parities_step b (first_end f) h))

    pub enter_second_parity : f.place.phase ≡ Second → b ≡ 0 → b < second_end f
        → Enters f (entered f SecondParity b)
    enter_second_parity e is h =
        next_phase f Second SecondParity b (ParityOf (Block b)) e all done (λ image. refl) refl
        (ap (λ a. parities_between a (second_end f) ++ closing f) (sym is)
        ∙ ap (λ gs. gs ++ closing f) (parities_step b (second_end f) h))

    pub enter_later_parity : f.place.phase ≡ SecondParity → b ≡ f.place.block + 1 → b < second_end f
        → Enters f (entered f SecondParity b)
    enter_later_parity e is h =
        next_phase f SecondParity SecondParity b (ParityOf (Block b)) e all done (λ image. refl) refl
        (ap (λ a. parities_between a (second_end f) ++ closing f) (sym is)
        ∙ ap (λ gs. gs ++ closing f) (parities_step b (second_end f) h))

  pub enter_second : f.place.phase ≡ FirstParity → first_end f ≤ f.place.block + 1 → 0 < length (second_run f)
      → length (second_run f) ≡ second_len f → 0 < f.zone.block → Enters f (entered f Second f.place.block)
  unfolding stage_stores
  enter_second e h some len k =
      let zero_first : 0 / f.zone.block ≡ 0 = grind arith in
      let last : ((0 + length (second_run f) + f.zone.block) - 1) / f.zone.block ≡ second_end f =
      ap (λ n. n / f.zone.block) (omega arith) in
      next_phase f FirstParity Second f.place.block (Run 0 (second_run f)) e all done (λ image. refl) len
      (ap (λ gs. gs ++ (run_stages f.zone 0 (second_run f) ++ closing f))
      (parities_end (f.place.block + 1) (first_end f) h)
      ∙ ap (λ gs. gs ++ closing f) (run_some f.zone 0 (second_run f) some)
      ∙ ap (λ m. Run 0 (second_run f) ∷ (map (λ j. ParityOf (Block j))
      (range_with_len m (((0 + length (second_run f) + f.zone.block) - 1) / f.zone.block - m)) ++ closing f))
      zero_first
      ∙ ap (λ m. Run 0 (second_run f) ∷ (map (λ j. ParityOf (Block j)) (range_with_len 0 (m - 0)) ++ closing f)) last)

  pub enter_header_first : f.place.phase ≡ FirstParity → first_end f ≤ f.place.block + 1 → second_run f ≡ []
      → Enters f (entered f HeaderPhase f.place.block)
  enter_header_first e h none =
      next_phase f FirstParity HeaderPhase f.place.block (ParityOf Header) e all done (λ image. refl) refl
      (ap (λ gs. gs ++ (run_stages f.zone 0 (second_run f) ++ closing f))
      (parities_end (f.place.block + 1) (first_end f) h)
      ∙ ap (λ xs. run_stages f.zone 0 xs ++ closing f) none)

  pub enter_header_second : f.place.phase ≡ SecondParity → second_end f ≤ f.place.block + 1
      → Enters f (entered f HeaderPhase f.place.block)
  enter_header_second e h =
      next_phase f SecondParity HeaderPhase f.place.block (ParityOf Header) e all done (λ image. refl) refl
      (ap (λ gs. gs ++ closing f) (parities_end (f.place.block + 1) (second_end f) h))

  pub enter_header_erased : f.place.phase ≡ ZeroSize → Enters f (entered f HeaderPhase f.place.block)
  enter_header_erased e = next_phase f ZeroSize HeaderPhase f.place.block (ParityOf Header)
      e all done (λ image. refl) refl refl

  pub enter_zero_size : f.place.phase ≡ ZeroStart → Enters f (entered f ZeroSize f.place.block)
  unfolding stage_stores
  enter_zero_size e = next_phase f ZeroStart ZeroSize f.place.block (SizeWord 0)
      e all done (λ image. refl) refl refl

  pub enter_finished : f.place.phase ≡ HeaderPhase → later f ≡ [] → Enters f (entered f Finished f.place.block)
  unfolding stores_in_turn
  enter_finished e none = record {
    left = λ image bytes. left_begun (entered f Finished f.place.block) Finished image refl refl
        ∙ sym (left_done f HeaderPhase image e (all image bytes) ∙ ap (λ gs. stores_in_turn f.zone gs image) none);
    count = count_begun (entered f Finished f.place.block) Finished refl refl
        ∙ sym (count_done f HeaderPhase e done ∙ ap (sum_by (stage_count f.zone)) none);
    number = refl;
    fewer = rw e (omega arith);
    same = record { zone = refl; words = refl; call = refl };
    made = refl;
  }

pub first_some : (f : Flying) → f.place.start < f.zone.cap → 0 < length (payload f) → 0 < length (first_run f)
first_some f h k = omega (arith, length-take (f.zone.cap - f.place.start) (payload f))

pub second_length : (f : Flying) → length (second_run f) ≡ second_len f
second_length f = omega (arith, length-drop (f.zone.cap - f.place.start) (payload f))

pub end_above : (k place n : ℕ) → 0 < k → 0 < n → place / k < ((place + n + k) - 1) / k
end_above k place n some h =
    let l : place / k + 1 ≤ ((place + n + k) - 1) / k = (le-div_iff_mul-le some).1
    (omega (arith, div-mul-le_self place k, add-mul (place / k) 1 k)) in omega arith

pub end_some : (k n : ℕ) → 0 < k → 0 < n → 0 < ((n + k) - 1) / k
end_some k n some h =
    let l : 1 ≤ ((n + k) - 1) / k = (le-div_iff_mul-le some).1 (omega arith) in omega arith
