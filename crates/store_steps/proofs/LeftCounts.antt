-- How many stores are left of a call, counted
use Rattle.std.proofs.Common.{◌≡◌, ℕ, ◌+◌, ◌-◌, ◌*◌, ◌/◌, ◌%◌, ◌<◌, ◌≤◌, List, ◌++◌, length, refl, ap, ◌∙◌, arith}
use Rattle.std.proofs.Common.{length-take}
use Rattle.std.proofs.lemmas.List.FromFn.{length-range_with_len}
use Rattle.std.proofs.lemmas.List.Sums.{sum_by-cons, sum_by-append}
use Rattle.std.specs.List.{range_with_len}
use Rattle.zone_spec.specs.Parts.{Header}
use Rattle.zone_spec.specs.Stages.{Stage, StartWord, SizeWord, ParityOf, stage_count}
use Rattle.zone_spec.specs.Calls.{run_stages}
use Rattle.store_steps.specs.declared.place.Leg.{Leg}
use Rattle.store_steps.specs.declared.place.Leg.TheVariants.{Erasure, Payload, Line, Body}
use Rattle.store_steps.specs.declared.place.Phase.{Phase}
use Rattle.store_steps.specs.declared.place.Phase.TheVariants.{ZeroStart, ZeroSize, Size, Start, First, FirstParity}
use Rattle.store_steps.specs.declared.place.Phase.TheVariants.{Second, SecondParity, Header as HeaderPhase, Finished}
use Rattle.zone_spec.specs.Told.{Call}
use Rattle.store_steps.specs.Calls.{leg_bytes, line_of}
use Rattle.store_steps.specs.Flying.{Flying, payload, later}
use Rattle.store_steps.specs.Phases.{IsWithin, first_run, second_run, first_len, second_len, first_end, second_end}
use Rattle.store_steps.specs.Machine.{behind, closing, parities_between}
use Rattle.store_steps.specs.LeftCounts.{parities, second_count, runs_count, behind_count}
use Rattle.store_steps.proofs.PhaseEntry.{first_some, second_length}
use Rattle.store_steps.proofs.StoresLeft.{counted}
use Rattle.store_steps.proofs.Parts.{front_short}
use Rattle.store_steps.proofs.Totals.{met, parities_count, run_count, last_short}

-- what a part of a call appends fits in the zone
pub leg_short : (cap : ℕ) (call : Call) (leg : Leg) → 36 ≤ cap → length (line_of call) ≤ 36
    → length (leg_bytes cap call leg) ≤ cap
leg_short cap call Erasure room line = omega arith
leg_short cap call Payload room line = last_short cap call
leg_short cap call Line room line = omega (arith, line)
leg_short cap call Body room line = front_short cap call

module _ (f : Flying) (some : 0 < f.zone.block) where
  between : (a e : ℕ) (rest : List Stage)
      → counted f.zone (parities_between a e ++ rest) ≡ parities f a e + counted f.zone rest
  between a e rest =
      sum_by-append (stage_count f.zone) (parities_between a e) rest
      ∙ ap (λ n. n + counted f.zone rest) (parities_count f.zone (range_with_len a (e - a))
      ∙ ap (λ n. n * f.zone.parity) (length-range_with_len a (e - a)))

  closed : counted f.zone (closing f) ≡ f.zone.parity + counted f.zone (later f)
  closed = sum_by-cons (stage_count f.zone) (ParityOf Header) (later f)

  second_met : met f.zone 0 (second_len f) ≡ second_end f - 0
  second_met =
      let zero_first : 0 / f.zone.block ≡ 0 = grind arith in
      let last : ((0 + second_len f + f.zone.block) - 1) / f.zone.block ≡ second_end f =
      ap (λ n. n / f.zone.block) (omega arith) in
      omega (arith, zero_first, last)

  second_counted : counted f.zone (run_stages f.zone 0 (second_run f) ++ closing f)
      ≡ second_count f + (f.zone.parity + counted f.zone (later f))
  second_counted =
      sum_by-append (stage_count f.zone) (run_stages f.zone 0 (second_run f)) (closing f)
      ∙ ap (λ n. n + counted f.zone (closing f)) (run_count f.zone 0 (second_run f) some (λ e. refl)
      ∙ ap (λ n. n + met f.zone 0 n * f.zone.parity) (second_length f)
      ∙ ap (λ m. second_len f + m * f.zone.parity) second_met)
      ∙ ap (λ n. second_count f + n) closed

  runs_counted : f.place.start < f.zone.cap → 0 < length (payload f)
      → counted f.zone (run_stages f.zone f.place.start (first_run f)
      ++ (run_stages f.zone 0 (second_run f) ++ closing f))
      ≡ runs_count f + (f.zone.parity + counted f.zone (later f))
  runs_counted below w =
      let rest : List Stage = run_stages f.zone 0 (second_run f) ++ closing f in
      let split : counted f.zone (run_stages f.zone f.place.start (first_run f) ++ rest)
      ≡ counted f.zone (run_stages f.zone f.place.start (first_run f)) + counted f.zone rest =
      sum_by-append (stage_count f.zone) (run_stages f.zone f.place.start (first_run f)) rest in
      let first : counted f.zone (run_stages f.zone f.place.start (first_run f))
      ≡ first_len f + parities f (f.place.start / f.zone.block) (first_end f) =
      run_count f.zone f.place.start (first_run f) some (λ e. absurd (omega (arith, e, first_some f below w)))
      ∙ ap (λ n. n + met f.zone f.place.start n * f.zone.parity)
      (length-take (f.zone.cap - f.place.start) (payload f)) in
      omega (arith, split, first, second_counted)

  pub behind_counted : (p : Phase) → f.place.start < f.zone.cap → IsWithin f p
      → counted f.zone (behind f p) ≡ behind_count f (counted f.zone (later f)) p
  behind_counted ZeroStart below w =
      sum_by-cons (stage_count f.zone) (SizeWord 0) (closing f) ∙ ap (λ n. 1 + n) closed
  behind_counted ZeroSize below w = closed
  behind_counted Size below w =
      sum_by-cons (stage_count f.zone) (StartWord ((f.place.start + length (payload f)) % f.zone.cap))
      (run_stages f.zone f.place.start (first_run f) ++ (run_stages f.zone 0 (second_run f) ++ closing f))
      ∙ ap (λ n. 1 + n) (runs_counted below w)
  behind_counted Start below w = runs_counted below w
  behind_counted First below w =
      between (f.place.start / f.zone.block) (first_end f) (run_stages f.zone 0 (second_run f) ++ closing f)
      ∙ ap (λ n. parities f (f.place.start / f.zone.block) (first_end f) + n) second_counted
  behind_counted FirstParity below w =
      between (f.place.block + 1) (first_end f) (run_stages f.zone 0 (second_run f) ++ closing f)
      ∙ ap (λ n. parities f (f.place.block + 1) (first_end f) + n) second_counted
  behind_counted Second below w = between 0 (second_end f) (closing f) ∙ ap (λ n. parities f 0 (second_end f) + n) closed
  behind_counted SecondParity below w =
      between (f.place.block + 1) (second_end f) (closing f)
      ∙ ap (λ n. parities f (f.place.block + 1) (second_end f) + n) closed
  behind_counted HeaderPhase below w = refl
  behind_counted Finished below w = refl
