-- The phases of a flight: how long each is, and where it may be in each
use Rattle.std.specs.Prelude.{◌≡◌, ℕ, ◌+◌, ◌-◌, ◌/◌, ◌<◌, ◌≤◌, min, List, length, take, drop}
use Rattle.zone_spec.specs.Zones.{IsValidZone}
use Rattle.zone_spec.specs.Told.{Call, Append, Erase, Dump}
use Rattle.zone_spec.specs.declared.Words.{Words}
use Rattle.store_steps.specs.declared.place.Leg.{Leg}
use Rattle.store_steps.specs.declared.place.Leg.TheVariants.{Erasure, Payload, Line, Body}
use Rattle.store_steps.specs.declared.place.Phase.{Phase}
use Rattle.store_steps.specs.declared.place.Phase.TheVariants.{ZeroStart, ZeroSize, Size, Start, First, FirstParity}
use Rattle.store_steps.specs.declared.place.Phase.TheVariants.{Second, SecondParity, Header as HeaderPhase, Finished}
use Rattle.store_steps.specs.Calls.{line_of}
use Rattle.store_steps.specs.Flying.{Flying, payload}

-- the two runs of the part's bytes
abbrev pub first_run : Flying → List ℕ
first_run f = take (f.zone.cap - f.place.start) (payload f)

abbrev pub second_run : Flying → List ℕ
second_run f = drop (f.zone.cap - f.place.start) (payload f)

abbrev pub first_len : Flying → ℕ
first_len f = min (f.zone.cap - f.place.start) (length (payload f))

abbrev pub second_len : Flying → ℕ
second_len f = length (payload f) - first_len f

-- the first block behind each run
abbrev pub first_end : Flying → ℕ
first_end f = (f.place.start + first_len f + f.zone.block - 1) / f.zone.block

abbrev pub second_end : Flying → ℕ
second_end f = (second_len f + f.zone.block - 1) / f.zone.block

-- how many stores a phase has
abbrev pub phase_len : Flying → Phase → ℕ
phase_len f ZeroStart = 1
phase_len f ZeroSize = 1
phase_len f Size = 1
phase_len f Start = 1
phase_len f First = first_len f
phase_len f FirstParity = f.zone.parity
phase_len f Second = second_len f
phase_len f SecondParity = f.zone.parity
phase_len f HeaderPhase = f.zone.parity
phase_len f Finished = 0

-- every store of the phase is made
abbrev pub IsDone : Flying → Type 0
IsDone f = f.place.number ≡ phase_len f f.place.phase

abbrev pub IsFinished : Flying → Type 0
IsFinished f = f.place.phase ≡ Finished

-- where the part and the block may be
abbrev pub IsWithin : Flying → Phase → Type 0
IsWithin f ZeroStart = f.place.leg ≡ Erasure
IsWithin f ZeroSize = f.place.leg ≡ Erasure
IsWithin f Size = 0 < length (payload f)
IsWithin f Start = 0 < length (payload f)
IsWithin f First = 0 < length (payload f)
IsWithin f FirstParity = (f.place.start / f.zone.block ≤ f.place.block) × (f.place.block < first_end f)
IsWithin f Second = 0 < second_len f
IsWithin f SecondParity = f.place.block < second_end f
IsWithin f HeaderPhase = Unit {0}
IsWithin f Finished = Unit {0}

-- a part that the call has, from the ring on at which it begins
abbrev pub PlacedBy : Call → Words → Leg → ℕ → ℕ → Type 0
PlacedBy (Append payload) w Payload start size = (start ≡ w.start) × (size ≡ w.size)
PlacedBy Erase w Erasure start size = (start ≡ 0) × (size ≡ 0)
PlacedBy (Dump line body) w Erasure start size = (start ≡ 0) × (size ≡ 0)
PlacedBy (Dump line body) w Line start size = (start ≡ 0) × (size ≡ 0)
PlacedBy (Dump line body) w Body start size = (start ≡ length line) × (size ≡ length line)
PlacedBy call w leg start size = ⊥

abbrev pub IsPlaced : Flying → Type 0
IsPlaced f = PlacedBy f.call f.words f.place.leg f.place.start f.place.size

-- a flight within its zone
pub record IsSound (f : Flying) : Type 0 where
  pub valid : IsValidZone f.zone
  pub below : f.place.start < f.zone.cap
  pub fits : f.place.size ≤ f.zone.cap
  pub short : length (payload f) ≤ f.zone.cap
  pub line : length (line_of f.call) ≤ 36
  pub number : f.place.number ≤ phase_len f f.place.phase
  pub within : IsWithin f f.place.phase
