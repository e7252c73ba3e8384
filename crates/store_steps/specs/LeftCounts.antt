-- How many stores are left behind a phase, by the numbers of its part alone
use Rattle.std.specs.Prelude.{ℕ, ◌+◌, ◌-◌, ◌*◌, ◌/◌}
use Rattle.store_steps.specs.declared.place.Phase.{Phase}
use Rattle.store_steps.specs.declared.place.Phase.TheVariants.{ZeroStart, ZeroSize, Size, Start, First, FirstParity}
use Rattle.store_steps.specs.declared.place.Phase.TheVariants.{Second, SecondParity, Header as HeaderPhase, Finished}
use Rattle.store_steps.specs.Flying.{Flying}
use Rattle.store_steps.specs.Phases.{first_len, second_len, first_end, second_end}

-- the parity of the blocks from a up to e
abbrev pub parities : Flying → ℕ → ℕ → ℕ
parities f a e = (e - a) * f.zone.parity

-- the second run with its parity
abbrev pub second_count : Flying → ℕ
second_count f = second_len f + parities f 0 (second_end f)

-- both runs
abbrev pub runs_count : Flying → ℕ
runs_count f = first_len f + parities f (f.place.start / f.zone.block) (first_end f) + second_count f

-- behind a phase, with so many stores behind the part's last one
abbrev pub behind_count : Flying → ℕ → Phase → ℕ
behind_count f later ZeroStart = 1 + (f.zone.parity + later)
behind_count f later ZeroSize = f.zone.parity + later
behind_count f later Size = 1 + (runs_count f + (f.zone.parity + later))
behind_count f later Start = runs_count f + (f.zone.parity + later)
behind_count f later First = parities f (f.place.start / f.zone.block) (first_end f)
    + (second_count f + (f.zone.parity + later))
behind_count f later FirstParity = parities f (f.place.block + 1) (first_end f)
    + (second_count f + (f.zone.parity + later))
behind_count f later Second = parities f 0 (second_end f) + (f.zone.parity + later)
behind_count f later SecondParity = parities f (f.place.block + 1) (second_end f) + (f.zone.parity + later)
behind_count f later HeaderPhase = later
behind_count f later Finished = 0
