-- Where a boot is, as numbers that C sees, and back; what is above the last number is none of these
use Rattle.std.specs.Prelude.{ℕ, if◌then◌else◌, ◌==◌}
use Rattle.zone_boot.specs.declared.boots.Phase.{Phase}
use Rattle.zone_boot.specs.declared.boots.Phase.TheVariants.{Header, Blocks, Signature, Start, Size, Parity, Finished}
use Rattle.zone_boot.specs.declared.deciding.Erasure.{Erasure}
use Rattle.zone_boot.specs.declared.deciding.Erasure.TheVariants.{Kept, Erased, Signed}

abbrev pub phase_number : Phase → ℕ
phase_number Header = 0
phase_number Blocks = 1
phase_number Signature = 2
phase_number Start = 3
phase_number Size = 4
phase_number Parity = 5
phase_number Finished = 6

abbrev pub phase_in : ℕ → Phase
phase_in n =
    if n == 0 then Header else (if n == 1 then Blocks else (if n == 2 then Signature else (if n == 3 then Start
    else (if n == 4 then Size else (if n == 5 then Parity else Finished)))))

abbrev pub erasure_number : Erasure → ℕ
erasure_number Kept = 0
erasure_number Erased = 1
erasure_number Signed = 2

abbrev pub erasure_in : ℕ → Erasure
erasure_in n = if n == 0 then Kept else (if n == 1 then Erased else Signed)
