-- Where a call is, as numbers that C sees, and back; what is above the last number is none of these
use Rattle.std.specs.Prelude.{ℕ, if◌then◌else◌, ◌==◌}
use Rattle.zone_spec.specs.declared.CallKind.{CallKind}
use Rattle.zone_spec.specs.declared.CallKind.TheVariants.{Append, Erase, Dump}
use Rattle.store_steps.specs.declared.place.Leg.{Leg}
use Rattle.store_steps.specs.declared.place.Leg.TheVariants.{Erasure, Payload, Line, Body}
use Rattle.store_steps.specs.declared.place.Phase.{Phase}
use Rattle.store_steps.specs.declared.place.Phase.TheVariants.{ZeroStart, ZeroSize, Size, Start, First, FirstParity}
use Rattle.store_steps.specs.declared.place.Phase.TheVariants.{Second, SecondParity, Header, Finished}

abbrev pub call_number : CallKind → ℕ
call_number Append = 0
call_number Erase = 1
call_number Dump = 2

abbrev pub call_in : ℕ → CallKind
call_in n = if n == 0 then Append else (if n == 1 then Erase else Dump)

abbrev pub leg_number : Leg → ℕ
leg_number Erasure = 0
leg_number Payload = 1
leg_number Line = 2
leg_number Body = 3

abbrev pub leg_in : ℕ → Leg
leg_in n = if n == 0 then Erasure else (if n == 1 then Payload else (if n == 2 then Line else Body))

abbrev pub phase_number : Phase → ℕ
phase_number ZeroStart = 0
phase_number ZeroSize = 1
phase_number Size = 2
phase_number Start = 3
phase_number First = 4
phase_number FirstParity = 5
phase_number Second = 6
phase_number SecondParity = 7
phase_number Header = 8
phase_number Finished = 9

abbrev pub phase_in : ℕ → Phase
phase_in n =
    if n == 0 then ZeroStart else (if n == 1 then ZeroSize else (if n == 2 then Size else (if n == 3 then Start
    else (if n == 4 then First else (if n == 5 then FirstParity else (if n == 6 then Second
    else (if n == 7 then SecondParity else (if n == 8 then Header else Finished))))))))
