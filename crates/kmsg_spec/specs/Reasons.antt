-- The reasons of dumps: their numbers, and their words
use Rattle.std.specs.Prelude.{ℕ, List, if◌then◌else◌, ◌==◌, codes}
use Rattle.kmsg_spec.specs.declared.Reason.{Reason}
use Rattle.kmsg_spec.specs.declared.Reason.TheVariants.{Panic, Oops, Emergency, Shutdown}

abbrev pub reason_number : Reason → ℕ
reason_number Panic = 1
reason_number Oops = 2
reason_number Emergency = 3
reason_number Shutdown = 4

abbrev pub reason_word : ℕ → List ℕ
reason_word n =
    if n == 1 then codes "Panic" else if n == 2 then codes "Oops" else if n == 3 then codes "Emergency"
    else if n == 4 then codes "Shutdown" else codes "Unknown"

abbrev pub reason_of : ℕ → Reason
reason_of n = if n == 1 then Panic else if n == 2 then Oops else if n == 3 then Emergency else Shutdown
