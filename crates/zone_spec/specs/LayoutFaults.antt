-- The numbers of a layout's faults, as texts name them; 10 is none
use Rattle.std.specs.Prelude.{ℕ}
use Rattle.zone_spec.specs.declared.params.LayoutFault.{LayoutFault}
use Rattle.zone_spec.specs.declared.params.LayoutFault.TheVariants.{NoMemory, NoZone, TooLarge, EccTooLarge, NoRoom}
use Rattle.zone_spec.specs.declared.params.LayoutFault.TheVariants.{ZoneTooSmall, EccInvalid, CpusBad, NotPage}
use Rattle.zone_spec.specs.declared.params.LayoutFault.TheVariants.{BlockBad}

abbrev pub fault_number : LayoutFault → ℕ
fault_number NoMemory = 1
fault_number NoZone = 2
fault_number TooLarge = 3
fault_number EccTooLarge = 4
fault_number NoRoom = 5
fault_number ZoneTooSmall = 6
fault_number EccInvalid = 7
fault_number CpusBad = 8
fault_number NotPage = 9
fault_number BlockBad = 11
