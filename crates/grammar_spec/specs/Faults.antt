-- The numbers of the faults of words
use Rattle.std.specs.Prelude.{ℕ}
use Rattle.grammar_spec.specs.declared.faults.ParamFault.{ParamFault}
use Rattle.grammar_spec.specs.declared.faults.ParamFault.TheVariants.{UnknownKey, Twice, NotANumber}

abbrev pub fault_number : ParamFault → ℕ
fault_number (UnknownKey place) = 1
fault_number (Twice place) = 2
fault_number (NotANumber place) = 3
