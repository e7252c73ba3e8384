-- The stop of a script at a line
use Rattle.std.specs.Prelude.{ℕ}
use Rattle.script_spec.specs.declared.LineStop.{LineStop}
use Rattle.script_spec.specs.declared.LineStop.TheVariants.{Memory, StoreFault, Refused}
use Rattle.blk_session.specs.declared.errors.LineError.{LineError}
use Rattle.blk_session.specs.declared.errors.LineError.TheVariants.{Memory as MemoryThere}
use Rattle.blk_session.specs.declared.errors.LineError.TheVariants.{StoreFault as StoreFaultThere}
use Rattle.blk_session.specs.declared.errors.LineError.TheVariants.{Refused as RefusedThere}

-- the stop of a script at the line of this number, which was not done
abbrev pub stop_of : ℕ → LineError → LineStop
stop_of number MemoryThere = Memory
stop_of number StoreFaultThere = StoreFault
stop_of number (RefusedThere cause) = Refused number cause
