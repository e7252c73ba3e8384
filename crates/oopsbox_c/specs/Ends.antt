-- The number of each end of a call
use Rattle.std.specs.Prelude.{ℕ}
use Rattle.oopsbox_c.specs.declared.ends.End.{End}
use Rattle.oopsbox_c.specs.declared.ends.End.TheVariants.{Done, Fault, Short, Room, Argument, Memory, Bad, Closed, Ran}

abbrev pub status_of : End → ℕ
status_of Done = 0
status_of Fault = 3
status_of Short = 4
status_of Room = 12
status_of Argument = 13
status_of Memory = 14
status_of Bad = 15
status_of Closed = 16
status_of (Ran status) = status
