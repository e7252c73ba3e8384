-- How a run ends: its status and its last line
use Rattle.std.specs.Prelude.{ℕ, ◌+◌, [], ◌++◌, codes, decimal, Result, Ok, Err}
use Rattle.zone_spec.specs.LayoutFaults.{fault_number}
use Rattle.grammar_spec.specs.declared.faults.ParamFault.{ParamFault}
use Rattle.grammar_spec.specs.declared.faults.ParamFault.TheVariants.{UnknownKey, Twice, NotANumber}
use Rattle.grammar_spec.specs.Fields.{Text}
use Rattle.script_spec.specs.Texts.{newline}
use Rattle.command_spec.specs.declared.Stop.{Stop}
use Rattle.command_spec.specs.declared.Stop.TheVariants.{Memory, Usage, Param, Layout, NoSharedZone, Short, ScriptFault}
use Rattle.command_spec.specs.declared.Stop.TheVariants.{ImageFault, SinkFault, TooLong, BadLine, Refused}
use Rattle.script_spec.specs.Playing.{LinesEnd}
use Rattle.script_spec.specs.declared.LineStop.{LineStop}
use Rattle.script_spec.specs.declared.LineStop.TheVariants.{Memory as MemoryThere, StoreFault as StoreFaultThere}
use Rattle.script_spec.specs.declared.LineStop.TheVariants.{SinkFault as SinkFaultThere, Refused as RefusedThere}
use Rattle.script_spec.specs.declared.Cause.{Cause}
use Rattle.script_spec.specs.declared.Cause.TheVariants.{IsOff, IsLive, NoZone, Busy, Idle, OutOfImage, NoRecord}
use Rattle.script_spec.specs.declared.Cause.TheVariants.{NotHere, TooLong as TooLongLine, NoSeat, Crowded, NoRing}

-- the end of a run: all was done, or why not
abbrev pub End : Type 0
End = Result (Unit {0}) Stop

-- lines of a script that stop end its run so
abbrev pub stop_of : LineStop → Stop
stop_of MemoryThere = Memory
stop_of StoreFaultThere = ImageFault
stop_of SinkFaultThere = SinkFault
stop_of (RefusedThere n cause) = Refused n cause

abbrev pub end_of : LinesEnd → End
end_of (Ok u) = Ok tt
end_of (Err stop) = Err (stop_of stop)

abbrev pub status_of : End → ℕ
status_of (Ok u) = 0
status_of (Err Memory) = 1
status_of (Err Usage) = 2
status_of (Err (Param fault before)) = 3
status_of (Err (Layout fault)) = 3
status_of (Err NoSharedZone) = 3
status_of (Err (Short has needed)) = 4
status_of (Err ScriptFault) = 5
status_of (Err ImageFault) = 6
status_of (Err SinkFault) = 7
status_of (Err TooLong) = 8
status_of (Err (BadLine n)) = 9
status_of (Err (Refused n cause)) = 10

abbrev pub cause_text : Cause → Text
cause_text IsOff = codes "is off"
cause_text IsLive = codes "is live"
cause_text NoZone = codes "no zone"
cause_text Busy = codes "busy"
cause_text Idle = codes "idle"
cause_text OutOfImage = codes "out of image"
cause_text NoRecord = codes "no record"
cause_text NotHere = codes "not here"
cause_text TooLongLine = codes "too long"
cause_text NoSeat = codes "no seat"
cause_text Crowded = codes "crowded"
cause_text NoRing = codes "no ring"

-- a parameter's fault and its word, counted from 1 over all words
abbrev pub param_text : ParamFault → ℕ → Text
param_text (UnknownKey place) before = codes "1 at word " ++ decimal (before + place + 1)
param_text (Twice place) before = codes "2 at word " ++ decimal (before + place + 1)
param_text (NotANumber place) before = codes "3 at word " ++ decimal (before + place + 1)

-- the last line of a run that ends before its work is done
abbrev pub last_line : Stop → Text
last_line Memory = codes "no memory" ++ newline
last_line Usage = codes "usage: oopsbox IMAGE COMMAND key=value .." ++ newline
last_line (Param fault before) = codes "parameter fault " ++ param_text fault before ++ newline
last_line (Layout fault) = codes "layout fault " ++ decimal (fault_number fault) ++ newline
last_line NoSharedZone = codes "layout fault 12" ++ newline
last_line (Short has needed) = codes "image has " ++ decimal has ++ codes " bytes, " ++ decimal needed
    ++ codes " needed" ++ newline
last_line ScriptFault = codes "script fault" ++ newline
last_line ImageFault = codes "image fault" ++ newline
last_line SinkFault = []
last_line TooLong = codes "script too long" ++ newline
last_line (BadLine n) = codes "bad line " ++ decimal n ++ newline
last_line (Refused n cause) = codes "line " ++ decimal n ++ codes " refused: " ++ cause_text cause ++ newline
