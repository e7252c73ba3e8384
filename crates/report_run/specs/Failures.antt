-- Why a report by a plan was not made, or an image or a whole memory not read
use Rattle.std.specs.Prelude.{◌≡◌, ℕ}
use Rattle.outside.specs.Outside.{Rose}
use Rattle.command_spec.specs.declared.Stop.{Stop}
use Rattle.command_spec.specs.declared.Stop.TheVariants.{Short as TooShort, ImageFault, SinkFault}
use Rattle.memory_regions.specs.declared.pages.Unread.{Unread as Fault}
use Rattle.memory_regions.specs.declared.pages.Unread.TheVariants.{Memory as NoMemory, Fault as ReadFault}
use Rattle.storage_report.specs.declared.storage.NoStorage.{NoStorage}
use Rattle.storage_report.specs.declared.storage.NoStorage.TheVariants.{Stopped, Undivided as NotDivided}
use Rattle.report_run.specs.declared.failures.Failure.{Failure}
use Rattle.report_run.specs.declared.failures.Failure.TheVariants.{Memory, Unread, Unwritten, Short, Undivided}

abbrev pub stop_failure : Stop → Failure
stop_failure (TooShort has needed) = Short has needed
stop_failure ImageFault = Unread
stop_failure SinkFault = Unwritten
stop_failure other = Memory

abbrev pub unread_failure : Fault → Failure
unread_failure NoMemory = Memory
unread_failure ReadFault = Unread

-- memory ran out and no read failed, or one failed
abbrev pub IsUnread : ℕ → ℕ → Failure → Type 0
IsUnread before now Memory = now ≡ before
IsUnread before now Unread = Rose before now
IsUnread before now other = ⊥

abbrev pub no_storage_failure : NoStorage → Failure
no_storage_failure (Stopped stop) = stop_failure stop
no_storage_failure (NotDivided fault) = Undivided fault
