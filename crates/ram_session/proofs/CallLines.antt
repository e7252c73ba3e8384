-- Lines of calls, done where the machine lies
use Rattle.std.proofs.Common.{◌≡◌, ℕ, List, [], append-nil, Option, Some, None, sym, subst}
use Rattle.std.specs.Io.KnownBytes.{Appends}
use Rattle.prz_read.specs.Saving.{SavedLogs}
use Rattle.ramoops.specs.LiveSeen.{LiveSeen}
use Rattle.grammar_spec.specs.declared.line.Line.{Line}
use Rattle.grammar_spec.specs.declared.line.Line.TheVariants.{Stop, Boot, KMsg, Crash}
use Rattle.ram_session.specs.Sessions.{Live as LiveStore, LineDone, LineFails, IsCall, KeepsKernel}
use Rattle.ram_session.specs.Machines.{MachineFails}
use Rattle.ram_session.specs.Playing.{Puts}
use Rattle.ram_session.specs.declared.kernel.Kernel.{Kernel}
use Rattle.ram_session.specs.declared.machine.Machine.TheVariants.{Live}
use Rattle.ram_session.specs.declared.machine.LineError.{LineError}
use Rattle.ram_session.proofs.Machines.{live_done, live_fails}

call_keeps : (line : Line) → IsCall line → KeepsKernel line
call_keeps Stop h = absurd h
call_keeps Boot h = absurd h
call_keeps (KMsg b) h = absurd h
call_keeps (Crash r t) h = absurd h
call_keeps line h = tt

appends_none : (given : Option (List ℕ)) → Appends given given []
appends_none None = tt
appends_none (Some xs) = sym (append-nil xs)

pub call_puts : (old new : LiveSeen) (logs : SavedLogs) (kernel : Kernel) (line : Line) (given : Option (List ℕ))
    → IsCall line → LineDone (LiveStore old logs) line (LiveStore new logs) []
    → Puts (Live old logs kernel) line (Live new logs kernel) given given
call_puts old new logs kernel line given call done = record {
  text = [];
  done = live_done old new logs logs kernel line [] (call_keeps line call) done;
  put = appends_none given;
}

pub call_fails : (old : LiveSeen) (logs : SavedLogs) (kernel : Kernel) (line : Line) (e why : LineError) → e ≡ why
    → IsCall line → LineFails (LiveStore old logs) line e → MachineFails (Live old logs kernel) line why
call_fails old logs kernel line e why is call fails =
    live_fails old logs kernel line why (call_keeps line call) (subst (LineFails (LiveStore old logs) line) is fails)
