-- Lines of the kernel and of the store, done or refused, are lines of the live machine. For
-- `do_live`.
use Rattle.std.proofs.Common.{subst, sym}
use Rattle.grammar_spec.specs.declared.line.Line.{Line}
use Rattle.ram_session.specs.Machines.{MachineFails}
use Rattle.ram_session.specs.declared.machine.Machine.TheVariants.{Live as LiveMachine}
use Rattle.ram_session.proofs.Machines.{keeps_unless, live_done, live_fails}
use Rattle.ram_session.proofs.lines.do_live.Goals as goal

pub returns-in-Err-clause-done : goal.returns-in-Err-clause-done
returns-in-Err-clause-done c =
    subst (λ (line : Line). MachineFails (LiveMachine c.args.live c.args.logs c.args.kernel) line c.in-Err.e)
    (sym c.in-KMsg.is) (rw c.as_slice.ensures at (c.in-Err.ensures.done c.args.live c.args.logs))

pub returns-in-Err-crash-clause-done : goal.returns-in-Err-crash-clause-done
returns-in-Err-crash-clause-done c =
    subst (λ (line : Line). MachineFails (LiveMachine c.args.live c.args.logs c.args.kernel) line c.in-Err-crash.e)
    (sym c.in-Crash.is) (c.in-Err-crash.ensures.done c.args.logs)

pub returns-in-Ok-do_store-clause-done : goal.returns-in-Ok-do_store-clause-done
returns-in-Ok-do_store-clause-done c =
    live_done c.args.live c.do_store.new.live c.args.logs c.do_store.new.logs c.args.kernel c.args.line
    c.in-Ok-do_store.text.items (keeps_unless c.args.line c.in_default.not-Boot c.in_default.not-Stop
    c.in_default.not-KMsg c.in_default.not-Crash) c.in-Ok-do_store.ensures

pub returns-in-Err-do_store-clause-done : goal.returns-in-Err-do_store-clause-done
returns-in-Err-do_store-clause-done c =
    live_fails c.args.live c.args.logs c.args.kernel c.args.line c.in-Err-do_store.e (keeps_unless c.args.line
    c.in_default.not-Boot c.in_default.not-Stop c.in_default.not-KMsg c.in_default.not-Crash)
    c.in-Err-do_store.ensures
