-- A refused flip is refused by the machine that is off. For `do_off`.
use Rattle.std.proofs.Common.{subst, sym}
use Rattle.grammar_spec.specs.declared.line.Line.{Line}
use Rattle.grammar_spec.specs.declared.line.Line.TheVariants.{Flip}
use Rattle.ram_session.specs.Machines.{MachineRefused}
use Rattle.ram_session.specs.declared.machine.Machine.TheVariants.{Off as OffMachine}
use Rattle.ram_session.proofs.Machines.{off_refused}
use Rattle.ram_session.proofs.lines.do_off.Goals as goal

pub returns-in-Err-clause-done : goal.returns-in-Err-clause-done
returns-in-Err-clause-done c =
    subst (λ (line : Line). MachineRefused (OffMachine c.args.off) line c.in-Err.cause) (sym c.in-Flip.is)
    (off_refused c.args.off (Flip c.in-Flip.place c.in-Flip.mask) c.in-Err.cause tt c.in-Err.ensures)
