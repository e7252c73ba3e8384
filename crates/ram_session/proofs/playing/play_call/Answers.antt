-- A line of a call leaves the output as it is. For `play_call`.
use Rattle.std.proofs.Common.{refl, sym, subst}
use Rattle.ram_session.specs.Machines.{MachineRefused, MachineTakes}
use Rattle.ram_session.specs.declared.machine.Machine.{Machine}
use Rattle.ram_session.specs.declared.machine.LineError.TheVariants.{Memory, Refused}
use Rattle.ram_session.proofs.CallLines.{call_fails}
use Rattle.ram_session.proofs.playing.play_call.Goals as goal

pub returns-in-Err-Memory-clause-played : goal.returns-in-Err-Memory-clause-played
returns-in-Err-Memory-clause-played c = λ given faults. (
  refl,
  subst (λ (m : Machine). MachineTakes m c.args.line) (sym c.in-Live.is)
      (call_fails c.in-Live.live c.in-Live.field-1 c.in-Live.field-2 c.args.line c.in-Err-Memory.field-0 Memory
      c.in-Err-Memory.field-0-is c.requires.call (c.in-Err-Memory.ensures c.in-Live.field-1)),
)

pub returns-in-Err-Refused-clause-played : goal.returns-in-Err-Refused-clause-played
returns-in-Err-Refused-clause-played c = λ given faults. (
  refl,
  refl,
  subst (λ (m : Machine). MachineRefused m c.args.line c.in-Err-Refused.cause) (sym c.in-Live.is)
      (call_fails c.in-Live.live c.in-Live.field-1 c.in-Live.field-2 c.args.line c.in-Err-Refused.field-0
      (Refused c.in-Err-Refused.cause) c.in-Err-Refused.field-0-is c.requires.call
      (c.in-Err-Refused.ensures c.in-Live.field-1)),
)
