-- Each phase of parity hands out its part's bytes; phases of words and data have none here. For
-- `give_parities`.
use Rattle.std.proofs.Common.{subst}
use Rattle.store_steps.specs.Machine.{IsParity}
use Rattle.store_steps.proofs.steps.Steps.give_parities.Goals as goal

pub returns-in-FirstParity-clause-inside : goal.returns-in-FirstParity-clause-inside
returns-in-FirstParity-clause-inside c = c.give_block_parity.ensures.inside c.args.line.now c.args.payload.now

pub returns-in-SecondParity-clause-inside : goal.returns-in-SecondParity-clause-inside
returns-in-SecondParity-clause-inside c = c.give_block_parity-in-SecondParity.ensures.inside c.args.line.now c.args.payload.now

pub returns-in-Header-clause-inside : goal.returns-in-Header-clause-inside
returns-in-Header-clause-inside c = c.give_header_parity.ensures.inside c.args.line.now c.args.payload.now

pub returns-in-ZeroStart-clause-stores : goal.returns-in-ZeroStart-clause-stores
returns-in-ZeroStart-clause-stores c = absurd (subst IsParity c.in-ZeroStart.is c.requires.parity)

pub returns-in-ZeroStart-clause-inside : goal.returns-in-ZeroStart-clause-inside
returns-in-ZeroStart-clause-inside c = absurd (subst IsParity c.in-ZeroStart.is c.requires.parity)

pub returns-in-ZeroStart-clause-given : goal.returns-in-ZeroStart-clause-given
returns-in-ZeroStart-clause-given c = absurd (subst IsParity c.in-ZeroStart.is c.requires.parity)

pub returns-in-ZeroSize-clause-stores : goal.returns-in-ZeroSize-clause-stores
returns-in-ZeroSize-clause-stores c = absurd (subst IsParity c.in-ZeroSize.is c.requires.parity)

pub returns-in-ZeroSize-clause-inside : goal.returns-in-ZeroSize-clause-inside
returns-in-ZeroSize-clause-inside c = absurd (subst IsParity c.in-ZeroSize.is c.requires.parity)

pub returns-in-ZeroSize-clause-given : goal.returns-in-ZeroSize-clause-given
returns-in-ZeroSize-clause-given c = absurd (subst IsParity c.in-ZeroSize.is c.requires.parity)

pub returns-in-Size-clause-stores : goal.returns-in-Size-clause-stores
returns-in-Size-clause-stores c = absurd (subst IsParity c.in-Size.is c.requires.parity)

pub returns-in-Size-clause-inside : goal.returns-in-Size-clause-inside
returns-in-Size-clause-inside c = absurd (subst IsParity c.in-Size.is c.requires.parity)

pub returns-in-Size-clause-given : goal.returns-in-Size-clause-given
returns-in-Size-clause-given c = absurd (subst IsParity c.in-Size.is c.requires.parity)

pub returns-in-Start-clause-stores : goal.returns-in-Start-clause-stores
returns-in-Start-clause-stores c = absurd (subst IsParity c.in-Start.is c.requires.parity)

pub returns-in-Start-clause-inside : goal.returns-in-Start-clause-inside
returns-in-Start-clause-inside c = absurd (subst IsParity c.in-Start.is c.requires.parity)

pub returns-in-Start-clause-given : goal.returns-in-Start-clause-given
returns-in-Start-clause-given c = absurd (subst IsParity c.in-Start.is c.requires.parity)

pub returns-in-First-clause-stores : goal.returns-in-First-clause-stores
returns-in-First-clause-stores c = absurd (subst IsParity c.in-First.is c.requires.parity)

pub returns-in-First-clause-inside : goal.returns-in-First-clause-inside
returns-in-First-clause-inside c = absurd (subst IsParity c.in-First.is c.requires.parity)

pub returns-in-First-clause-given : goal.returns-in-First-clause-given
returns-in-First-clause-given c = absurd (subst IsParity c.in-First.is c.requires.parity)

pub returns-in-Second-clause-stores : goal.returns-in-Second-clause-stores
returns-in-Second-clause-stores c = absurd (subst IsParity c.in-Second.is c.requires.parity)

pub returns-in-Second-clause-inside : goal.returns-in-Second-clause-inside
returns-in-Second-clause-inside c = absurd (subst IsParity c.in-Second.is c.requires.parity)

pub returns-in-Second-clause-given : goal.returns-in-Second-clause-given
returns-in-Second-clause-given c = absurd (subst IsParity c.in-Second.is c.requires.parity)

pub returns-in-Finished-clause-stores : goal.returns-in-Finished-clause-stores
returns-in-Finished-clause-stores c = absurd (subst IsParity c.in-Finished.is c.requires.parity)

pub returns-in-Finished-clause-inside : goal.returns-in-Finished-clause-inside
returns-in-Finished-clause-inside c = absurd (subst IsParity c.in-Finished.is c.requires.parity)

pub returns-in-Finished-clause-given : goal.returns-in-Finished-clause-given
returns-in-Finished-clause-given c = absurd (subst IsParity c.in-Finished.is c.requires.parity)
