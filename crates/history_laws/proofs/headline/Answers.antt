-- The headline: the next boot reads the last bytes that a session's operations wrote to each zone,
-- and reports cut calls exactly. By `WrittenLogs`.
use Rattle.history_laws.proofs.WrittenLogs.{headline as law, cuts_are_reported}
use Rattle.history_laws.proofs.headline.Goals as goal

pub returns-clause-written : goal.returns-clause-written
returns-clause-written c = law

pub returns-clause-reported : goal.returns-clause-reported
returns-clause-reported c = cuts_are_reported
