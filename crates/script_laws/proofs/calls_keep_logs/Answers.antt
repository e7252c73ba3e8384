-- Calls and steps leave the saved logs. By `Steps`.
use Rattle.script_laws.proofs.Steps.{calls_keep_logs as law}
use Rattle.script_laws.proofs.calls_keep_logs.Goals as goal

pub returns : goal.returns
returns c = law
