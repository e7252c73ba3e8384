-- The locator times the power sums is the evaluator. By `KeyEquation`.
use Rattle.decoder_laws.proofs.KeyEquation.{key_equation as law}
use Rattle.decoder_laws.proofs.key_equation.Goals as goal

pub returns : goal.returns
returns c = law
