-- By `Divisors`. For `gcd_is_greatest`.
use Rattle.psz_read.proofs.Divisors.{gcd_is, step_divides, step_greatest}
use Rattle.psz_read.proofs.laws.gcd_is_greatest.Goals as goal

pub returns-clause-gcd : goal.returns-clause-gcd
returns-clause-gcd c = gcd_is

pub returns-clause-divides : goal.returns-clause-divides
returns-clause-divides c = step_divides

pub returns-clause-greatest : goal.returns-clause-greatest
returns-clause-greatest c = step_greatest
