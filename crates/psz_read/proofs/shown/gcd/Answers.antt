-- A greatest common divisor is that of Euclid's algorithm. For `gcd`.
use Rattle.psz_read.proofs.Divisors.{same_as_gcd}
use Rattle.psz_read.proofs.shown.gcd.Goals as goal

pub returns : goal.returns
returns c = same_as_gcd c.args.a c.args.b _ c.divisor.ensures
