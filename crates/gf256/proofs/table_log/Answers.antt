-- The entry of 0 points where the powers are zeros, that of any other number at its logarithm. For
-- `table_log`.
use Rattle.gf256.proofs.Tables.{log_below, log_some, product_is}
use Rattle.gf256.proofs.table_log.Goals as goal

pub returns-clause-below : goal.returns-clause-below
returns-clause-below c = log_below c.args.a c.ranges.a.fits

pub returns-clause-some : goal.returns-clause-some
returns-clause-some c = λ n. log_some c.args.a c.ranges.a.fits n

pub returns-clause-value : goal.returns-clause-value
returns-clause-value c = λ n l. product_is c.args.a n c.ranges.a.fits l
