-- The sum of two logarithms, less 255 if it is more, is that of the product. For `log_product`.
use Rattle.std.proofs.Common.{◌+◌, ◌-◌, arith}
use Rattle.decoder_laws.proofs.Powers.{pow_wrapped}
use Rattle.code_laws.proofs.Ring.{pow_add}
use Rattle.rs_decode.proofs.mending.log_product.Goals as goal

pub returns-then-sum-lt255-clause-value : goal.returns-then-sum-lt255-clause-value
returns-then-sum-lt255-clause-value c = pow_add 2 c.args.a c.args.b

pub returns-else-sum-lt255-clause-value : goal.returns-else-sum-lt255-clause-value
returns-else-sum-lt255-clause-value c = pow_wrapped c.args.a c.args.b (c.args.a + c.args.b - 255) (omega arith)
