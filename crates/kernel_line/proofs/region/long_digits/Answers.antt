-- What is no text is no number. For `long_digits`.
use Rattle.std.proofs.Common.{sym}
use Rattle.kernel_line.proofs.Digits.{no_text_no_number}
use Rattle.kernel_line.proofs.region.long_digits.Goals as goal

pub returns-in-Err : goal.returns-in-Err
returns-in-Err c = sym (no_text_no_number c.args.base c.args.digits.now c.requires.high c.in-Err.ensures.cases.0)
