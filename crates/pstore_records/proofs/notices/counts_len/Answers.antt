-- The notice has the digits of both numbers and fixed words, or is the one of no errors. For
-- `counts_len`.
use Rattle.std.proofs.Common.{◌+◌, ◌<◌, arith}
use Rattle.pstore_records.proofs.Texts.{errors_length}
use Rattle.pstore_records.proofs.notices.counts_len.Goals as goal

pub returns-clause-len : goal.returns-clause-len
returns-clause-len c =
    let some : 0 < c.args.corrected + c.args.bad = omega (arith, c.else-corrected-eq0.either) in
    errors_length c.args.corrected c.args.bad c.digits_in-corrected_len.result c.digits_in-bad_len.result some
    c.digits_in-corrected_len.ensures.len c.digits_in-bad_len.ensures.len
