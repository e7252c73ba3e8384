-- A decimal number below 2^32 parses as itself, so its dump is the only one. For `numbered`.
use Rattle.std.proofs.Common.{◌≡◌, Ok, arith}
use Rattle.std.proofs.lemmas.Fmt.{parse-decimal}
use Rattle.pstore_records.proofs.naming.numbered.Goals as goal

pub returns-in-Ok : goal.returns-in-Ok
returns-in-Ok c = λ index small written.
    let ok : c.parse.result ≡ Ok index = parse-decimal 32 index c.args.digits.now c.parse.result small
    (omega (arith, small)) written c.parse.ensures.value.0 in
    cc

pub returns-in-Err : goal.returns-in-Err
returns-in-Err c = λ index small written.
    let ok : c.parse.result ≡ Ok index = parse-decimal 32 index c.args.digits.now c.parse.result small
    (omega (arith, small)) written c.parse.ensures.value.0 in
    cc
