-- Bytes that are UTF-8 are their own longest front
use Rattle.std.proofs.Common.{◌∙◌, sym, arith}
use Rattle.std.specs.Str.Lossy.{utf8_valid_len}
use Rattle.std.proofs.lemmas.List.{take_all}
use Rattle.std.proofs.lemmas.Str.{utf8_valid_len-IsUtf8}
use Rattle.report_json.proofs.records.utf8_front.Goals as goal

pub returns-in-Ok : goal.returns-in-Ok
returns-in-Ok c =
    let bytes = c.args.bytes.now in
    let valid = c.in-Ok.ensures.cases in
    let all = utf8_valid_len-IsUtf8 bytes valid.1 in
    valid.0 ∙ sym (take_all (utf8_valid_len bytes) bytes (omega (arith, all)))
