-- The lines of one zone more, with its report, lengthen the text, and in the end all are there.
-- For `boot_text`.
use Rattle.std.proofs.Common.{◌≡◌, ◌<◌, length, arith, Some, refl, ap}
use Rattle.std.proofs.lemmas.Option.{slice_get_read}
use Rattle.std.specs.Prelude.{slice_get}
use Rattle.prz_read.specs.Saving.{saved}
use Rattle.ram_session.proofs.Sides.{one-more, all-there}
use Rattle.ram_session.proofs.texts.boots.boot_text.Goals as goal

pub loop-i-preserved : goal.loop-i-preserved
loop-i-preserved c =
    let within : c.loop-i.i < length (saved c.args.logs.now) =
    omega (arith, c.len.ensures.saved, c.min-both.ensures, c.loop-i-test.true) in
    let long = ap length c.as_slice-reports.ensures in
    let here : slice_get c.args.report.now c.loop-i.i ≡ Some c.index-reports-i.result =
    slice_get_read c.args.report.now (length c.args.report.now) c.loop-i.i c.index-reports-i.result refl
    (omega (arith, c.min-both.ensures, c.loop-i-test.true, long))
    (rw c.as_slice-reports.ensures at c.index-reports-i.is) in
    one-more (saved c.args.logs.now) c.args.report.now c.loop-i.i c.index-reports-i.result c.loop-i.text.items
    c.push_zone_lines.new.text.items within here c.loop-i.invariant c.in_ok-push_zone_lines.ensures

pub returns : goal.returns
returns c = all-there (saved c.args.logs.now) c.args.report.now c.loop-i.i c.loop-i.text.items
    (omega (
      arith,
      c.len.ensures.saved,
      c.min-both.ensures,
      c.loop-i-test.false,
      ap length c.as_slice-reports.ensures,
    )) c.loop-i.invariant
