-- A count that is not 0 is shown
use Rattle.std.proofs.Common.{◌≡◌, ◌==◌, false, arith}
use Rattle.std.proofs.lemmas.Bool.Decides.{nat_tests}
use Rattle.report_html.specs.Pieces.{parts}
use Rattle.report_html.proofs.NonZeroCounts.{count-added}
use Rattle.report_html.proofs.picture.add_count.Goals as goal

pub returns : goal.returns
returns c =
    let some : (c.args.n == 0) ≡ false = (let other = c.if-n-eq0.false in grind (arith, nat_tests, other)) in
    count-added c.args.n c.from.result (parts c.args.pieces.now.items) (parts c.add.new.pieces.items) some
    c.from.ensures c.in_ok-add.ensures
