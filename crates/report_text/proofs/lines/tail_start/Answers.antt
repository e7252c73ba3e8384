-- The lines after each place are counted
use Rattle.std.proofs.Common.{ap, sym, ◌∙◌, arith}
use Rattle.std.proofs.Math.Seq.{drop-length}
use Rattle.report_text.specs.Tails.{last_lines}
use Rattle.report_text.proofs.LastLines.{none-behind, no-lines, first-wanted, line-more, no-line, no-line-at-end}
use Rattle.report_text.proofs.LastLines.{whole-last}
use Rattle.report_text.proofs.lines.tail_start.Goals as goal
use Rattle.report_text.proofs.lines.tail_start.Goals.{else-bytes-i-eq10-via-then-bytes-i-eq10+else-i-bytes}
use Rattle.report_text.proofs.lines.tail_start.Goals.{else-bytes-i-eq10-via-else-bytes-i-eq10}

pub loop-i-init : goal.loop-i-init
loop-i-init c = record {
  within = omega arith;
  lines = none-behind c.args.bytes.now;
  few = omega arith;
}

pub returns-then-lines-most-clause-last : goal.returns-then-lines-most-clause-last
returns-then-lines-most-clause-last c =
    first-wanted c.args.most c.args.bytes.now c.loop-i.i c.loop-i.lines 0 c.loop-i-test.true c.loop-i.invariant.lines
    c.loop-i.invariant.few c.if-lines-most.true c.if-i-bytes.true c.if-bytes-i-eq10.true

pub loop-i-preserved-then-i-bytes : goal.loop-i-preserved-then-i-bytes
loop-i-preserved-then-i-bytes c = record {
  within = omega arith;
  lines = line-more c.args.bytes.now c.loop-i.i c.loop-i.lines 0 c.loop-i-test.true c.loop-i.invariant.lines
      c.if-i-bytes.true c.if-bytes-i-eq10.true;
  few = omega arith;
}

pub loop-i-preserved : goal.loop-i-preserved
loop-i-preserved c = record {
  within = omega arith;
  lines = elim c.else-bytes-i-eq10.branch [
    | else-bytes-i-eq10-via-then-bytes-i-eq10+else-i-bytes w ↦
        no-line-at-end c.args.bytes.now c.loop-i.i c.loop-i.lines 0 c.loop-i-test.true c.loop-i.invariant.within
        c.loop-i.invariant.lines w.if-i-bytes.false
    | else-bytes-i-eq10-via-else-bytes-i-eq10 w ↦
        no-line c.args.bytes.now c.loop-i.i c.loop-i.lines 0 c.loop-i-test.true c.loop-i.invariant.within
        c.loop-i.invariant.lines w.if-bytes-i-eq10.false
  ];
  few = omega arith;
}

pub returns-clause-last : goal.returns-clause-last
returns-clause-last c =
    whole-last c.args.most c.args.bytes.now c.loop-i.i c.loop-i.lines c.loop-i-test.false c.loop-i.invariant.lines
    c.loop-i.invariant.few

pub returns-then-most-eq0-clause-last : goal.returns-then-most-eq0-clause-last
returns-then-most-eq0-clause-last c =
    drop-length c.args.bytes.now ∙ no-lines c.args.bytes.now
    ∙ ap (λ most. last_lines most c.args.bytes.now) (sym c.if-most-eq0.true)
