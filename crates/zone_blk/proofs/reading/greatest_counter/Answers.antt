-- A dump of the reason raises the greatest counter, any other leaves it. For the loop of
-- `greatest_counter`.
use Rattle.std.proofs.Common.{◌≡◌, ap, arith}
use Rattle.blk_spec.specs.Reading.{BlkDump}
use Rattle.zone_blk.proofs.Readings.{greatest-begin, greatest-taken, greatest-passed, greatest-end}
use Rattle.zone_blk.proofs.reading.greatest_counter.Goals as goal
use Rattle.zone_blk.proofs.reading.greatest_counter.Goals.{then-dump-reason, else-dump-reason}

pub loop-dump-init : goal.loop-dump-init
loop-dump-init c = greatest-begin c.args.reason c.args.dumps.now

pub loop-dump-preserved : goal.loop-dump-preserved
loop-dump-preserved c =
    let reason : c.dump.inside.reason ≡ c.dump-item.result.reason = ap (λ (d : BlkDump). d.reason) c.dump.view_is in
    let counter : c.dump.inside.counter ≡ c.dump-item.result.counter = ap (λ (d : BlkDump). d.counter) c.dump.view_is in
    elim c.if-dump-reason.branch [
      | then-dump-reason w ↦ greatest-taken c.args.reason c.loop-dump.most c.if-dump-reason.most
          c.loop-dump.dump-index _ c.dump-item.result c.args.dumps.now c.loop-dump-test.true c.dump-item.is
          (omega arith) (omega arith) c.loop-dump.invariant
      | else-dump-reason w ↦ greatest-passed c.args.reason c.loop-dump.most c.if-dump-reason.most
          c.loop-dump.dump-index _ c.dump-item.result c.args.dumps.now c.loop-dump-test.true c.dump-item.is
          (λ e. omega arith) (omega arith) c.loop-dump.invariant
    ]

pub returns : goal.returns
returns c = greatest-end c.args.reason c.loop-dump.most c.loop-dump.dump-index _ c.args.dumps.now
    c.loop-dump-test.false c.loop-dump.invariant
