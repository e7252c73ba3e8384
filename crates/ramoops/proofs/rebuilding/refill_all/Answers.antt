-- One log more refills one zone more, and in the end all. For `refill_all`.
use Rattle.std.proofs.Common.{arith, subst, List}
use Rattle.std.proofs.lemmas.List.{take_all}
use Rattle.zone_spec.specs.Records.{Saved}
use Rattle.prz_read.specs.Saving.{saved}
use Rattle.ramoops.specs.Refilling.{RefillsAll}
use Rattle.ramoops.proofs.FilledStates.{refills_nothing, refills_more}
use Rattle.ramoops.proofs.rebuilding.refill_all.Goals as goal

pub loop-i-init : goal.loop-i-init
loop-i-init c = refills_nothing c.args.live.now

pub loop-i-preserved : goal.loop-i-preserved
loop-i-preserved c = refills_more (saved c.args.logs.now) c.loop-i.i c.args.live.now c.loop-i.live
    c.refill.new.live (omega (arith, c.len-i-end.ensures.saved, c.loop-i-test.true)) c.loop-i.invariant
    c.in_ok-refill.ensures

pub returns : goal.returns
returns c = subst (λ (zs : List Saved). RefillsAll zs c.args.live.now c.loop-i.live)
    (take_all c.loop-i.i (saved c.args.logs.now) (omega (arith, c.len-i-end.ensures.saved, c.loop-i-test.false)))
    c.loop-i.invariant
