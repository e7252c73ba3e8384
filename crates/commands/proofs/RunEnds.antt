-- What a run's end leaves of the image, of what is asked of it, and of the counts of faults
use Rattle.std.proofs.Common.{◌≡◌, ℕ, Result}
use Rattle.command_spec.specs.Commands.{Plan}
use Rattle.command_spec.specs.Ends.{End}
use Rattle.command_spec.specs.Answers.{Outside, NoScript, NoImage, NoOtherFault}
use Rattle.command_spec.specs.PlanAnswers.{Untouched, PlanWrites}
use Rattle.command_spec.specs.declared.Stop.{Stop}
use Rattle.command_line.specs.Ends.{Finished}
use Rattle.command_line.specs.Ended.{WorkDone}
use Rattle.command_line.proofs.Counts.{work_untouched, work_writes, work_no_other_fault}

pub record Leaves (r : Result Plan Stop) (a b : Outside) (status : ℕ) : Type 0 where
  pub untouched : Untouched r a b status
  pub writes : PlanWrites r a b status
  pub faults : NoOtherFault a b status

pub run_leaves : (r : Result Plan Stop) (a m b : Outside) (e : End) (status : ℕ) → NoScript m b → NoImage m b
    → b.writes ≡ m.writes → WorkDone r a m e
    → Finished e m.given b.given m.sink_faults b.sink_faults status → Leaves r a b status
run_leaves r a m b e status script image same w f = record {
  untouched = work_untouched r a m b e status script image w f;
  writes = work_writes r a m b e status script image w f same;
  faults = work_no_other_fault r a m b e status script image w f;
}
