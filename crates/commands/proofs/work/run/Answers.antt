-- From the work of a plan, and the last line after it, follows all that `run` promises of status,
-- text, image and boots.
use Rattle.std.proofs.Common.{refl}
use Rattle.command_spec.specs.Commands.{asked, plan_of}
use Rattle.command_line.specs.Words.{texts}
use Rattle.command_line.proofs.AnyWords.{work_answers}
use Rattle.commands.proofs.WorkDone.{completes}
use Rattle.commands.proofs.HeadlineReads.{run_reads}
use Rattle.commands.proofs.RunEnds.{run_leaves}
use Rattle.commands.proofs.Due.{last_line_put}
use Rattle.commands.proofs.ImageFaults.{image_fails}
use Rattle.commands.proofs.Taking.{plan_took}
use Rattle.commands.proofs.work.run.Goals as goal

pub returns-clause-runs : goal.returns-clause-runs
returns-clause-runs g c =
    let plan = plan_of (texts c.args.words.now) in
    let work = c.do_work-end.ensures.work in
    let answers = work_answers plan _ _ _ _ _ (record { left = refl; source = refl })
    (record { holds = refl; store = refl }) work c.finish.ensures in
    let leaves = run_leaves plan _ _ _ _ _ (record { left = refl; source = refl })
    (record { holds = refl; store = refl }) refl work c.finish.ensures in
    record {
      untouched = leaves.untouched;
      writes = leaves.writes;
      image_fails = image_fails _ _ _ _ (record { left = refl; source = refl }) refl plan _
          c.do_work-end.ensures.asked c.finish.ensures;
      takes = plan_took _ _ _ _ plan _ c.do_work-end.ensures.takes c.finish.ensures;
      faults = leaves.faults;
      answers = answers;
      complete = completes (texts c.args.words.now) _ _ _ answers;
      reads = run_reads c.later_boot_lists_crash.ensures (asked (texts c.args.words.now)) _ _ _ _ refl
          (g.met.M.Load.held_bytes c.args.image.now)
          answers;
      last = last_line_put _ _ _ _ _ plan _ c.do_work-end.ensures.put c.finish.ensures;
    }

pub returns-clause-unread : goal.returns-clause-unread
returns-clause-unread g c = c.do_work-end.ensures.unread
