-- `do_work` has done what the words ask for: nothing for a refused plan, a move's work for `move`, and a script's for
-- `shared-run`. The other plans need no answer.
use Rattle.std.proofs.Common.{refl, arith, Err, inl}
use Rattle.command_spec.specs.Commands.{OfRam, OfBlk, OfMove, SharedRun, plan_of}
use Rattle.command_line.specs.Words.{texts, plan_for, move_for}
use Rattle.commands.proofs.WorkEnds.{none_done, plan_done, count_same}
use Rattle.commands.proofs.Due.{plan_put, plan_same}
use Rattle.commands.proofs.ImageFaults.{plan_fails, none_fails}
use Rattle.commands.proofs.Unread.{plan_unread, any_unread}
use Rattle.commands.proofs.Taking.{plan_takes, takes_silent}
use Rattle.commands.proofs.work.do_work.Goals as goal

pub returns-in-Err-clause-work : goal.returns-in-Err-clause-work
returns-in-Err-clause-work g c = none_done (plan_of (texts c.args.words.now)) c.in-Err.stop _ _ c.in-Err.ensures.plan
    c.in-Err.ensures.stops
    (record {
      script = record { left = refl; source = refl };
      image = record { holds = refl; store = refl };
      given = refl;
    }) refl refl

pub returns-in-Ok-Move-clause-work : goal.returns-in-Ok-Move-clause-work
returns-in-Ok-Move-clause-work g c = plan_done (plan_of (texts c.args.words.now))
    (OfMove (move_for c.in-Ok-Move.from c.in-Ok-Move.to)) _ _ _
    (rw c.in-Ok-Move.field-0-is at c.in-Ok-Move.ensures.plan)
    (record {
      later = record {
        source = omega arith;
        store = c.move_image.ensures.later.0;
        sink = c.move_image.ensures.later.1;
      };
      caused = c.move_image.ensures.caused _ _;
      counts = record {
        source = count_same _ _ _ _ refl;
        store = c.move_image.ensures.image_count;
        sink = c.move_image.ensures.out_count;
      };
      kept = λ w. c.move_image.ensures.kept;
      asks = c.move_image.ensures.asks;
      ended = c.move_image.ensures.ended _ _;
    })

pub returns-in-Ok-Move-clause-put : goal.returns-in-Ok-Move-clause-put
returns-in-Ok-Move-clause-put g c = plan_put (plan_of (texts c.args.words.now))
    (OfMove (move_for c.in-Ok-Move.from c.in-Ok-Move.to)) _ _ _
    (rw c.in-Ok-Move.field-0-is at c.in-Ok-Move.ensures.plan) c.move_image.ensures.put

pub returns-in-Err-clause-put : goal.returns-in-Err-clause-put
returns-in-Err-clause-put g c = plan_same (plan_of (texts c.args.words.now)) (Err c.in-Err.stop) _

pub returns-in-Ok-Move-clause-asked : goal.returns-in-Ok-Move-clause-asked
returns-in-Ok-Move-clause-asked g c = plan_fails (plan_of (texts c.args.words.now))
    (OfMove (move_for c.in-Ok-Move.from c.in-Ok-Move.to)) _ _ _
    (rw c.in-Ok-Move.field-0-is at c.in-Ok-Move.ensures.plan) (c.move_image.ensures.asked _ _)

pub returns-in-Err-clause-asked : goal.returns-in-Err-clause-asked
returns-in-Err-clause-asked g c = none_fails (plan_of (texts c.args.words.now)) _ _ (Err c.in-Err.stop)
    (record { script = record { left = refl; source = refl }; given = refl; writes = refl })

pub returns-in-Ok-Share-clause-work : goal.returns-in-Ok-Share-clause-work
returns-in-Ok-Share-clause-work g c = plan_done (plan_of (texts c.args.words.now))
    (OfRam (plan_for SharedRun c.in-Ok-Share.booted)) _ _ _
    (rw c.in-Ok-Share.field-0-is at c.in-Ok-Share.ensures.plan) c.run_script.ensures.work

pub returns-in-Ok-Share-clause-put : goal.returns-in-Ok-Share-clause-put
returns-in-Ok-Share-clause-put g c = plan_put (plan_of (texts c.args.words.now))
    (OfRam (plan_for SharedRun c.in-Ok-Share.booted)) _ _ _
    (rw c.in-Ok-Share.field-0-is at c.in-Ok-Share.ensures.plan) c.run_script.ensures.put

pub returns-in-Ok-Share-clause-asked : goal.returns-in-Ok-Share-clause-asked
returns-in-Ok-Share-clause-asked g c = plan_fails (plan_of (texts c.args.words.now))
    (OfRam (plan_for SharedRun c.in-Ok-Share.booted)) _ _ _
    (rw c.in-Ok-Share.field-0-is at c.in-Ok-Share.ensures.plan) c.run_script.ensures.asked

pub returns-in-Ok-Ram-clause-unread : goal.returns-in-Ok-Ram-clause-unread
returns-in-Ok-Ram-clause-unread g c = any_unread (plan_of (texts c.args.words.now)) _ _ _ c.do_command.ensures.unread

pub returns-in-Ok-Blk-clause-unread : goal.returns-in-Ok-Blk-clause-unread
returns-in-Ok-Blk-clause-unread g c = plan_unread (plan_of (texts c.args.words.now)) (OfBlk c.in-Ok-Blk.layout) _ _ _
    (rw c.in-Ok-Blk.field-0-is at c.in-Ok-Blk.ensures.plan) c.run_blk_script.ensures.unread

pub returns-in-Ok-Move-clause-unread : goal.returns-in-Ok-Move-clause-unread
returns-in-Ok-Move-clause-unread g c = any_unread (plan_of (texts c.args.words.now)) _ _ _ c.move_image.ensures.unread

pub returns-in-Ok-Share-clause-unread : goal.returns-in-Ok-Share-clause-unread
returns-in-Ok-Share-clause-unread g c = any_unread (plan_of (texts c.args.words.now)) _ _ _ c.run_script.ensures.unread

pub returns-in-Err-clause-unread : goal.returns-in-Err-clause-unread
returns-in-Err-clause-unread g c = any_unread (plan_of (texts c.args.words.now)) _ _ _ (inl (refl, refl))

pub returns-in-Ok-Move-clause-takes : goal.returns-in-Ok-Move-clause-takes
returns-in-Ok-Move-clause-takes g c = plan_takes (plan_of (texts c.args.words.now))
    (OfMove (move_for c.in-Ok-Move.from c.in-Ok-Move.to)) _ _ _
    (rw c.in-Ok-Move.field-0-is at c.in-Ok-Move.ensures.plan) tt

pub returns-in-Err-clause-takes : goal.returns-in-Err-clause-takes
returns-in-Err-clause-takes g c = takes_silent (plan_of (texts c.args.words.now)) _ _ (Err c.in-Err.stop) refl

pub returns-in-Ok-Share-clause-takes : goal.returns-in-Ok-Share-clause-takes
returns-in-Ok-Share-clause-takes g c = plan_takes (plan_of (texts c.args.words.now))
    (OfRam (plan_for SharedRun c.in-Ok-Share.booted)) _ _ _
    (rw c.in-Ok-Share.field-0-is at c.in-Ok-Share.ensures.plan) tt
