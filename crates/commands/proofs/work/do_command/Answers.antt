-- Each arm of `do_command` has done its command's work, and printed no more than that. `WorkEnds`
-- turns what an arm promises into it.
use Rattle.std.proofs.Common.{refl, arith, inl, inr}
use Rattle.command_spec.specs.Commands.{ShowLayout as ShowLayoutOf, Blank as BlankOf}
use Rattle.command_line.specs.Words.{plan_for}
use Rattle.command_line.specs.declared.words.RamCommand.TheVariants.{Run, ListRecords, Extract, Erase, ShowLayout}
use Rattle.command_line.specs.declared.words.RamCommand.TheVariants.{Blank, Make, Salvage, Rescue}
use Rattle.commands.proofs.WorkEnds.{arm_done, kept_same, count_same, layout_shown, blank_left}
use Rattle.commands.proofs.Due.{arm_put, none_put}
use Rattle.commands.proofs.ImageFaults.{arm_fails}
use Rattle.commands.proofs.Taking.{arm_takes}
use Rattle.commands.proofs.work.do_command.Goals as goal

pub returns-in-Run-clause-work : goal.returns-in-Run-clause-work
returns-in-Run-clause-work g c = arm_done _ Run c.args.layout _ _ _ c.in-Run.is c.run_script.ensures.work

pub returns-in-ListRecords-clause-work : goal.returns-in-ListRecords-clause-work
returns-in-ListRecords-clause-work g c = arm_done _ ListRecords c.args.layout _ _ _ c.in-ListRecords.is (record {
  later = record { source = omega arith; store = c.list.ensures.later.0; sink = c.list.ensures.later.1 };
  caused = c.list.ensures.caused _ _;
  counts = record {
    source = count_same _ _ _ _ refl;
    store = c.list.ensures.image_count;
    sink = c.list.ensures.out_count;
  };
  kept = λ w. kept_same _ _ _ c.list.ensures.same;
  asks = c.list.ensures.unwritten;
  ended = c.list.ensures.ended _ _;
})

pub returns-in-Extract-clause-work : goal.returns-in-Extract-clause-work
returns-in-Extract-clause-work g c = arm_done _ (Extract c.in-Extract.name) c.args.layout _ _ _ c.in-Extract.is
    (record {
      later = record { source = omega arith; store = c.extract.ensures.later.0; sink = c.extract.ensures.later.1 };
      caused = c.extract.ensures.caused _ _;
      counts = record {
        source = count_same _ _ _ _ refl;
        store = c.extract.ensures.image_count;
        sink = c.extract.ensures.out_count;
      };
      kept = λ w. kept_same _ _ _ c.extract.ensures.same;
      asks = c.extract.ensures.unwritten;
      ended = c.extract.ensures.ended _ _;
    })

pub returns-in-Erase-clause-work : goal.returns-in-Erase-clause-work
returns-in-Erase-clause-work g c = arm_done _ (Erase c.in-Erase.name) c.args.layout _ _ _ c.in-Erase.is (record {
  later = record { source = omega arith; store = c.erase.ensures.later; sink = omega arith };
  caused = c.erase.ensures.caused _ _ _ _;
  counts = record {
    source = count_same _ _ _ _ refl;
    store = c.erase.ensures.image_count;
    sink = count_same _ _ _ _ refl;
  };
  kept = λ w. c.erase.ensures.kept;
  asks = c.erase.ensures.asks;
  ended = c.erase.ensures.ended _ _ _ _;
})

pub returns-in-ShowLayout-clause-work : goal.returns-in-ShowLayout-clause-work
returns-in-ShowLayout-clause-work g c = arm_done _ ShowLayout c.args.layout _ _ _ c.in-ShowLayout.is (record {
  later = record { source = omega arith; store = omega arith; sink = c.show_layout.ensures.later };
  caused = c.show_layout.ensures.caused _ _ _ _;
  counts = record {
    source = count_same _ _ _ _ refl;
    store = count_same _ _ _ _ refl;
    sink = c.show_layout.ensures.out_count;
  };
  kept = λ w. kept_same _ _ _ refl;
  asks = refl;
  ended = layout_shown (plan_for ShowLayoutOf c.args.layout) _ _ _ refl (record { left = refl; source = refl })
      (record { holds = refl; store = refl }) c.show_layout.ensures.can (c.show_layout.ensures.ended _);
})

pub returns-in-Blank-clause-work : goal.returns-in-Blank-clause-work
returns-in-Blank-clause-work g c = arm_done _ Blank c.args.layout _ _ _ c.in-Blank.is (record {
  later = record { source = omega arith; store = c.blank.ensures.later; sink = omega arith };
  caused = c.blank.ensures.caused _ _ _ _;
  counts = record {
    source = count_same _ _ _ _ refl;
    store = c.blank.ensures.image_count;
    sink = count_same _ _ _ _ refl;
  };
  kept = λ w. c.blank.ensures.kept;
  asks = (c.blank.ensures.asks, c.blank.ensures.asked);
  ended = blank_left (plan_for BlankOf c.args.layout) c.mem.result _ _ _ c.mem.ensures refl
      (record { left = refl; source = refl }) refl c.blank.ensures.can (c.blank.ensures.ended _)
      c.blank.ensures.written;
})

pub returns-in-Make-clause-work : goal.returns-in-Make-clause-work
returns-in-Make-clause-work g c = arm_done _ (Make c.in-Make.n) c.args.layout _ _ _ c.in-Make.is (record {
  later = record { source = omega arith; store = c.make.ensures.later.0; sink = c.make.ensures.later.1 };
  caused = c.make.ensures.caused _ _;
  counts = record {
    source = count_same _ _ _ _ refl;
    store = c.make.ensures.image_count;
    sink = c.make.ensures.out_count;
  };
  kept = λ w. c.make.ensures.kept;
  asks = (c.make.ensures.asks, c.make.ensures.asked);
  ended = c.make.ensures.ended _ _;
})

pub returns-in-Salvage-clause-work : goal.returns-in-Salvage-clause-work
returns-in-Salvage-clause-work g c = arm_done _ Salvage c.args.layout _ _ _ c.in-Salvage.is (record {
  later = record { source = omega arith; store = c.salvage.ensures.later.0; sink = c.salvage.ensures.later.1 };
  caused = c.salvage.ensures.caused _ _;
  counts = record {
    source = count_same _ _ _ _ refl;
    store = c.salvage.ensures.image_count;
    sink = c.salvage.ensures.out_count;
  };
  kept = λ w. kept_same _ _ _ c.salvage.ensures.same;
  asks = c.salvage.ensures.unwritten;
  ended = c.salvage.ensures.ended _ _;
})

pub returns-in-Rescue-clause-work : goal.returns-in-Rescue-clause-work
returns-in-Rescue-clause-work g c = arm_done _ (Rescue c.in-Rescue.at c.in-Rescue.name) c.args.layout _ _ _
    c.in-Rescue.is (record {
      later = record { source = omega arith; store = c.rescue.ensures.later.0; sink = c.rescue.ensures.later.1 };
      caused = c.rescue.ensures.caused _ _;
      counts = record {
        source = count_same _ _ _ _ refl;
        store = c.rescue.ensures.image_count;
        sink = c.rescue.ensures.out_count;
      };
      kept = λ w. kept_same _ _ _ c.rescue.ensures.same;
      asks = c.rescue.ensures.unwritten;
      ended = c.rescue.ensures.ended _ _;
    })

pub returns-in-Run-clause-put : goal.returns-in-Run-clause-put
returns-in-Run-clause-put g c = arm_put _ Run _ _ _ c.in-Run.is c.run_script.ensures.put

pub returns-in-ListRecords-clause-put : goal.returns-in-ListRecords-clause-put
returns-in-ListRecords-clause-put g c = arm_put _ ListRecords _ _ _ c.in-ListRecords.is c.list.ensures.put

pub returns-in-Extract-clause-put : goal.returns-in-Extract-clause-put
returns-in-Extract-clause-put g c = arm_put _ (Extract c.in-Extract.name) _ _ _ c.in-Extract.is c.extract.ensures.put

pub returns-in-Erase-clause-put : goal.returns-in-Erase-clause-put
returns-in-Erase-clause-put g c = arm_put _ (Erase c.in-Erase.name) _ _ _ c.in-Erase.is (none_put _ _ _ refl)

pub returns-in-ShowLayout-clause-put : goal.returns-in-ShowLayout-clause-put
returns-in-ShowLayout-clause-put g c = arm_put _ ShowLayout _ _ _ c.in-ShowLayout.is c.show_layout.ensures.put

pub returns-in-Blank-clause-put : goal.returns-in-Blank-clause-put
returns-in-Blank-clause-put g c = arm_put _ Blank _ _ _ c.in-Blank.is (none_put _ _ _ refl)

pub returns-in-Make-clause-put : goal.returns-in-Make-clause-put
returns-in-Make-clause-put g c = arm_put _ (Make c.in-Make.n) _ _ _ c.in-Make.is c.make.ensures.put

pub returns-in-Salvage-clause-put : goal.returns-in-Salvage-clause-put
returns-in-Salvage-clause-put g c = arm_put _ Salvage _ _ _ c.in-Salvage.is c.salvage.ensures.put

pub returns-in-Rescue-clause-put : goal.returns-in-Rescue-clause-put
returns-in-Rescue-clause-put g c = arm_put _ (Rescue c.in-Rescue.at c.in-Rescue.name) _ _ _ c.in-Rescue.is
    c.rescue.ensures.put

pub returns-in-Run-clause-asked : goal.returns-in-Run-clause-asked
returns-in-Run-clause-asked g c = arm_fails _ Run c.args.layout _ _ _ c.in-Run.is c.run_script.ensures.asked

pub returns-in-ListRecords-clause-asked : goal.returns-in-ListRecords-clause-asked
returns-in-ListRecords-clause-asked g c = arm_fails _ ListRecords c.args.layout _ _ _ c.in-ListRecords.is tt

pub returns-in-Extract-clause-asked : goal.returns-in-Extract-clause-asked
returns-in-Extract-clause-asked g c = arm_fails _ (Extract c.in-Extract.name) c.args.layout _ _ _ c.in-Extract.is tt

pub returns-in-Erase-clause-asked : goal.returns-in-Erase-clause-asked
returns-in-Erase-clause-asked g c = arm_fails _ (Erase c.in-Erase.name) c.args.layout _ _ _ c.in-Erase.is tt

pub returns-in-ShowLayout-clause-asked : goal.returns-in-ShowLayout-clause-asked
returns-in-ShowLayout-clause-asked g c = arm_fails _ ShowLayout c.args.layout _ _ _ c.in-ShowLayout.is tt

pub returns-in-Blank-clause-asked : goal.returns-in-Blank-clause-asked
returns-in-Blank-clause-asked g c = arm_fails _ Blank c.args.layout _ _ _ c.in-Blank.is tt

pub returns-in-Make-clause-asked : goal.returns-in-Make-clause-asked
returns-in-Make-clause-asked g c = arm_fails _ (Make c.in-Make.n) c.args.layout _ _ _ c.in-Make.is tt

pub returns-in-Salvage-clause-asked : goal.returns-in-Salvage-clause-asked
returns-in-Salvage-clause-asked g c = arm_fails _ Salvage c.args.layout _ _ _ c.in-Salvage.is tt

pub returns-in-Rescue-clause-asked : goal.returns-in-Rescue-clause-asked
returns-in-Rescue-clause-asked g c = arm_fails _ (Rescue c.in-Rescue.at c.in-Rescue.name) c.args.layout _ _ _
    c.in-Rescue.is tt

pub returns-in-Run-clause-unread : goal.returns-in-Run-clause-unread
returns-in-Run-clause-unread g c = c.run_script.ensures.unread

pub returns-in-ListRecords-clause-unread : goal.returns-in-ListRecords-clause-unread
returns-in-ListRecords-clause-unread g c = inl (c.list.ensures.same, c.list.ensures.unwritten)

pub returns-in-Extract-clause-unread : goal.returns-in-Extract-clause-unread
returns-in-Extract-clause-unread g c = inl (c.extract.ensures.same, c.extract.ensures.unwritten)

pub returns-in-Erase-clause-unread : goal.returns-in-Erase-clause-unread
returns-in-Erase-clause-unread g c = c.erase.ensures.unread

pub returns-in-ShowLayout-clause-unread : goal.returns-in-ShowLayout-clause-unread
returns-in-ShowLayout-clause-unread g c = inl (refl, refl)

pub returns-in-Blank-clause-unread : goal.returns-in-Blank-clause-unread
returns-in-Blank-clause-unread g c = inr c.blank.ensures.unread

pub returns-in-Make-clause-unread : goal.returns-in-Make-clause-unread
returns-in-Make-clause-unread g c = inr c.make.ensures.unread

pub returns-in-Salvage-clause-unread : goal.returns-in-Salvage-clause-unread
returns-in-Salvage-clause-unread g c = inl (c.salvage.ensures.same, c.salvage.ensures.unwritten)

pub returns-in-Rescue-clause-unread : goal.returns-in-Rescue-clause-unread
returns-in-Rescue-clause-unread g c = inl (c.rescue.ensures.same, c.rescue.ensures.unwritten)

pub returns-in-Run-clause-takes : goal.returns-in-Run-clause-takes
returns-in-Run-clause-takes g c = arm_takes _ Run c.args.layout _ _ _ c.in-Run.is c.run_script.ensures.takes

pub returns-in-ListRecords-clause-takes : goal.returns-in-ListRecords-clause-takes
returns-in-ListRecords-clause-takes g c = arm_takes _ ListRecords c.args.layout _ _ _ c.in-ListRecords.is tt

pub returns-in-Extract-clause-takes : goal.returns-in-Extract-clause-takes
returns-in-Extract-clause-takes g c = arm_takes _ (Extract c.in-Extract.name) c.args.layout _ _ _ c.in-Extract.is tt

pub returns-in-Erase-clause-takes : goal.returns-in-Erase-clause-takes
returns-in-Erase-clause-takes g c = arm_takes _ (Erase c.in-Erase.name) c.args.layout _ _ _ c.in-Erase.is tt

pub returns-in-ShowLayout-clause-takes : goal.returns-in-ShowLayout-clause-takes
returns-in-ShowLayout-clause-takes g c = arm_takes _ ShowLayout c.args.layout _ _ _ c.in-ShowLayout.is tt

pub returns-in-Blank-clause-takes : goal.returns-in-Blank-clause-takes
returns-in-Blank-clause-takes g c = arm_takes _ Blank c.args.layout _ _ _ c.in-Blank.is tt

pub returns-in-Make-clause-takes : goal.returns-in-Make-clause-takes
returns-in-Make-clause-takes g c = arm_takes _ (Make c.in-Make.n) c.args.layout _ _ _ c.in-Make.is tt

pub returns-in-Salvage-clause-takes : goal.returns-in-Salvage-clause-takes
returns-in-Salvage-clause-takes g c = arm_takes _ Salvage c.args.layout _ _ _ c.in-Salvage.is tt

pub returns-in-Rescue-clause-takes : goal.returns-in-Rescue-clause-takes
returns-in-Rescue-clause-takes g c = arm_takes _ (Rescue c.in-Rescue.at c.in-Rescue.name) c.args.layout _ _ _
    c.in-Rescue.is tt
