-- On a loaded store a shown, an empty and a `boot` line are done as defined; lines of other
-- scripts are refused. For `do_loaded`.
use Rattle.std.proofs.Common.{Some, subst, arith}
use Rattle.blk_spec.specs.declared.BlkLayout.{BlkLayout}
use Rattle.blk_session.specs.Lines.{LineDone}
use Rattle.blk_session.proofs.OtherLines.{blank_line, boot_line, elsewhere, is_elsewhere}
use Rattle.blk_spec.specs.Answers.{Device, device}
use Rattle.blk_session.proofs.lines.do_loaded.Goals as goal

pub returns-in-Ok-show-clause-done : goal.returns-in-Ok-show-clause-done
returns-in-Ok-show-clause-done g c =
    let a : Device = device (g.S.Load.holds c.args.store.now) (g.S.Load.writes c.args.store.now)
    (g.S.Load.read_faults c.args.store.now) in
    subst (λ (l : BlkLayout). LineDone l (Some c.args.blk) c.args.line.now (Some c.args.blk) c.in-Ok-show.text.items
    a a) c.requires.loaded (c.in-Ok-show.ensures a 0)

pub returns : goal.returns
returns g c =
    let a : Device = device (g.S.Load.holds c.args.store.now) (g.S.Load.writes c.args.store.now)
    (g.S.Load.read_faults c.args.store.now) in
    record {
      loaded = tt;
      room = λ n h. h;
      later = omega arith;
      kept = λ other. omega arith;
      done = elsewhere c.args.layout (Some c.args.blk) c.args.line.now a
          (g.S.Load.faults c.args.store.now) (is_elsewhere c.args.line.now c.in_default.not-Blank c.in_default.not-Write
          c.in_default.not-Boot c.in_default.not-List c.in_default.not-Extract c.in_default.not-Erase
          c.in_default.not-KDump c.in_default.not-CutAfter);
    }

pub returns-in-Blank-clause-done : goal.returns-in-Blank-clause-done
returns-in-Blank-clause-done g c = blank_line c.args.layout (Some c.args.blk) c.args.line.now c.new.result.items _
    c.in-Blank.is
    c.new.ensures.items

pub returns-in-Ok-clause-done : goal.returns-in-Ok-clause-done
returns-in-Ok-clause-done g c =
    boot_line c.args.layout (Some c.args.blk) (Some c.in-Ok.blk) c.args.line.now c.new-in-Ok.result.items _ _
    c.in-Boot.is
    c.new-in-Ok.ensures.items (c.in-Ok.ensures.done (Some c.args.blk) c.requires.loaded)
