-- On a store that isn't loaded only empty lines and `boot` are done. For `do_unloaded`.
use Rattle.std.proofs.Common.{None, Some, arith}
use Rattle.blk_session.proofs.OtherLines.{blank_line, boot_line, elsewhere, is_elsewhere}
use Rattle.blk_spec.specs.Answers.{Device, device}
use Rattle.blk_session.proofs.lines.do_unloaded.Goals as goal

pub returns-in_default : goal.returns-in_default
returns-in_default g c =
    let a : Device = device (g.S.Load.holds c.args.store.now) (g.S.Load.writes c.args.store.now)
    (g.S.Load.read_faults c.args.store.now) in
    record {
      loaded = tt;
      room = λ n h. h;
      later = omega arith;
      kept = λ other. omega arith;
      done = elsewhere c.args.layout None c.args.line.now a
          (g.S.Load.faults c.args.store.now) (is_elsewhere c.args.line.now c.in_default.not-Blank c.in_default.not-Write
          c.in_default.not-Boot c.in_default.not-List c.in_default.not-Extract c.in_default.not-Erase
          c.in_default.not-KDump c.in_default.not-CutAfter);
    }

pub returns-in-Blank-clause-done : goal.returns-in-Blank-clause-done
returns-in-Blank-clause-done g c = blank_line c.args.layout None c.args.line.now c.new.result.items _ c.in-Blank.is
    c.new.ensures.items

pub returns-in-Ok-clause-done : goal.returns-in-Ok-clause-done
returns-in-Ok-clause-done g c =
    boot_line c.args.layout None (Some c.in-Ok.blk) c.args.line.now c.new-in-Ok.result.items _ _ c.in-Boot.is
    c.new-in-Ok.ensures.items (c.in-Ok.ensures.done None tt)
