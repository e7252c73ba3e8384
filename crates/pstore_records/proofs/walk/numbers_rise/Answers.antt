-- A dump zone whose number is too low decides; any other raises the least number. For
-- `numbers_rise`.
use Rattle.std.proofs.Common.{◌<◌, length, sym, ◌∙◌, arith}
use Rattle.prz_read.specs.Saving.{saved}
use Rattle.pstore_records.proofs.OwnDumpZone.{rise-fails, rise-more, rise-passes, rise-ends}
use Rattle.pstore_records.proofs.walk.numbers_rise.Goals as goal
use Rattle.pstore_records.proofs.walk.numbers_rise.Goals.{then-is_kind+else-from-least, else-is_kind}

pub returns-then-from-least : goal.returns-then-from-least
returns-then-from-least c =
    let within : c.loop-i.i < length (saved c.args.logs.now) =
    omega (arith, c.len-i-end.ensures.saved, c.loop-i-test.true) in
    rise-fails (saved c.args.logs.now) c.loop-i.i c.loop-i.least c.name-name.result within c.name-name.ensures
    (sym c.is_kind.ensures ∙ c.if-is_kind.true) (omega (arith, c.from.ensures, c.if-from-least.true)) c.loop-i.invariant

pub loop-i-preserved : goal.loop-i-preserved
loop-i-preserved c =
    let within : c.loop-i.i < length (saved c.args.logs.now) =
    omega (arith, c.len-i-end.ensures.saved, c.loop-i-test.true) in
    elim c.if-is_kind.branch [
      | then-is_kind+else-from-least w ↦
          rise-more (saved c.args.logs.now) c.loop-i.i c.loop-i.least c.if-is_kind.least c.name-name.result within
          c.name-name.ensures (sym c.is_kind.ensures ∙ w.if-is_kind.true)
          (omega (arith, w.from.ensures, w.if-from-least.false)) (omega (arith, w.least-is, w.from-least.ensures))
          c.loop-i.invariant
      | else-is_kind w ↦
          rise-passes (saved c.args.logs.now) c.loop-i.i c.loop-i.least c.if-is_kind.least c.name-name.result within
          c.name-name.ensures (sym c.is_kind.ensures ∙ w.if-is_kind.false) w.least-is c.loop-i.invariant
    ]

pub returns : goal.returns
returns c = rise-ends (saved c.args.logs.now) c.loop-i.i c.loop-i.least
    (omega (arith, c.len-i-end.ensures.saved, c.loop-i-test.false)) c.loop-i.invariant
