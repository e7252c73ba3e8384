-- Each block adds what it shows. For `scan`.
use Rattle.std.proofs.Common.{◌∙◌, ◌+◌, ℕ, List, sym, subst, arith}
use Rattle.std.specs.Prelude.{Option}
use Rattle.storage_report.specs.Pieces.{IsPieceOf}
use Rattle.storage_report.proofs.Pieces.{IsSeenTo, more, all, all_marks, enough}
use Rattle.storage_report.proofs.scanning.scan.Goals as goal

pub returns-then-is_decided-clause-machine : goal.returns-then-is_decided-clause-machine
returns-then-is_decided-clause-machine g c =
    let held = g.M.Load.holds c.args.image.now in
    let i = c.loop-block.block in
    let piece : IsPieceOf held c.reach.new.self =
    subst (λ (o : Option (List ℕ)). IsPieceOf o c.reach.new.self) c.loop-block.invariant.held
    c.in_ok-reach.ensures.piece in
    let seen : IsSeenTo held c.args.total (i + 1) c.add.new.self =
    more held c.args.total i c.block.result.now c.loop-block.seen c.add.new.self (omega arith) c.requires
    (c.block.ensures held piece) c.in_ok-add.ensures.order c.in_ok-add.ensures.shown c.in_ok-add.ensures.marks
    c.loop-block.invariant.seen in
    enough held c.args.total (i + 1) c.add.new.self (sym c.is_decided.ensures ∙ c.if-is_decided.true) seen

pub loop-block-preserved : goal.loop-block-preserved
loop-block-preserved g c =
    let held = g.M.Load.holds c.args.image.now in
    let piece : IsPieceOf held c.reach.new.self =
    subst (λ (o : Option (List ℕ)). IsPieceOf o c.reach.new.self) c.loop-block.invariant.held
    c.in_ok-reach.ensures.piece in
    record {
      held = c.in_ok-reach.ensures.same ∙ c.loop-block.invariant.held;
      faults = c.in_ok-reach.ensures.done ∙ c.loop-block.invariant.faults;
      piece = piece;
      seen = more held c.args.total c.loop-block.block c.block.result.now c.loop-block.seen c.add.new.self (omega arith)
          c.requires (c.block.ensures held piece) c.in_ok-add.ensures.order c.in_ok-add.ensures.shown
          c.in_ok-add.ensures.marks c.loop-block.invariant.seen;
    }

pub returns-clause-machine : goal.returns-clause-machine
returns-clause-machine g c =
    all (g.M.Load.holds c.args.image.now) c.args.total c.loop-block.block c.loop-block.seen (omega arith) c.requires
    c.loop-block.invariant.seen

pub returns-clause-marks : goal.returns-clause-marks
returns-clause-marks g c = λ whole.
    all_marks (g.M.Load.holds c.args.image.now) c.args.total c.loop-block.block c.loop-block.seen (omega arith)
    c.requires
    c.loop-block.invariant.seen
