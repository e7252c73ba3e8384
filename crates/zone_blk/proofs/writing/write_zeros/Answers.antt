-- Zeros written in pieces make the zeros' writes up to the zone's end; a failed piece leaves those
-- before it. For `write_zeros`.
use Rattle.std.proofs.Common.{◌≡◌, ◌∙◌, arith, ◌+◌, ◌-◌, min, replicate, subst, List, ℕ}
use Rattle.std.proofs.lemmas.List.{take-replicate}
use Rattle.blk_spec.specs.Answers.{Device, device, Makes, FailsWithin}
use Rattle.zone_blk.specs.Outcomes.{one_write}
use Rattle.zone_blk.proofs.Sequences.{zeros-begin, zeros-more, zeros-fail, zeros-end}
use Rattle.zone_blk.proofs.writing.write_zeros.Goals as goal

pub pieces-init : goal.pieces-init
pieces-init g c = record {
  from = omega arith;
  inside = omega arith;
  room = c.requires.room;
  made = zeros-begin 65536 c.args.from (c.args.zone.at + c.args.zone.size) c.args.cut.now _;
  kept = omega arith;
}

pub pieces-preserved : goal.pieces-preserved
pieces-preserved g c =
    let b : Device = device (g.M.Load.holds c.pieces.store) (g.M.Load.writes c.pieces.store)
    (g.M.Load.read_faults c.pieces.store) in
    let d : Device = device (g.M.Load.holds c.write.new.store) (g.M.Load.writes c.write.new.store)
    (g.M.Load.read_faults c.write.new.store) in
    let count : c.min-count.result ≡ min 65536 (c.args.zone.at + c.args.zone.size - c.pieces.at) =
    omega (arith, c.min-count.ensures, c.pieces.invariant.inside) in
    let piece : Makes (one_write c.pieces.at (replicate c.min-count.result 0))
    (one_write c.pieces.at (replicate c.min-count.result 0)) c.pieces.cut c.write.new.cut b d =
    subst (λ (bs : List ℕ). Makes (one_write c.pieces.at bs) (one_write c.pieces.at bs) c.pieces.cut c.write.new.cut
    b d) (take-replicate c.min-count.result 65536 0 (omega (arith, c.min-count.ensures))) c.in-Ok.ensures.ends in
    record {
      from = omega (arith, c.pieces.invariant.from);
      inside = omega (arith, c.min-count.ensures, c.pieces.invariant.inside);
      room = c.in-Ok.ensures.room;
      made = zeros-more 65536 c.args.from c.pieces.at (c.args.zone.at + c.args.zone.size) c.min-count.result
          c.args.cut.now c.pieces.cut c.write.new.cut _ b d (omega arith) c.pieces-test.true count
          c.pieces.invariant.made _ (omega arith) piece;
      kept = c.in-Ok.ensures.cause.done ∙ c.pieces.invariant.kept;
    }

pub returns-in-Err-clause-ends : goal.returns-in-Err-clause-ends
returns-in-Err-clause-ends g c =
    let b : Device = device (g.M.Load.holds c.pieces.store) (g.M.Load.writes c.pieces.store)
    (g.M.Load.read_faults c.pieces.store) in
    let d : Device = device (g.M.Load.holds c.write.new.store) (g.M.Load.writes c.write.new.store)
    (g.M.Load.read_faults c.write.new.store) in
    let count : c.min-count.result ≡ min 65536 (c.args.zone.at + c.args.zone.size - c.pieces.at) =
    omega (arith, c.min-count.ensures, c.pieces.invariant.inside) in
    let piece : FailsWithin (one_write c.pieces.at (replicate c.min-count.result 0))
    (one_write c.pieces.at (replicate c.min-count.result 0)) c.pieces.cut c.write.new.cut b d =
    subst (λ (bs : List ℕ). FailsWithin (one_write c.pieces.at bs) (one_write c.pieces.at bs) c.pieces.cut
    c.write.new.cut b d) (take-replicate c.min-count.result 65536 0 (omega (arith, c.min-count.ensures)))
    c.in-Err.ensures.ends in
    zeros-fail 65536 c.args.from c.pieces.at (c.args.zone.at + c.args.zone.size) c.min-count.result
    c.args.cut.now c.pieces.cut c.write.new.cut _ b d (omega arith) c.pieces-test.true count
    c.pieces.invariant.made piece

pub returns-clause-ends : goal.returns-clause-ends
returns-clause-ends g c =
    zeros-end 65536 c.args.from c.pieces.at (c.args.zone.at + c.args.zone.size) c.args.cut.now c.pieces.cut _ _
    (omega arith) (omega (arith, c.pieces-test.false)) c.pieces.invariant.made
