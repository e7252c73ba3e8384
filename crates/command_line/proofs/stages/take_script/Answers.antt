-- A piece more is taken. For the loop of `take_script`.
use Rattle.std.proofs.Common.{ℕ, List, ◌++◌, take, length-append, length-take, ◌∙◌, arith}
use Rattle.command_line.proofs.SourceParts.{consumed}
use Rattle.command_line.proofs.stages.take_script.Goals as goal

pub pieces-preserved : goal.pieces-preserved
pieces-preserved g c =
    let inv = c.pieces.invariant in
    let so_far = inv.1 in
    let piece : List ℕ = take c.in-Ok.count c.take.new.into in (
      omega (arith, inv.0, c.if-count-len.false),
      record {
        given = so_far.given ++ piece;
        taken = c.in_ok-take.ensures so_far.given so_far.taken;
        count = omega (
          arith,
          so_far.count,
          length-append so_far.given piece,
          length-take c.in-Ok.count c.take.new.into,
          c.in-Ok.ensures.bound.0,
        );
        from = consumed _ _ _ so_far.given piece so_far.from c.in-Ok.ensures.bytes.0;
      },
      c.in-Ok.ensures.cause.done ∙ inv.2,
    )
