-- What is read is the next piece, and its pages are added. For `marked_pages`.
use Rattle.std.proofs.Common.{◌≡◌, ◌+◌, ◌-◌, ◌≤◌, ◌%◌, ◌∙◌, ap, arith, length, take}
use Rattle.std.proofs.lemmas.List.{length-take, length-take-le}
use Rattle.memory_regions.proofs.NextPiece.{none_yet, piece_fits, next_piece, all_read, unread_since}
use Rattle.memory_regions.proofs.pages.marked_pages.Goals as goal

pub pieces-init : goal.pieces-init
pieces-init g c =
    let start : c.in-Ok.size - c.in-Ok.size ≡ 0 = omega arith in
    record {
      within = omega arith;
      whole = λ h. ap (λ n. n % 4096) start;
      room = c.in_ok-piece.ensures.len;
      holds = c.size.ensures.same;
      pages = rw (c.new-pages.ensures.items, start)
          (none_yet (g.M.Load.holds c.args.memory.now) c.in-Ok.size c.in-Ok.ensures.bytes);
      no_fault = c.in-Ok.ensures.cause.done;
    }

pub add_piece-requires : goal.add_piece-requires
add_piece-requires g c =
    let fits : c.in-Ok.size - c.pieces.left + length (take c.min-count.result c.deref_mut.result.now) ≤ c.in-Ok.size =
    omega (arith, length-take c.min-count.result c.deref_mut.result.now, c.min-count.ensures, c.pieces.invariant.within) in
    record {
      inside = rw c.pieces.invariant.holds (piece_fits (g.M.Load.holds c.args.memory.now) c.in-Ok.size
          (c.in-Ok.size - c.pieces.left) (length (take c.min-count.result c.deref_mut.result.now)) c.pieces.pages.items fits
          c.pieces.invariant.pages);
    }

pub pieces-preserved : goal.pieces-preserved
pieces-preserved g c =
    let few : c.min-count.result ≤ c.pieces.left = omega (arith, c.min-count.ensures) in
    let fits : c.in-Ok.size - c.pieces.left + c.min-count.result ≤ c.in-Ok.size =
    omega (arith, few, c.pieces.invariant.within) in
    let on : c.in-Ok.size - (c.pieces.left - c.min-count.result) ≡ c.in-Ok.size - c.pieces.left + c.min-count.result =
    omega (arith, few, c.pieces.invariant.within) in
    let inside : c.min-count.result ≤ length c.deref_mut.result.now =
    omega (arith, c.min-count.ensures, c.deref_mut.ensures.len, c.pieces.invariant.room) in
    record {
      within = omega (arith, c.pieces.invariant.within);
      whole = λ h. omega (
        arith,
        c.min-count.ensures,
        c.pieces.invariant.within,
        c.pieces.invariant.whole c.pieces-test.true,
        h,
      );
      room = c.pieces.invariant.room;
      holds = c.add_piece.ensures.same ∙ c.pieces.invariant.holds;
      pages = next_piece (g.M.Load.holds c.args.memory.now) (g.M.Load.holds c.pieces.memory) c.in-Ok.size
          (c.in-Ok.size - c.pieces.left) c.min-count.result
          (length (take c.min-count.result c.deref_mut.result.now)) _
          c.pieces.pages.items c.add_piece.new.pages.items c.pieces.invariant.holds
          (length-take-le c.min-count.result c.deref_mut.result.now inside) on fits
          (c.pieces.invariant.whole c.pieces-test.true) c.pieces.invariant.pages c.in-Ok-add_piece.ensures.ok;
      no_fault = c.in-Ok-add_piece.ensures.no_fault ∙ c.pieces.invariant.no_fault;
    }

pub returns-in-Err-clause-err : goal.returns-in-Err-clause-err
returns-in-Err-clause-err g c =
    unread_since c.in-Err.unread (g.M.Load.faults c.args.memory.now) (g.M.Load.faults c.pieces.memory)
    (g.M.Load.faults c.add_piece.new.memory) c.pieces.invariant.no_fault c.in-Err.ensures.err

pub returns-clause-ok : goal.returns-clause-ok
returns-clause-ok g c =
    all_read (g.M.Load.holds c.args.memory.now) c.in-Ok.size (c.in-Ok.size - c.pieces.left) c.pieces.pages.items
    (omega (arith, c.pieces-test.false)) c.pieces.invariant.pages
