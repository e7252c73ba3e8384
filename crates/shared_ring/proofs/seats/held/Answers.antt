-- The oldest seat's first place lies in the ring. For `held`.
use Rattle.std.proofs.Common.{arith}
use Rattle.shared_ring.specs.Seats.{IsSeat}
use Rattle.shared_ring.proofs.SeatLists.{is_seat}
use Rattle.shared_ring.proofs.seats.held.Goals as goal

pub overflow_sub-start : goal.overflow_sub-start
overflow_sub-start c =
    let s : IsSeat c.args.cap c.oldest-item.result =
    is_seat c.args.cap c.args.seats.now 0 c.oldest-item.result c.requires.seats (omega arith) c.oldest-item.is in
    omega arith
