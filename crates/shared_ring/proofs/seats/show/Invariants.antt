-- The calls shown are those of the first seats. For the loop of `show`.
use Rattle.std.proofs.Common.{◌≡◌, map, take}
use Rattle.shared_ring.specs.Seats.{shown_seat}
use Rattle.shared_ring.proofs.seats.show.Given as goal

abbrev pub invariant-loop-seat : goal.invariant-loop-seat
invariant-loop-seat l = l.calls.items ≡ map shown_seat (take l.seat-index l.seats)
