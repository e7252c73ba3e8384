-- The first 52 bytes have the words and the header. For `front_is_enough`.
use Rattle.std.proofs.Common.{take}
use Rattle.psz_read.proofs.Fronts.{front_same, state_same, fault_same, part_same, cursor_same}
use Rattle.psz_read.proofs.laws.front_is_enough.Goals as goal

pub returns-clause-state : goal.returns-clause-state
returns-clause-state c =
    λ machine z bytes n h. state_same machine z (take n bytes) bytes (front_same machine n bytes h)

pub returns-clause-fault : goal.returns-clause-fault
returns-clause-fault c =
    λ machine z bytes n h. fault_same machine z (take n bytes) bytes (front_same machine n bytes h)

pub returns-clause-part : goal.returns-clause-part
returns-clause-part c =
    λ machine z bytes n h. part_same machine z (take n bytes) bytes (front_same machine n bytes h)

pub returns-clause-cursor : goal.returns-clause-cursor
returns-clause-cursor c =
    λ machine z bytes n k h. cursor_same machine z (take n bytes) bytes k (front_same machine n bytes h)
