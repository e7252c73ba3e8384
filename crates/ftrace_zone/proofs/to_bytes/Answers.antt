-- One entry's three words more lengthen the bytes. For the loop of `to_bytes`.
use Rattle.ftrace_zone.proofs.Words.{bytes-more}
use Rattle.ftrace_zone.proofs.to_bytes.Goals as goal

pub loop-entry-preserved : goal.loop-entry-preserved
loop-entry-preserved c =
    rw (
      c.in_ok-extend_from_slice-3.ensures.items,
      c.in_ok-extend_from_slice-2.ensures.items,
      c.in_ok-extend_from_slice.ensures.items,
      c.to_le_bytes-in-loop-entry-2.ensures,
      c.to_le_bytes-in-loop-entry.ensures,
      c.to_le_bytes.ensures,
    )
    (bytes-more c.loop-entry.bytes.items c.as_slice-entries.result.now c.loop-entry.entry-index
    (record { addr = 0; parent = 0; word = 0 }) c.loop-entry.invariant c.loop-entry-test.true)
