-- Logs, reports and told lists of the first `i` zones are taken. For the loop of `prepare`.
use Rattle.std.proofs.Common.{length}
use Rattle.ramoops_layout.specs.Laid.{zones_of}
use Rattle.ramoops.specs.OffSeen.{known_all}
use Rattle.ramoops.specs.Booting.{PreparesTo}
use Rattle.ramoops.proofs.booting.prepare.Given as goal

abbrev pub invariant-loop-i : goal.invariant-loop-i
invariant-loop-i l = PreparesTo (zones_of l.layout) l.spans.spans
    (known_all (length (zones_of l.layout)) l.known) l.i l.prepared
