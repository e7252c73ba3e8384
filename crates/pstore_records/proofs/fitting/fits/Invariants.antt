-- The record fits as far as the first `i` zones go. For the loop of `fits`.
use Rattle.std.proofs.Common.{◌≡◌, true, take}
use Rattle.ramoops_layout.specs.Laid.{zones_of}
use Rattle.machine_spec.specs.Moved.{fits}
use Rattle.prz_read.specs.Saving.{saved}
use Rattle.pstore_records.proofs.fitting.fits.Given as goal

abbrev pub invariant-loop-i : goal.invariant-loop-i
invariant-loop-i l = fits (zones_of l.layout) (take l.i (saved l.logs)) l.name ≡ true
