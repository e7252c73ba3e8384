-- The logs of the zones so far are merged. For the loop of `all_traces`.
use Rattle.std.proofs.Common.{take}
use Rattle.psz_spec.specs.Records.{traces_of}
use Rattle.storage_zones.specs.Steps.{AreMerged}
use Rattle.storage_zones.proofs.traces.all_traces.Given as goal

abbrev pub invariant-loop-zone : goal.invariant-loop-zone
invariant-loop-zone l = AreMerged (traces_of l.machine l.image (take l.zone-index l.zones)) l.traces
