-- The places of the regions so far
use Rattle.std.proofs.Common.{◌≡◌, take, string_bytes}
use Rattle.report_run.specs.Places.{places_text}
use Rattle.report_run.proofs.places.places_text.Given as goal

abbrev pub invariant-loop-region : goal.invariant-loop-region
invariant-loop-region l = string_bytes l.text ≡ places_text l.base (take l.region-index l.regions)
