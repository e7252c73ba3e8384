-- The bytes copied from the dump are the zone's size, and read as the zone. For `read_place`.
use Rattle.std.proofs.Common.{◌≡◌, ℕ, List, length, ap, ◌∙◌, subst}
use Rattle.std.specs.Prelude.{IfOk}
use Rattle.zone_spec.specs.Reading.{zone_reading}
use Rattle.salvage.proofs.Ranges.{holds, length-bytes_at}
use Rattle.salvage.proofs.scan.read_place.Goals as goal

pub read_zone-requires-clause-size : goal.read_zone-requires-clause-size
read_zone-requires-clause-size c =
    ap (λ (s : List ℕ). length s) (holds c.args.zone.now c.args.dump.now c.args.at c.in_ok-probe.probe
    c.fill.new.self c.span.result.now c.requires.within c.in_ok-probe.ensures c.fill.ensures c.span.ensures)
    ∙ length-bytes_at c.args.zone.now c.args.dump.now c.args.at c.requires.within

pub returns : goal.returns
returns c =
    subst (λ (s : List ℕ). IfOk c.read_zone.result (λ r. r ≡ zone_reading c.args.zone.now s))
    (holds c.args.zone.now c.args.dump.now c.args.at c.in_ok-probe.probe c.fill.new.self c.span.result.now
    c.requires.within c.in_ok-probe.ensures c.fill.ensures c.span.ensures) c.read_zone.ensures
