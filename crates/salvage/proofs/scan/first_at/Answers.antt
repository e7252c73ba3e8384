-- A shape with no ring here is passed, and one with a ring is the first. For `first_at`.
use Rattle.std.proofs.Common.{◌*◌, ◌∙◌, sym}
use Rattle.salvage_spec.specs.Rings.{ring_at}
use Rattle.salvage.proofs.ScanRest.{passed, found_one, ended}
use Rattle.salvage.proofs.scan.first_at.Goals as goal

pub loop-index-preserved : goal.loop-index-preserved
loop-index-preserved c =
    c.loop-index.invariant ∙ passed (ring_at c.args.dump.now (2 * c.args.place)) c.args.shapes.now c.loop-index.index
    c.index-shapes-index.result c.loop-index-test.true c.index-shapes-index.is
    (sym c.ring_at.ensures ∙ c.in_default.is)

pub returns-in-Some-clause-first : goal.returns-in-Some-clause-first
returns-in-Some-clause-first c =
    c.loop-index.invariant ∙ found_one (ring_at c.args.dump.now (2 * c.args.place)) c.args.shapes.now c.loop-index.index
    c.index-shapes-index.result c.in-Some.ring c.loop-index-test.true c.index-shapes-index.is
    (sym c.ring_at.ensures ∙ c.in-Some.is)

pub returns-clause-first : goal.returns-clause-first
returns-clause-first c =
    c.loop-index.invariant ∙ ended (ring_at c.args.dump.now (2 * c.args.place)) c.args.shapes.now c.loop-index.index
    c.loop-index-test.false
