-- A place with no ring is passed, and one with a ring has the first. For `first_from`.
use Rattle.std.proofs.Common.{ℕ, ◌∷◌, ◌+◌, ◌∙◌, ap, sym, arith}
use Rattle.salvage.specs.Scans.{rings_from}
use Rattle.salvage.proofs.ScanRest.{next_place, here, past_end}
use Rattle.salvage.proofs.scan.first_from.Goals as goal

pub loop-present-preserved : goal.loop-present-preserved
loop-present-preserved c =
    c.loop-present.invariant ∙ next_place c.args.dump.now c.args.shapes.now c.loop-present.present c.loop-present.start
    c.in-None.ensures.first

pub returns-in-Some-clause-first : goal.returns-in-Some-clause-first
returns-in-Some-clause-first c =
    c.loop-present.invariant ∙ here c.args.dump.now c.args.shapes.now c.loop-present.present c.loop-present.start
    c.in-Some.hit.index c.in-Some.hit.ring (omega (arith, c.places-present-end.ensures, c.loop-present-test.true))
    c.in-Some.ensures.first
    ∙ ap (λ (i : ℕ). c.in-Some.hit.ring ∷ rings_from c.args.dump.now c.args.shapes.now i (c.in-Some.hit.index + 1))
    (sym c.in-Some.ensures.place.0)

pub returns-clause-first : goal.returns-clause-first
returns-clause-first c =
    c.loop-present.invariant ∙ past_end c.args.dump.now c.args.shapes.now c.loop-present.present c.loop-present.start
    (omega (arith, c.places-present-end.ensures, c.loop-present-test.false))
