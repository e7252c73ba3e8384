-- A line on. For `below`.
use Rattle.std.proofs.Common.{◌≡◌, ◌-◌, ℕ, suc, ap, sym, ◌∙◌, arith}
use Rattle.report_spec.specs.Excerpts.{below}
use Rattle.region_report.proofs.Places.{below-none, below-next}
use Rattle.region_report.proofs.excerpts.below.Goals as goal

pub lines-preserved : goal.lines-preserved
lines-preserved c =
    let left : ℕ = c.lines.left in
    let test = c.lines-test.true in
    ap (λ (p : ℕ). below c.args.text.now p (left - 1)) c.next_place-place.ensures
    ∙ sym (below-next c.args.text.now c.lines.place left (left - 1) (let e : left ≡ suc (left - 1) = omega (arith, test) in e))
    ∙ c.lines.invariant

pub returns : goal.returns
returns c =
    let test = c.lines-test.false in
    sym (below-none c.args.text.now c.lines.place)
    ∙ ap (λ (n : ℕ). below c.args.text.now c.lines.place n) (let e : 0 ≡ c.lines.left = omega (arith, test) in e)
    ∙ c.lines.invariant
