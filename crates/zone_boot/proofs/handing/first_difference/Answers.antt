-- A byte that agrees needs no store. For the loop of `first_difference`.
use Rattle.std.proofs.Common.{◌≡◌, ℕ, ◌+◌, drop, ap, ◌∙◌, arith}
use Rattle.zone_spec.specs.Boot.{fix_stores}
use Rattle.zone_boot.proofs.PartFixes.{fix-same}
use Rattle.zone_boot.proofs.handing.first_difference.Goals as goal

pub loop-i-preserved : goal.loop-i-preserved
loop-i-preserved c = λ at.
    let i : ℕ = c.loop-i.i in
    c.loop-i.invariant at
    ∙ fix-same (at + i) i c.args.stands.now c.args.reads.now c.requires.same c.loop-i-test.true c.if-stands-i.false
    ∙ ap (λ (p : ℕ). fix_stores p (drop (i + 1) c.args.stands.now) (drop (i + 1) c.args.reads.now))
    (let e : at + i + 1 ≡ at + (i + 1) = omega arith in e)
