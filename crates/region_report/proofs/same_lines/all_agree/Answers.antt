-- One byte more. For the loop of `all_agree`.
use Rattle.std.proofs.Common.{◌+◌, ◌-◌, ◌&&◌, ℕ, Bool, sym, ◌∙◌, ap}
use Rattle.std.specs.List.{list_all, range_with_len}
use Rattle.report_spec.specs.Mending.{agree}
use Rattle.region_report.specs.Mendings.{as_seen}
use Rattle.region_report.proofs.SameLines.{all-first, all-none}
use Rattle.region_report.proofs.same_lines.all_agree.Goals as goal

pub returns-then-not-agree : goal.returns-then-not-agree
returns-then-not-agree c =
    let f : ℕ → Bool = agree (as_seen c.args.x.now) (as_seen c.args.y.now) in
    let k = c.loop-k.k in
    sym (ap (λ (b : Bool). b && list_all f (range_with_len (k + 1) (c.args.len - (k + 1))))
    (sym c.agree.ensures ∙ c.if-not-agree.true))
    ∙ sym (all-first f k c.args.len c.loop-k-test.true) ∙ c.loop-k.invariant

pub loop-k-preserved : goal.loop-k-preserved
loop-k-preserved c =
    let f : ℕ → Bool = agree (as_seen c.args.x.now) (as_seen c.args.y.now) in
    let k = c.loop-k.k in
    sym (ap (λ (b : Bool). b && list_all f (range_with_len (k + 1) (c.args.len - (k + 1))))
    (sym c.agree.ensures ∙ c.if-not-agree.false))
    ∙ sym (all-first f k c.args.len c.loop-k-test.true) ∙ c.loop-k.invariant

pub returns : goal.returns
returns c =
    let f : ℕ → Bool = agree (as_seen c.args.x.now) (as_seen c.args.y.now) in
    sym (all-none f c.loop-k.k c.args.len c.loop-k-test.false) ∙ c.loop-k.invariant
