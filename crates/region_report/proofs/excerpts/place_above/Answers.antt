-- A byte back. For `place_above`.
use Rattle.std.proofs.Common.{◌≡◌, ◌-◌, ℕ, suc, ap, sym, ◌∙◌, arith}
use Rattle.report_spec.specs.Excerpts.{back}
use Rattle.region_report.proofs.Places.{back-start, back-found, back-on}
use Rattle.region_report.proofs.excerpts.place_above.Goals as goal

pub returns-then-is_found : goal.returns-then-is_found
returns-then-is_found c =
    let p : ℕ = c.bytes.place in
    let test = c.bytes-test.true in
    sym (back-found c.args.text.now p (p - 1) c.bytes.left (let e : p ≡ suc (p - 1) = omega (arith, test) in e)
    (sym c.is_found.ensures ∙ c.if-is_found.true)) ∙ c.bytes.invariant.1

pub bytes-preserved : goal.bytes-preserved
bytes-preserved c =
    let p : ℕ = c.bytes.place in
    let test = c.bytes-test.true in
    let within = c.bytes.invariant.0 in (
      omega (arith, within),
      ap (λ (n : ℕ). back c.args.text.now (p - 1) n) c.fewer-left.ensures
          ∙ sym (back-on c.args.text.now p (p - 1) c.bytes.left (let e : p ≡ suc (p - 1) = omega (arith, test) in e)
          (sym c.is_found.ensures ∙ c.if-is_found.false)) ∙ c.bytes.invariant.1,
    )

pub returns : goal.returns
returns c =
    let test = c.bytes-test.false in
    sym (back-start c.args.text.now c.bytes.left)
    ∙ ap (λ (p : ℕ). back c.args.text.now p c.bytes.left) (let e : 0 ≡ c.bytes.place = omega (arith, test) in e)
    ∙ c.bytes.invariant.1
