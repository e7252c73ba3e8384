-- By the two products
use Rattle.std.proofs.Common.{◌≡◌, ◌+◌, ◌-◌, ◌*◌, ◌<◌, ℕ, ap₂, arith}
use Rattle.std.proofs.lemmas.Grind.{common_steps}
use Rattle.oopsbox_c.proofs.Blocks.{covers}
use Rattle.oopsbox_c.proofs.places.has_blocks.Goals as goal

pub returns : goal.returns
returns c =
    let z = c.args.zone.now in
    let x : ℕ = (z.size - 12) - z.parity in
    let w : ℕ = z.block + z.parity in
    let k = covers x w z.blocks (omega (arith, c.requires.block)) in
    let product : c.from.result * c.from-whole.result ≡ z.blocks * w =
    ap₂ (λ (u v : ℕ). u * v) c.from.ensures c.from-whole.ensures in (
      λ t.
          (let lt : c.from.result * c.from-whole.result < c.from-data.result + c.from-whole.result =
          grind (arith, common_steps, t) in
          k.1 (
            omega (arith, c.if-covered-data.false, product, c.from-data.ensures),
            omega (arith, lt, product, c.from-data.ensures, c.from-whole.ensures),
          )),
      λ e.
          (let h = k.0 e in
          let lt : c.from.result * c.from-whole.result < c.from-data.result + c.from-whole.result =
          omega (arith, h.1, product, c.from-data.ensures, c.from-whole.ensures) in
          grind (arith, common_steps, lt)),
    )

pub returns-then-covered-data : goal.returns-then-covered-data
returns-then-covered-data c =
    let z = c.args.zone.now in
    let x : ℕ = (z.size - 12) - z.parity in
    let w : ℕ = z.block + z.parity in
    let k = covers x w z.blocks (omega (arith, c.requires.block)) in
    let product : c.from.result * c.from-whole.result ≡ z.blocks * w =
    ap₂ (λ (u v : ℕ). u * v) c.from.ensures c.from-whole.ensures in (
      λ t. absurd (grind (arith, common_steps, t)),
      λ e. absurd (let h = k.0 e in omega (arith, h.0, product, c.if-covered-data.true, c.from-data.ensures)),
    )
