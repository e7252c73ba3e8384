-- One byte more is the next draw. For `draw_bytes`.
use Rattle.std.proofs.Common.{◌∙◌, ℕ, List, ap, arith}
use Rattle.script_spec.specs.Generated.{drawn_number}
use Rattle.ram_generator.proofs.Over.{over_more, over_all, range_next, range_end}
use Rattle.ram_generator.proofs.DrawLoops.{draws_start, number_drawn}
use Rattle.ram_generator.proofs.draws.Draws.draw_bytes.Goals as goal

pub bytes-init : goal.bytes-init
bytes-init c = (omega arith, draws_start c.args.count 256 c.args.self.now c.new-bytes.result.items c.new-bytes.ensures.items)

pub bytes-preserved : goal.bytes-preserved
bytes-preserved c = (
  omega (arith, c.bytes-test.true),
  over_more (drawn_number 256) c.bytes.bytes.items c.push.new.self.items c.bytes.counter _ _ c.bytes.self
      c.draw.new.self _ (range_next c.bytes.counter c.args.count c.bytes-test.true)
      (number_drawn 256 c.bytes.counter c.bytes.self c.draw.result c.draw.new.self c.bytes.bytes.items
      c.push.new.self.items c.draw.ensures.drawn c.in_ok-push.ensures.items) c.bytes.invariant.1,
)

pub returns : goal.returns
returns c = ap (λ (bytes : List ℕ). (bytes, c.bytes.self)) c.from_vec.ensures
    ∙ over_all (drawn_number 256) c.bytes.bytes.items _ c.bytes.self _
    (range_end c.bytes.counter c.args.count c.bytes.counter
    (omega (arith, c.bytes-test.false, c.bytes.invariant.0))) c.bytes.invariant.1
