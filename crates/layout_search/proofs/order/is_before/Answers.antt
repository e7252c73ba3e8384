-- The first numbers that differ decide between two keys; with none that differ neither is before.
-- For `is_before`.
use Rattle.std.proofs.Common.{◌∙◌, drop, sym, ap, arith}
use Rattle.std.proofs.Math.ListN.{drop_of_length-le}
use Rattle.layout_spec.specs.Order.{is_before}
use Rattle.layout_search.proofs.Keys.{front_same, front_differs, none_before}
use Rattle.layout_search.proofs.order.is_before.Goals as goal

pub returns-then-a-i : goal.returns-then-a-i
returns-then-a-i c = sym (c.loop-i.invariant
    ∙ front_differs c.args.a.now c.args.b.now c.loop-i.i (omega arith) (omega arith) c.if-a-i.true)

pub loop-i-preserved : goal.loop-i-preserved
loop-i-preserved c = c.loop-i.invariant
    ∙ front_same c.args.a.now c.args.b.now c.loop-i.i (omega arith) (omega arith) c.if-a-i.false

pub returns : goal.returns
returns c = sym (c.loop-i.invariant
    ∙ ap (λ xs. is_before (drop c.loop-i.i c.args.a.now) xs) (drop_of_length-le c.args.b.now (omega arith))
    ∙ none_before (drop c.loop-i.i c.args.a.now))
