-- If the second list has ended nothing more is common. For the loop of `common_prefix`.
use Rattle.std.proofs.Common.{◌≡◌, [], drop, nat_eq, ap, ◌∙◌, arith}
use Rattle.std.specs.List.{common_prefix_len}
use Rattle.std.proofs.lemmas.List.{drop_all}
use Rattle.ramoops.proofs.Prefixes.{none_right}
use Rattle.ramoops.proofs.report.common_prefix.Goals as goal

pub returns-else-n-b : goal.returns-else-n-b
returns-else-n-b c =
    let none : drop c.loop-n.n c.args.b.now ≡ [] = drop_all c.loop-n.n c.args.b.now c.if-n-b.false in
    let zero : common_prefix_len nat_eq (drop c.loop-n.n c.args.a.now) (drop c.loop-n.n c.args.b.now) ≡ 0 =
    ap (common_prefix_len nat_eq (drop c.loop-n.n c.args.a.now)) none ∙ none_right _ in
    let e = c.loop-n.invariant.so_far in
    omega (arith, e, zero)
