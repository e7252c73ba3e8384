-- One place more adds one to the count if a mark stands there. For `count_marks`.
use Rattle.std.proofs.Common.{◌≡◌, ◌*◌, ◌-◌, ◌/◌, ◌∙◌, ap, length, arith}
use Rattle.std.specs.Prelude.{count_by}
use Rattle.std.specs.List.{range_with_len}
use Rattle.layout_spec.specs.Marks.{is_mark, marks}
use Rattle.layout_search.proofs.Ranges.{count_more}
use Rattle.layout_search.proofs.marks.count_marks.Goals as goal

pub loop-i-preserved : goal.loop-i-preserved
loop-i-preserved c = record {
  counted = grind (arith, count_more (λ i. is_mark c.args.image.now (2 * i)) c.loop-i.i);
  few = grind arith;
}

pub returns-clause-value : goal.returns-clause-value
unfolding marks
returns-clause-value c =
    let last : c.loop-i.i ≡ (length c.args.image.now - 10) / 2 = omega arith in
    c.loop-i.invariant.counted
    ∙ ap (λ n. count_by (λ i. is_mark c.args.image.now (2 * i)) (range_with_len 0 n)) last
