-- One place more is added to what was seen, and no place overflows. If too many of the first
-- places begin no zone, too many of all do not. For `see`.
use Rattle.std.proofs.Common.{◌≡◌, ◌+◌, ◌*◌, ◌∙◌, ap, arith}
use Rattle.std.specs.Prelude.{ℕ, not, count_by}
use Rattle.std.specs.List.{range_with_len}
use Rattle.layout_spec.specs.Marks.{is_mark, seems_to_begin}
use Rattle.layout_search.specs.Seen.{far_in, marked_in}
use Rattle.layout_search.proofs.Ranges.{count_more, count_front, product}
use Rattle.layout_search.proofs.seeing.see.Goals as goal

pub overflow_mul-at : goal.overflow_mul-at
overflow_mul-at c = omega (arith, product c.loop-i.i c.args.row.size (omega arith) c.requires.row.size)

pub overflow_add-at : goal.overflow_add-at
overflow_add-at c = omega (arith, product c.loop-i.i c.args.row.size (omega arith) c.requires.row.size)

pub seems_to_begin-requires : goal.seems_to_begin-requires
seems_to_begin-requires c = omega (arith, product c.loop-i.i c.args.row.size (omega arith) c.requires.row.size)

pub is_mark-requires : goal.is_mark-requires
is_mark-requires c = omega (arith, product c.loop-i.i c.args.row.size (omega arith) c.requires.row.size)

pub loop-i-preserved : goal.loop-i-preserved
loop-i-preserved c =
    let f = λ (i : ℕ). not (seems_to_begin c.args.row.kind c.args.image.now (c.args.start + i * c.args.row.size)) in
    let m = λ (i : ℕ). is_mark c.args.image.now (c.args.start + i * c.args.row.size) in record {
      far = grind (arith, count_more f c.loop-i.i);
      marked = grind (arith, count_more m c.loop-i.i);
      most_far = grind arith;
      most_marked = grind arith;
    }

pub returns-then-seen-most : goal.returns-then-seen-most
unfolding far_in
returns-then-seen-most c =
    let f = λ (i : ℕ). not (seems_to_begin c.args.row.kind c.args.image.now (c.args.start + i * c.args.row.size)) in
    omega (arith, c.loop-i.invariant.far, count_front f c.loop-i.i c.args.row.count (omega arith))

pub returns : goal.returns
unfolding far_in marked_in
returns c =
    let f = λ (i : ℕ). not (seems_to_begin c.args.row.kind c.args.image.now (c.args.start + i * c.args.row.size)) in
    let m = λ (i : ℕ). is_mark c.args.image.now (c.args.start + i * c.args.row.size) in
    let last : c.loop-i.i ≡ c.args.row.count = omega arith in record {
      far = c.loop-i.invariant.far ∙ ap (λ n. c.args.before.far + count_by f (range_with_len 0 n)) last;
      marked = c.loop-i.invariant.marked ∙ ap (λ n. c.args.before.marked + count_by m (range_with_len 0 n)) last;
      most_far = omega arith;
      most_marked = omega arith;
    }
