-- A told list in two slices has with a log what the first has, and if that is all, what the second
-- has more. For `common_with`.
use Rattle.std.proofs.Common.{◌≡◌, ℕ, List, ◌++◌, ◌+◌, ◌≤◌, length, nat_eq, drop, take, ◌-◌, length-drop, sym, ap, ◌∙◌}
use Rattle.std.proofs.Common.{arith}
use Rattle.std.specs.List.{common_prefix_len}
use Rattle.std.proofs.lemmas.List.Sums.{common_prefix_len-le}
use Rattle.std.proofs.lemmas.List.{take_all}
use Rattle.circular_buffer.specs.Buffer.{Buffer}
use Rattle.ramoops.proofs.Prefixes.{common_short, common_long}
use Rattle.ramoops.proofs.report.common_with.Goals as goal

pub slice_bounds-common_prefix-count : goal.slice_bounds-common_prefix-count
slice_bounds-common_prefix-count c = let m = (common_prefix_len-le nat_eq c.as_slices.result.0.now c.args.log.now).1
    in let b = c.common_prefix-n.ensures in omega (arith, m, b)

pub slice_bounds-common_prefix-start : goal.slice_bounds-common_prefix-start
slice_bounds-common_prefix-start c = let m = (common_prefix_len-le nat_eq c.as_slices.result.0.now c.args.log.now).1
    in let b = c.common_prefix-n.ensures in omega (arith, m, b)

pub returns-then-n-front : goal.returns-then-n-front
returns-then-n-front c =
    let b = c.common_prefix-n.ensures in let t = c.if-n-front.true in
    b ∙ sym (common_short c.as_slices.result.0.now c.as_slices.result.1.now c.args.log.now (omega (arith, b, t)))
    ∙ ap (λ (xs : List ℕ). common_prefix_len nat_eq xs c.args.log.now)
    (c.as_slices.ensures ∙ ap (λ (x : Buffer ℕ). x.items) c.ring.ensures)

-- what is left of the log behind the front
left : (log : List ℕ) (n : ℕ) → take (length log - n) (drop n log) ≡ drop n log
left log n = take_all (length log - n) (drop n log) (let m = length-drop n log in omega (arith, m))

both : (xs ys log : List ℕ) (n m : ℕ) → n ≡ common_prefix_len nat_eq xs log
    → m ≡ common_prefix_len nat_eq ys (take (length log - n) (drop n log)) → length xs ≤ n
    → n + m ≡ common_prefix_len nat_eq (xs ++ ys) log
both xs ys log n m en em long =
    let most = (common_prefix_len-le nat_eq xs log).0 in
    let same : n ≡ length xs = omega (arith, most, en, long) in
    let rest : m ≡ common_prefix_len nat_eq ys (drop (length xs) log) =
    em ∙ ap (common_prefix_len nat_eq ys) (left log n)
    ∙ ap (λ (k : ℕ). common_prefix_len nat_eq ys (drop k log)) same in
    let whole = common_long xs ys log (omega (arith, en, long)) in
    omega (arith, same, rest, whole)

pub returns-else-n-front : goal.returns-else-n-front
returns-else-n-front c =
    both c.as_slices.result.0.now c.as_slices.result.1.now c.args.log.now c.common_prefix-n.result
    c.common_prefix.result c.common_prefix-n.ensures c.common_prefix.ensures c.if-n-front.false
    ∙ ap (λ (xs : List ℕ). common_prefix_len nat_eq xs c.args.log.now)
    (c.as_slices.ensures ∙ ap (λ (x : Buffer ℕ). x.items) c.ring.ensures)

pub overflow_add-result : goal.overflow_add-result
overflow_add-result c =
    let e = both c.as_slices.result.0.now c.as_slices.result.1.now c.args.log.now c.common_prefix-n.result
    c.common_prefix.result c.common_prefix-n.ensures c.common_prefix.ensures c.if-n-front.false in
    let most = (common_prefix_len-le nat_eq (c.as_slices.result.0.now ++ c.as_slices.result.1.now) c.args.log.now).1 in
    let small = c.requires in
    omega (arith, e, most, small)
