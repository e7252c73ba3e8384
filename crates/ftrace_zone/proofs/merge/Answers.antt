-- The earlier of two entries, or what is left of one zone, comes next. For `merge`.
use Rattle.std.proofs.Common.{◌≡◌, ◌<◌, ◌++◌, ◌-◌, length, drop, take, ap, ap₂, ◌∙◌, arith, List}
use Rattle.ftrace_zone.specs.declared.Entry.{Entry}
use Rattle.ftrace_zone.proofs.MergeSteps.{IsMerged-later, IsMerged-earlier, IsMerged-end, cut, merge_of}
use Rattle.ftrace_zone.proofs.merge.Goals as goal
use Rattle.ftrace_zone.proofs.merge.Goals.{then-loop-i-test+else-j-right, else-loop-i-test}

pub loop-i-preserved-then-time : goal.loop-i-preserved-then-time
loop-i-preserved-then-time c = record {
  merged = IsMerged-later c.as_slice-left.result.now c.as_slice-right.result.now c.loop-i.merged.items
      c.push.new.self.items c.loop-i.i c.loop-i.j (record { addr = 0; parent = 0; word = 0 })
      c.loop-i.invariant.merged c.loop-i-test.true c.if-j-right.true
      (rw (← c.time.ensures.time, ← c.time-in-loop-i.ensures.time) c.if-time.true) c.in_ok-push.ensures.items;
  in_left = c.loop-i.invariant.in_left;
  in_right = omega (arith, c.if-j-right.true);
}

pub loop-i-preserved : goal.loop-i-preserved
loop-i-preserved c = record {
  merged = IsMerged-earlier c.as_slice-left.result.now c.as_slice-right.result.now c.loop-i.merged.items
      c.push-else-time.new.self.items c.loop-i.i c.loop-i.j (record { addr = 0; parent = 0; word = 0 })
      c.loop-i.invariant.merged c.loop-i-test.true c.if-j-right.true
      (rw (← c.time.ensures.time, ← c.time-in-loop-i.ensures.time) c.if-time.false) c.in_ok-push-2.ensures.items;
  in_left = omega (arith, c.loop-i-test.true);
  in_right = c.loop-i.invariant.in_right;
}

pub returns : goal.returns
returns c =
    let ended : c.loop-i.i < length c.as_slice-left.result.now → c.loop-i.j < length c.as_slice-right.result.now → ⊥ =
    elim c.loop-i-test.branch [
      | then-loop-i-test+else-j-right w ↦ λ _ lt. omega (arith, lt, w.if-j-right.false)
      | else-loop-i-test w ↦ λ lt _. omega (arith, lt, w.loop-i-test.false)
    ] in
    let left = c.as_slice-left.result.now in
    let right = c.as_slice-right.result.now in
    let items : c.extend_from_slice-2.new.self.items ≡ (c.loop-i.merged.items ++ take (length left - c.loop-i.i)
    (drop c.loop-i.i left)) ++ take (length right - c.loop-i.j) (drop c.loop-i.j right) =
    c.in_ok-extend_from_slice-2.ensures.items ∙ ap (λ (xs : List Entry). xs ++ take (length right - c.loop-i.j)
    (drop c.loop-i.j right)) c.in_ok-extend_from_slice.ensures.items in
    let whole : c.extend_from_slice-2.new.self.items ≡ (c.loop-i.merged.items ++ drop c.loop-i.i left)
    ++ drop c.loop-i.j right =
    items ∙ ap₂ (λ (xs ys : List Entry). (c.loop-i.merged.items ++ xs) ++ ys) (cut c.loop-i.i left)
    (cut c.loop-i.j right) in
    rw (c.from_vec.ensures, whole)
    (IsMerged-end left right c.loop-i.merged.items c.loop-i.i c.loop-i.j c.loop-i.invariant.merged ended
    ∙ ap₂ (λ (xs ys : List Entry). merge_of xs ys) c.as_slice-left.ensures c.as_slice-right.ensures)
