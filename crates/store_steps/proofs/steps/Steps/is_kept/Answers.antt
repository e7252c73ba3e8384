-- If what is left and made sum to the call's total, the state is one of that call. For `is_kept`.
use Rattle.std.proofs.Common.{◌≡◌, ◌-◌, ◌≤◌, arith}
use Rattle.std.proofs.lemmas.Grind.{common_steps}
use Rattle.store_steps.proofs.steps.Steps.is_kept.Goals as goal

pub returns-then-left-total : goal.returns-then-left-total
returns-then-left-total c =
    let least : c.count_left-left.result ≤ c.call_total-total.result = grind (arith, common_steps) in
    let ring = (c.is_open.ensures c.args.line.now c.args.payload.now).0 c.if-not-is_open.false in (
      λ t. record {
        sound = c.is_sound.ensures.0 c.if-not-is_sound.false;
        placed = (c.is_placed.ensures c.args.payload.now).0 c.if-not-is_placed.false;
        ring = ring.0;
        is_open = ring.1;
        ready = c.is_ready.ensures.0 c.if-not-is_ready.false;
        counted =
            (let e : c.args.self.now.made ≡ c.call_total-total.result - c.count_left-left.result =
            grind (arith, common_steps, t) in
            omega (arith, e, least, c.count_left-left.ensures, c.call_total-total.ensures.value));
        small = omega (arith, c.call_total-total.ensures.value, c.call_total-total.ensures.small);
      },
      λ k.
          (let e : c.args.self.now.made ≡ c.call_total-total.result - c.count_left-left.result =
          omega (arith, k.counted, c.count_left-left.ensures, c.call_total-total.ensures.value) in
          grind (arith, common_steps, e)),
    )
