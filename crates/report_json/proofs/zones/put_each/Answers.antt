-- One zone's value more stands on the line. For the loop of `put_each`.
use Rattle.std.proofs.Common.{◌∙◌, ◌++◌, ◌∷◌, [], refl, ap, sym, arith}
use Rattle.report_json.specs.Tokens.{onto, all_onto}
use Rattle.report_json.proofs.Onto.{all_append}
use Rattle.report_json.proofs.Places.{zones-next}
use Rattle.report_json.proofs.zones.put_each.Goals as goal

pub loop-i-init : goal.loop-i-init
loop-i-init c = record {
  values = [];
  are = record { count_same = refl; each = λ i d below at. absurd (omega (arith, below)) };
  put = refl;
}

pub loop-i-preserved : goal.loop-i-preserved
loop-i-preserved c =
    let so_far = c.loop-i.invariant in
    let one = c.in_ok-put_at.ensures in
    record {
      values = so_far.values ++ one.value ∷ [];
      are = zones-next c.args.zones.now c.args.logs.now.readings c.args.parts.now c.loop-i.i so_far.values
          (so_far.values ++ one.value ∷ []) one.value so_far.are one.is refl;
      put = one.put ∙ ap (onto one.value) so_far.put ∙ sym (all_append so_far.values (one.value ∷ []) c.args.line.now);
    }
