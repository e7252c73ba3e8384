-- Each record is shown, and all records in the end
use Rattle.std.proofs.Common.{◌≡◌, ◌∙◌, ◌++◌, ◌∷◌, [], List, ap, sym, subst, length, append_assoc, arith}
use Rattle.std.specs.Vec.Iter.{into_iter_items}
use Rattle.zone_spec.specs.RecordsHeld.{RecordHeld}
use Rattle.report_spec.specs.Packed.{RecordShown, AreShownBy}
use Rattle.region_report.proofs.OneMoreRecord.{shown-more}
use Rattle.region_report.proofs.shown.shown_by.Goals as goal

pub loop-held-preserved : goal.loop-held-preserved
loop-held-preserved c =
    let at = c.loop-held in
    let held = c.in-Some.held in
    let steps : into_iter_items at.held-iterator ≡ held ∷ into_iter_items c.next.new.self = c.in-Some.ensures.steps.0 in
    record {
      shown = subst (λ (ss : List RecordShown). AreShownBy c.args.zones.now c.args.symbols.now c.args.shift
          (at.yielded ++ held ∷ []) ss)
          (sym {A = List RecordShown} c.in_ok-push.ensures.items) (shown-more c.args.zones.now c.args.symbols.now c.args.shift at.yielded at.all.items held
          c.in_ok-shown.field-0 at.invariant.shown c.in_ok-shown.ensures);
      left = at.invariant.left ∙ ap (λ (rest : List RecordHeld). at.yielded ++ rest) steps
          ∙ sym (append_assoc at.yielded (held ∷ []) (into_iter_items c.next.new.self));
      len = (let was = at.invariant.len in let gone = c.in-Some.ensures.steps.1 in let short = ap length steps in
          omega (arith, was, gone, short));
    }
