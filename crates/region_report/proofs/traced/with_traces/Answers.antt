-- Each record has the trace if it is that of ftrace. For `with_traces`.
use Rattle.std.proofs.Common.{◌≡◌, ◌∙◌, ◌++◌, ◌∷◌, [], List, ap, ap₂, sym, length, append_assoc, arith}
use Rattle.std.specs.Vec.Iter.{into_iter_items}
use Rattle.std.proofs.lemmas.List.{map-append}
use Rattle.zone_spec.specs.RecordsHeld.{RecordHeld}
use Rattle.report_spec.specs.Packed.{traced_by}
use Rattle.region_report.proofs.traced.with_traces.Goals as goal

pub loop-held-preserved : goal.loop-held-preserved
loop-held-preserved c =
    let at = c.loop-held in
    let held = c.in-Some.held in
    let f : RecordHeld → RecordHeld = λ r. traced_by r.name c.args.trace.now r in
    let steps : into_iter_items at.held-iterator ≡ held ∷ into_iter_items c.next.new.self = c.in-Some.ensures.steps.0 in
    record {
      traced = c.in_ok-push.ensures.items
          ∙ ap₂ (λ (rs : List RecordHeld) (r : RecordHeld). rs ++ r ∷ []) at.invariant.traced c.in_ok-with_trace.ensures
          ∙ sym (map-append f at.yielded (held ∷ []));
      left = at.invariant.left ∙ ap (λ (rest : List RecordHeld). at.yielded ++ rest) steps
          ∙ sym (append_assoc at.yielded (held ∷ []) (into_iter_items c.next.new.self));
      len = (let was = at.invariant.len in let gone = c.in-Some.ensures.steps.1 in let short = ap length steps in
          omega (arith, was, gone, short));
    }
