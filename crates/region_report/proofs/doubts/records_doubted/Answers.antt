-- Each record has its doubts. For `records_doubted`.
use Rattle.std.proofs.Common.{◌≡◌, ◌∙◌, ◌++◌, ◌∷◌, [], List, ap, ap₂, sym, length, append_assoc, arith}
use Rattle.std.specs.Vec.Iter.{into_iter_items}
use Rattle.std.proofs.lemmas.List.{map-append}
use Rattle.prz_read.specs.Saving.{saved}
use Rattle.report_spec.specs.Packed.{RecordShown}
use Rattle.report_spec.specs.Doubts.{with_doubts}
use Rattle.region_report.proofs.doubts.records_doubted.Goals as goal

pub loop-entry-preserved : goal.loop-entry-preserved
loop-entry-preserved c =
    let at = c.loop-entry in
    let entry = c.in-Some.entry in
    let f : RecordShown → RecordShown = λ r. with_doubts c.args.zones.now (saved c.args.logs.now) c.args.parts.now r
    in
    let steps : into_iter_items at.entry-iterator ≡ entry ∷ into_iter_items c.next.new.self =
    c.in-Some.ensures.steps.0 in
    record {
      doubted = c.in_ok-push.ensures.items
          ∙ ap₂ (λ (rs : List RecordShown) (r : RecordShown). rs ++ r ∷ []) at.invariant.doubted
          c.in_ok-with_doubts.ensures
          ∙ sym (map-append f at.yielded (entry ∷ []));
      left = at.invariant.left ∙ ap (λ (rest : List RecordShown). at.yielded ++ rest) steps
          ∙ sym (append_assoc at.yielded (entry ∷ []) (into_iter_items c.next.new.self));
      len = (let was = at.invariant.len in let gone = c.in-Some.ensures.steps.1 in let short = ap length steps in
          omega (arith, was, gone, short));
    }
