-- Each record is mended. For `with_mendings`.
use Rattle.std.proofs.Common.{◌≡◌, ◌∙◌, ◌++◌, ◌∷◌, [], List, ap, ap₂, sym, length, append_assoc, arith}
use Rattle.std.specs.Vec.Iter.{into_iter_items}
use Rattle.std.proofs.lemmas.List.{map-append}
use Rattle.report_spec.specs.Packed.{RecordShown}
use Rattle.report_spec.specs.Mending.{mended_in}
use Rattle.region_report.proofs.mended.with_mendings.Goals as goal

pub loop-entry-preserved : goal.loop-entry-preserved
loop-entry-preserved c =
    let at = c.loop-entry in
    let entry = c.in-Some.entry in
    let m = c.args.mendings.now in
    let f : RecordShown → RecordShown = mended_in m.console m.dump m.name in
    let steps : into_iter_items at.entry-iterator ≡ entry ∷ into_iter_items c.next.new.self =
    c.in-Some.ensures.steps.0 in
    record {
      mended = c.in_ok-push.ensures.items
          ∙ ap₂ (λ (rs : List RecordShown) (r : RecordShown). rs ++ r ∷ []) at.invariant.mended
          c.in_ok-mended_record.ensures
          ∙ sym (map-append f at.yielded (entry ∷ []));
      left = at.invariant.left ∙ ap (λ (rest : List RecordShown). at.yielded ++ rest) steps
          ∙ sym (append_assoc at.yielded (entry ∷ []) (into_iter_items c.next.new.self));
      len = (let was = at.invariant.len in let gone = c.in-Some.ensures.steps.1 in let short = ap length steps in
          omega (arith, was, gone, short));
    }
