-- A newer record is held in place of the one before
use Rattle.std.proofs.Common.{◌≡◌, ◌∙◌, sym, ap, subst, inl, inr, true}
use Rattle.std.specs.Prelude.{slice_get, Some, Option, IfSome, IsSome}
use Rattle.std.specs.Option.{option_copied}
use Rattle.std.specs.Borrow.{Bor}
use Rattle.std.proofs.lemmas.Option.{slice_get-get_or}
use Rattle.report_spec.specs.Packed.{RecordShown}
use Rattle.report_spec.specs.Newest.{is_newer}
use Rattle.region_report.proofs.Later.{newest-more, newest-held, newer-dated, dated-held}
use Rattle.region_report.proofs.newest.newest_dump.Goals as goal
use Rattle.region_report.proofs.newest.newest_dump.Goals.{then-is_newer, else-is_newer}

pub loop-entry-preserved : goal.loop-entry-preserved
loop-entry-preserved c =
    let records = c.args.records.now in
    let x : RecordShown = c.entry-item.result in
    let at : slice_get records c.loop-entry.entry-index ≡ Some x =
    slice_get-get_or records c.loop-entry.entry-index x c.loop-entry-test.true
    ∙ ap (λ (r : RecordShown). Some r) (sym c.entry-item.is) in
    elim c.if-is_newer.branch [
      | then-is_newer w ↦
          let newer : is_newer x (option_copied c.loop-entry.newest) ≡ true =
          sym c.is_newer.ensures ∙ w.if-is_newer.true in
          record {
            first = newest-held records c.loop-entry.entry-index x (option_copied c.loop-entry.newest)
                (option_copied c.if-is_newer.newest) at c.loop-entry.invariant.first
                (inl (newer, ap option_copied w.newest-is));
            newest = newest-more records c.loop-entry.entry-index x (option_copied c.loop-entry.newest)
                (option_copied c.if-is_newer.newest) at c.loop-entry.invariant.newest
                (inl (newer, ap option_copied w.newest-is));
            dated = dated-held c.if-is_newer.newest x (ap option_copied w.newest-is)
                (newer-dated x (option_copied c.loop-entry.newest) newer);
          }
      | else-is_newer w ↦ record {
        first = newest-held records c.loop-entry.entry-index x (option_copied c.loop-entry.newest)
            (option_copied c.if-is_newer.newest) at c.loop-entry.invariant.first
            (inr (sym c.is_newer.ensures ∙ w.if-is_newer.false, ap option_copied w.newest-is));
        newest = newest-more records c.loop-entry.entry-index x (option_copied c.loop-entry.newest)
            (option_copied c.if-is_newer.newest) at c.loop-entry.invariant.newest
            (inr (sym c.is_newer.ensures ∙ w.if-is_newer.false, ap option_copied w.newest-is));
        dated = subst (λ (held : Option (Bor RecordShown)). IfSome held (λ r. IsSome r.now.time)) (sym w.newest-is)
            c.loop-entry.invariant.dated;
      }
    ]
