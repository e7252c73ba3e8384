-- The head, and then the rows of all records
use Rattle.std.proofs.Common.{◌∙◌, ◌++◌, ◌∷◌, [], List, take, ap, arith, append_assoc, codes}
use Rattle.std.specs.Prelude.{flat_map}
use Rattle.std.proofs.lemmas.List.{take_all}
use Rattle.report_spec.specs.Packed.{RecordShown}
use Rattle.report_text.specs.Pieces.{Part, Words, parts}
use Rattle.report_text.specs.Tables.{record_row}
use Rattle.report_text.proofs.records.add_records.Goals as goal

pub returns : goal.returns
returns c =
    let old : List Part = parts c.args.pieces.now.items in
    let head : Part = Words (codes "\n     bytes  time                            record\n") in
    let rows : List Part = flat_map record_row (take c.loop-entry.entry-index c.args.records.now) in
    let past = c.loop-entry-test.false in
    c.loop-entry.invariant ∙ ap (λ (ps : List Part). ps ++ rows) c.in_ok-add.ensures
    ∙ append_assoc old (head ∷ []) rows
    ∙ ap (λ (rs : List RecordShown). old ++ head ∷ flat_map record_row rs)
    (take_all c.loop-entry.entry-index c.args.records.now (omega (arith, past)))
