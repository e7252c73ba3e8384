-- The vector has the marks that were written. For `marks_of`.
use Rattle.std.proofs.Common.{◌≡◌, List, Bool, length, sym, subst, ap, ◌∙◌}
use Rattle.salvage.specs.Sieves.{AreMarks}
use Rattle.salvage.proofs.Marks.{written}
use Rattle.salvage.proofs.sieve.marks_of.Goals as goal

pub returns-clause-marks : goal.returns-clause-marks
returns-clause-marks c =
    let len : c.in_ok-marks.marks.len ≡ length c.in_ok-marks.marks.items =
    sym c.deref_mut.ensures.len ∙ ap (λ (xs : List Bool). length xs) c.deref_mut.ensures.value in
    subst (AreMarks c.args.low c.args.end)
    (sym (written c.in_ok-marks.marks.len c.mark_all.new.marks c.in_ok-marks.marks.items len
    (c.mark_all.ensures.len ∙ sym c.in_ok-marks.ensures.len ∙ len)))
    c.mark_all.ensures.all
