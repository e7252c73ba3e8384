-- By the sizes that the headers show. For `shown_by`.
use Rattle.std.proofs.Common.{◌∙◌, ℕ, List, ap₂}
use Rattle.std.specs.Prelude.{Option}
use Rattle.psz_spec.specs.declared.Machine.{Machine}
use Rattle.psz_spec.specs.declared.Mark.{Mark}
use Rattle.psz_spec.specs.declared.Shown.{Shown}
use Rattle.psz_spec.specs.Marks.{shown_sizes}
use Rattle.storage_spec.specs.Found.{storage_by, storage_in}
use Rattle.storage_report.proofs.loading.shown_by.Goals as goal

pub returns-clause-shown : goal.returns-clause-shown
unfolding storage_in
returns-clause-shown c = λ image len machine marks.
    c.storage_by.ensures.shown
    ∙ ap₂ (λ (s : Option Shown) (m : Machine). storage_by s m)
    (c.shown_sizes.ensures
    ∙ ap₂ (λ (n : ℕ) (ms : List Mark). shown_sizes n ms) len (c.deref.ensures.value ∙ marks))
    (c.machine.ensures ∙ machine)
