-- The zones of a layout lie side by side, and their names differ. For `Layout::zones`.
use Rattle.ramoops_layout.proofs.NamesDiffer.{names_differ}
use Rattle.ramoops_layout.proofs.WholeLayout.{whole_layout}
use Rattle.ramoops_layout.proofs.types.Layout.zones.Goals as goal

pub returns-clause-laid_out : goal.returns-clause-laid_out
returns-clause-laid_out c = rw c.deref.ensures.value (whole_layout c.args.self.now.params c.args.self.now.zones.items
    c.args.self.now.tagged c.args.self.now.laid)

pub returns-clause-names : goal.returns-clause-names
returns-clause-names c = rw c.deref.ensures.value (names_differ c.args.self.now.params c.args.self.now.zones.items
    c.args.self.now.laid)
