-- A layout's zones are whole, also alone
use Rattle.ramoops_layout.proofs.WholeLayout.{whole_layout}
use Rattle.ramoops_layout.proofs.types.Layout.into_zones.Goals as goal

pub returns-clause-laid_out : goal.returns-clause-laid_out
returns-clause-laid_out c = whole_layout c.args.self.params c.args.self.zones.items c.args.self.tagged c.args.self.laid
