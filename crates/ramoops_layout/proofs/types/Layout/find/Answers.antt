-- The zones of a layout are few, and the place among its rows is the one among its zones. For
-- `Layout::find`.
use Rattle.ramoops_layout.proofs.WholeLayout.{no_fault}
use Rattle.ramoops_layout.proofs.RowPlaces.{rows_few, place_in_layout}
use Rattle.ramoops_layout.proofs.types.Layout.find.Goals as goal

pub rows-requires : goal.rows-requires
rows-requires c = (no_fault c.args.self.now.params c.args.self.now.zones.items c.args.self.now.laid).of_parameters

pub place-requires : goal.place-requires
place-requires c = rw c.rows.ensures (rows_few c.args.self.now.params c.args.self.now.zones.items c.args.self.now.laid)

pub returns : goal.returns
returns c = place_in_layout c.args.self.now.params c.args.self.now.zones.items c.args.name c.place.result
    c.args.self.now.laid (rw c.rows.ensures at c.place.ensures)
