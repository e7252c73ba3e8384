-- The layout, by the first fault
use Rattle.std.proofs.Common.{◌≡◌, Option, Some, None, Ok, Err, sym, ap, ◌∙◌}
use Rattle.zone_spec.specs.declared.params.LayoutFault.{LayoutFault}
use Rattle.zone_spec.specs.Layout.{first_fault}
use Rattle.blk_spec.specs.declared.BlkParams.{BlkParams}
use Rattle.blk_spec.specs.declared.BlkLayout.{BlkLayout}
use Rattle.blk_spec.specs.Layout.{layout_of, faults, zones_of, ok_unless}

pub faulted : (p : BlkParams) (fault : LayoutFault) → first_fault (faults p) ≡ Some fault → Err fault ≡ layout_of p
unfolding layout_of
faulted p fault e = sym (ap (λ (f : Option LayoutFault). ok_unless f (zones_of p)) e)

pub faultless : (p : BlkParams) (l : BlkLayout) → first_fault (faults p) ≡ None → l ≡ zones_of p → Ok l ≡ layout_of p
unfolding layout_of
faultless p l e z = ap Ok z ∙ sym (ap (λ (f : Option LayoutFault). ok_unless f (zones_of p)) e)
