-- One piece of the region is written in its place
use Rattle.core.specs.Mem.Slots.{slots_items}
use Rattle.std.proofs.Common.{[], ◌∷◌, ◌++◌, ap, ◌∙◌}
use Rattle.prz_region.specs.CutRegion.{CutRegion}
use Rattle.zone_spec.specs.Stores.{after_stores}
use Rattle.prz_region.proofs.Chains.{IsWritten, written-laid, written-seen}
use Rattle.prz_region.proofs.spans.Spans.store_array.Goals as goal
use Rattle.prz_region.proofs.spans.Spans.store_array.Goals.{After-store}
use Rattle.prz_region.proofs.spans.Spans.store_array.Given.{Over}

written : (g : Over) (c : goal.After-store g) → IsWritten c.self.inside.list.items (slots_items c.self.inside.rest)
    c.self.inside.stores.made c.args.self.now c.args.i c.index_mut.result.now c.store.new.self
written g c = record {
  seen = c.self.view_is;
  within = c.requires.span;
  at = c.index_mut.ensures.value;
  place = c.store.ensures.place;
}

pub invariant_of-self : goal.invariant_of-self
invariant_of-self g c =
    written-laid _ _ _ _ _ _ _ _ _ (written g (goal.at.invariant_of-self g c).After-store) c.self.invariant

pub returns : goal.returns
unfolding after_stores
returns g c = written-seen _ _ _ _ _ _ _ _ (record { place = c.args.at; bytes = c.args.bytes } ∷ [])
    (written g (goal.at.returns g c).After-store) c.store.ensures.bytes c.store.ensures.made
