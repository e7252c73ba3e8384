-- One piece of the region is written in its place
use Rattle.std.proofs.Common.{sym, ◌∙◌}
use Rattle.core.specs.Mem.Slots.{slots_items}
use Rattle.zone_spec.specs.Stores.{byte_stores}
use Rattle.prz_region.specs.Chain.{piece_bytes}
use Rattle.prz_region.proofs.Stores.{put-stores}
use Rattle.prz_region.proofs.Chains.{IsWritten, written-laid, written-seen}
use Rattle.prz_region.proofs.spans.Spans.store_bytes.Goals as goal
use Rattle.prz_region.proofs.spans.Spans.store_bytes.Goals.{After-store_bytes}

written : (c : goal.After-store_bytes) → IsWritten c.self.inside.list.items (slots_items c.self.inside.rest)
    c.self.inside.stores.made c.args.self.now c.args.i c.index_mut.result.now c.store_bytes.new.self
written c = record {
  seen = c.self.view_is;
  within = c.requires.span;
  at = c.index_mut.ensures.value;
  place = c.store_bytes.ensures.place;
}

pub invariant_of-self : goal.invariant_of-self
invariant_of-self c = written-laid _ _ _ _ _ _ _ _ _ (written (goal.at.invariant_of-self c).After-store_bytes)
    c.self.invariant

pub returns : goal.returns
returns c = written-seen _ _ _ _ _ _ _ _ (byte_stores c.args.at c.args.bytes.now)
    (written (goal.at.returns c).After-store_bytes)
    (c.store_bytes.ensures.bytes ∙ sym (put-stores (piece_bytes c.index_mut.result.now) c.args.at c.args.bytes.now))
    c.store_bytes.ensures.made
