-- The pieces so far are the bytes of the zones passed over, and the rest is what lies after them.
-- For the loop of `cut_zones`.
use Rattle.std.proofs.Common.{◌≡◌, length, take, drop, map, vec_len, vec_capacity}
use Rattle.std.specs.Prelude.{◌+◌, slice_range}
use Rattle.std.specs.Vec.{vec_ptr}
use Rattle.core.specs.Mem.Slots.{slots_items}
use Rattle.zone_spec.specs.declared.Zone.{Zone}
use Rattle.zone_spec.specs.Parts.{AreBytes}
use Rattle.prz_region.specs.Chain.{all_bytes, Laid}
use Rattle.zone_spec.specs.Layouts.{zones_end}
use Rattle.prz_region.proofs.spans.Region.cut_zones.Given as goal

abbrev pub invariant-loop-zone : goal.invariant-loop-zone
invariant-loop-zone l = record {
  laid : Laid (vec_ptr l.shell) (vec_len l.shell) l.list.items l.rest;
  spans : all_bytes l.list.items ≡ map (λ (z : Zone). slice_range l.fn.self z.at (z.at + z.size))
      (take l.zone-index l.zones);
  rest : slots_items l.rest ≡ drop (zones_end (take l.zone-index l.zones)) l.fn.self;
  bytes : AreBytes (slots_items l.rest);
  count : vec_len l.list ≡ l.zone-index;
  capacity : vec_capacity l.list ≡ length l.zones;
}
