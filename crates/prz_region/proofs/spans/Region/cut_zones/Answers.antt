-- The piece that is split off is the next zone's, and the rest begins where it ends. For the loop
-- of `cut_zones`.
use Rattle.std.proofs.Common.{◌≡◌, ℕ, ◌<◌, ◌≤◌, List, [], ◌∷◌, ◌++◌, length, take, drop, map, sym, ap, subst, ◌∙◌}
use Rattle.std.proofs.Common.{arith}
use Rattle.std.proofs.lemmas.List.{map-append}
use Rattle.core.specs.Mem.Slots.{slots_len, slots_ptr, slots_items, slots_counts}
use Rattle.zone_spec.specs.declared.Zone.{Zone}
use Rattle.zone_spec.specs.Parts.{AreBytes}
use Rattle.prz_region.specs.Chain.{all_bytes}
use Rattle.zone_spec.specs.Layouts.{zones_end}
use Rattle.prz_region.proofs.Chains.{laid-more, bytes-append, AreBytes-drop}
use Rattle.prz_region.proofs.CutLoop.{zone, bytes_in, take-next, bytes_in-next, drop-next, fits-next}
use Rattle.prz_region.proofs.spans.Region.cut_zones.Goals as goal

pub loop-zone-preserved : goal.loop-zone-preserved
loop-zone-preserved c =
    let inv = c.loop-zone.invariant in
    let i = c.loop-zone.zone-index in
    let zs = c.args.zones.now in
    let xs = c.args.self in
    let rest = c.loop-zone.rest in
    let low = c.split-front.ensures.low in
    let high = c.split-front.ensures.high in
    let row = c.based-slots.ensures.row in
    let lt : i < length zs = c.loop-zone-test.true in
    let left : length (slots_items rest) ≡ length (drop (zones_end (take i zs)) xs) = ap length inv.rest in
    let le : (zone zs i).size ≤ slots_len rest = omega (
      arith,
      left,
      (slots_counts rest).0,
      fits-next xs zs i lt c.requires.room,
    ) in
    let bytes : slots_items c.over.result.slots ≡ bytes_in xs (zone zs i) =
    ap slots_items c.over.ensures ∙ row.0 ∙ low.0 ∙ ap (λ (l : List ℕ). take (zone zs i).size l) inv.rest
    ∙ bytes_in-next xs zs i lt c.requires.side_by_side in
    record {
      laid = laid-more _ _ (zone zs i).size _ _ _ _ _ inv.laid c.push_reserved.ensures.items (ap slots_ptr c.over.ensures ∙ row.2 ∙ low.2)
          (ap slots_len c.over.ensures ∙ row.3 ∙ low.3) le high.2 high.3 high.1;
      spans = ap all_bytes c.push_reserved.ensures.items ∙ bytes-append c.loop-zone.list.items _
          ∙ ap (λ (l : List (List ℕ)). l ++ slots_items c.over.result.slots ∷ []) inv.spans
          ∙ ap (λ (b : List ℕ). map (bytes_in xs) (take i zs) ++ b ∷ []) bytes
          ∙ sym (map-append (bytes_in xs) (take i zs) (zone zs i ∷ []))
          ∙ ap (λ (l : List Zone). map (bytes_in xs) l) (sym (take-next zs i lt));
      rest = high.0 ∙ ap (λ (l : List ℕ). drop (zone zs i).size l) inv.rest ∙ drop-next xs zs i lt;
      bytes = subst AreBytes (sym high.0) (AreBytes-drop (zone zs i).size (slots_items rest) inv.bytes);
      count = omega (arith, c.push_reserved.ensures.len, inv.count);
      capacity = c.push_reserved.ensures.capacity ∙ inv.capacity;
    }
