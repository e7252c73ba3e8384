-- A place with no room for the zone has no ring; else the bytes there are header and parity. For
-- `Shape::ring_at`.
use Rattle.std.proofs.Common.{◌≡◌, ℕ, ◌+◌, List, ◌++◌, ◌∙◌, refl, ap, sym}
use Rattle.std.specs.Prelude.{slice_range}
use Rattle.zone_spec.specs.declared.Zone.{Zone}
use Rattle.salvage_spec.specs.Rings.{ring_at, ring_in}
use Rattle.salvage.proofs.Ranges.{no_room, room, header_is}
use Rattle.salvage.proofs.shape.Shape.ring_at.Goals as goal

pub returns-then-from-zone : goal.returns-then-from-zone
returns-then-from-zone c =
    let view : c.self.inside.zone ≡ c.args.self.now = c.self.view_is in
    no_room c.args.dump.now c.args.at c.self.inside.zone c.if-from-zone.true ∙ ap (ring_at c.args.dump.now
    c.args.at) view

pub returns : goal.returns
returns c =
    let view : c.self.inside.zone ≡ c.args.self.now = c.self.view_is in
    let q : ℕ = c.args.at + c.header_parity.result in
    let word : List ℕ = slice_range c.args.dump.now c.args.at (c.args.at + 12)
    ++ slice_range c.args.dump.now q (q + c.self.inside.zone.parity) in
    room c.args.dump.now c.args.at c.self.inside.zone word c.ring_in.result c.if-from-zone.false
    (header_is c.self.inside.zone c.args.dump.now c.args.at c.header_parity.result q c.header_parity.ensures.at
    c.header_parity.ensures.within c.header_parity.ensures.header refl)
    (c.ring_in.ensures ∙ ap (λ (z : Zone). ring_in z c.args.at word) (sym view))
    ∙ ap (ring_at c.args.dump.now c.args.at) view
