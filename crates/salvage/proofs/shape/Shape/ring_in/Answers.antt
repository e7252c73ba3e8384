-- A shape without parity has its ring exactly when the words are one's. For `Shape::ring_in`.
use Rattle.std.proofs.Common.{◌≡◌, ◌++◌, ◌∙◌, ap}
use Rattle.zone_spec.specs.declared.Zone.{Zone}
use Rattle.salvage_spec.specs.Rings.{ring_in}
use Rattle.salvage.proofs.HeaderSums.{none_of_coder, no_parity}
use Rattle.salvage.proofs.shape.Shape.ring_in.Goals as goal

pub returns-in-None : goal.returns-in-None
returns-in-None c =
    let view : c.self.inside.zone ≡ c.args.self.now = c.self.view_is in
    no_parity c.self.inside.zone c.args.at c.args.header.now c.args.parity.now c.ring_with.result c.requires.len
    (none_of_coder c.self.inside.zone.parity c.self.inside.coder c.self.invariant.coder c.in-None.is)
    c.ring_with.ensures
    ∙ ap (λ (z : Zone). ring_in z c.args.at (c.args.header.now ++ c.args.parity.now)) view
