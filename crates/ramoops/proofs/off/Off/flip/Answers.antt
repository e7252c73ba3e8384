-- A flipped byte keeps the image's size and a resting machine, which then stands for the flipped
-- state. For `Off::flip`.
use Rattle.std.proofs.Common.{ℕ, List, length, sym, ap, ◌∙◌, subst, arith}
use Rattle.std.specs.Prelude.{slice_index, slice_set, bit_xor}
use Rattle.std.proofs.lemmas.List.{length-set}
use Rattle.ramoops_layout.specs.Laid.{params_of, zones_of}
use Rattle.ramoops.specs.OffSeen.{OffSeen, known_all, StandsOff}
use Rattle.ramoops.proofs.OffStates.{flipped_stands, flipped_rests}
use Rattle.ramoops.proofs.off.Off.flip.Goals as goal

pub invariant_of-self : goal.invariant_of-self
invariant_of-self c =
    let is = c.set.ensures ∙ ap (λ (b : List ℕ). slice_set c.self.inside.image c.args.at
    (bit_xor (slice_index b c.args.at) c.args.mask)) c.as_slice-bytes.ensures in (
      ap length is ∙ length-set c.self.inside.image c.args.at _ ∙ c.self.invariant.0,
      c.self.invariant.1,
      flipped_rests (record {
        layout = zones_of c.self.inside.layout;
        mem = (params_of c.self.inside.layout).mem;
        image = c.self.inside.image;
        zones = known_all (length (zones_of c.self.inside.layout)) c.self.inside.zones.items;
      }) c.args.at c.args.mask c.set.new.self (omega (arith, c.ranges.mask.fits)) is c.self.invariant.2,
    )

pub returns-clause-flipped : goal.returns-clause-flipped
returns-clause-flipped c layout mem s stands =
    flipped_stands layout mem (record {
      layout = zones_of c.self.inside.layout;
      mem = (params_of c.self.inside.layout).mem;
      image = c.self.inside.image;
      zones = known_all (length (zones_of c.self.inside.layout)) c.self.inside.zones.items;
    }) s c.args.at c.args.mask c.set.new.self
    (c.set.ensures ∙ ap (λ (b : List ℕ). slice_set c.self.inside.image c.args.at
    (bit_xor (slice_index b c.args.at) c.args.mask)) c.as_slice-bytes.ensures)
    (subst (λ (v : OffSeen). StandsOff layout mem v s) (sym c.self.view_is) stands)
