-- A boot begun has all stores of a boot left, with blocks and erasure by the words. For `Boot::of_reading`.
use Rattle.std.proofs.Common.{[], refl, sym, ap, ◌∙◌}
use Rattle.zone_spec.specs.Reading.{state_of}
use Rattle.ring_laws.proofs.States.{reading_state}
use Rattle.zone_boot.proofs.LaterStores.{after-none}
use Rattle.zone_boot.proofs.BootStart.{starts, stages-by}
use Rattle.zone_boot.proofs.boots.Boot.of_reading.Goals as goal

pub returns-clause-stands : goal.returns-clause-stands
returns-clause-stands c = λ image words kept.
    let z = c.args.zone.now in
    let state = c.requires.state ∙ ap (state_of z) words ∙ sym (reading_state z image) in
    record {
      done = [];
      whole = starts z image c.args.words c.args.state c.block_count.result c.erasure_of.result words c.requires.state
          c.block_count.ensures.found c.block_count.ensures.none
          (stages-by z image c.args.state c.args.is_kept c.erasure_of.result state kept c.erasure_of.ensures);
      image = sym (after-none image);
      count = refl;
    }
