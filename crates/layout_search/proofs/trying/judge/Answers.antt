-- The candidate's zones lie in the image, and the tally and the key made of their counts are its
-- own. For `judge`.
use Rattle.std.proofs.Common.{◌∙◌, ap}
use Rattle.layout_spec.specs.declared.Tally.{Tally}
use Rattle.layout_spec.specs.Order.{key_by}
use Rattle.layout_search.proofs.ZonesInImage.{inside}
use Rattle.layout_search.proofs.trying.judge.Goals as goal

pub count_zones-requires-clause-inside : goal.count_zones-requires-clause-inside
count_zones-requires-clause-inside c =
    inside c.args.image.now c.args.zones.now c.args.c.now.mem c.requires.laid.whole c.requires.within

pub returns-clause-sound : goal.returns-clause-sound
returns-clause-sound c = λ known besides family other sound. c.better.ensures.sound known c.args.image.now besides
    (record {
      of_family = family;
      tally_is = c.tally-tally.ensures;
      key_is = c.key.ensures ∙ ap (λ (t : Tally). key_by t c.args.c.now) c.tally-tally.ensures;
      other = other;
    }) sound
