-- The time is that of the first listed dump of this number. For `time`.
use Rattle.std.proofs.Common.{◌∙◌, ◌==◌, ap, List}
use Rattle.std.specs.List.{find}
use Rattle.std.specs.Option.{option_map}
use Rattle.blk_spec.specs.Reading.{BlkDump}
use Rattle.blk_spec.specs.States.{BlkState, time_of}
use Rattle.zone_blk.proofs.blk.Blk.time.Goals as goal

pub returns : goal.returns
unfolding time_of
returns c =
    c.find_time.ensures
    ∙ ap (λ (ds : List BlkDump). option_map (λ (d : BlkDump). d.time)
    (find (λ (d : BlkDump). d.index == c.args.index) ds))
    (c.deref.ensures.value ∙ ap (λ (b : BlkState). b.dumps) c.self.view_is)
