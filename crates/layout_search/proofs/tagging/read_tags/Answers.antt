-- Each zone of the list lies in the image, so its tag can be read. For `read_tags`.
use Rattle.std.proofs.lemmas.Option.{slice_get-get_or}
use Rattle.layout_search.proofs.tagging.read_tags.Goals as goal

pub tag_of-requires : goal.tag_of-requires
tag_of-requires c = c.requires c.loop-zone.zone-index _
    (slice_get-get_or c.args.zones.now c.loop-zone.zone-index _ c.loop-zone-test.true)
