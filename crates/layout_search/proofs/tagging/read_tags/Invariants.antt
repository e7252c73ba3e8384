-- The tags of the zones so far are added. For the loop of `read_tags`.
use Rattle.std.proofs.Common.{◌≡◌, ◌++◌, map, take}
use Rattle.std.specs.Prelude.{filter}
use Rattle.layout_spec.specs.Family.{is_tagged, tag_read}
use Rattle.layout_search.proofs.tagging.read_tags.Given as goal

-- the tags so far
abbrev pub invariant-loop-zone : goal.invariant-loop-zone
invariant-loop-zone l =
    l.tags.items ≡ l.initial.tags.items ++ map (tag_read l.image) (filter (is_tagged l.image) (take l.zone-index l.zones))
