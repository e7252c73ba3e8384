-- The zones that a record counts
use Rattle.std.specs.Prelude.{List, slice_get, option_to_list}
use Rattle.zone_spec.specs.declared.Name.{Name}
use Rattle.zone_spec.specs.declared.Name.TheVariants.{Dump, Console, Pmsg, Ftrace}
use Rattle.zone_spec.specs.Records.{Saved}

-- the zones over which a record's counts go: dump zone i is the i-th of a layout
abbrev pub zones_counted : Name → List Saved → List Saved
zones_counted (Dump index packed) zones = option_to_list (slice_get zones index)
zones_counted Console zones = zones
zones_counted Pmsg zones = zones
zones_counted Ftrace zones = zones
