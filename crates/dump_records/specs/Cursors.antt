-- What a cursor shows.
use Rattle.std.specs.Prelude.{ℕ}
use Rattle.dump_records.specs.declared.cursor.Cursor.{Cursor}

-- the number of dump zones
abbrev pub zones_of : Cursor → ℕ
zones_of c = c.zones

-- the dump zone that the next dump goes to
abbrev pub place_of : Cursor → ℕ
place_of c = c.place
