-- How often an image is written as it is saved
use Rattle.std.specs.Prelude.{ℕ, zero, suc, ◌+◌, ◌/◌}
use Rattle.outside.specs.Outside.{next_count}

-- how many pieces of 65,536 bytes so many bytes are cut into; the last one may be shorter
abbrev pub piece_count : ℕ → ℕ
piece_count size = (size + 65535) / 65536

-- a count after so many calls
unfoldable pub count_after : ℕ → ℕ → ℕ
count_after zero count = count
count_after (suc calls) count = count_after calls (next_count count)
