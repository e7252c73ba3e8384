-- The numbers of a zone's format (fs/pstore/ram_core.c, struct persistent_ram_buffer)
use Rattle.std.specs.Prelude.{ℕ, ◌^◌}

-- how many bytes the header has
abbrev pub header_len : ℕ
header_len = 12

-- where its start word and its size word begin; the signature is at 0
abbrev pub start_at : ℕ
start_at = 4

abbrev pub size_at : ℕ
size_at = 8

-- the signature of a zone without a tag
abbrev pub plain_sig : ℕ
plain_sig = 0x43474244

-- the most memory that a layout divides, by the project's own choice
abbrev pub most_memory : ℕ
most_memory = 2 ^ 24
