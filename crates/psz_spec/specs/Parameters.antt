-- The sizes that pstore_blk's parameters give, as `kmsg_size=64`, in KiB (fs/pstore/blk.c, check_size)
use Rattle.std.specs.Prelude.{ℕ, ◌+◌, ◌*◌, ◌/◌, ◌%◌, ◌==◌, if◌then◌else◌}

-- a multiple of 4 is taken as it is. Another should be rounded up to one, but the kernel rounds the KiB as though they
-- were bytes: 5, 10 and 63 all give 4096 bytes
unfoldable pub kib_size : ℕ → ℕ
kib_size kib = if kib % 4 == 0 then kib * 1024 else (kib + 4095) / 4096 * 4096
