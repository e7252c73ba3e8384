-- The bytes from here on make the rest of the CRC. For the loop of `crc32`.
use Rattle.std.proofs.Common.{◌≡◌, drop}
use Rattle.gzip_spec.specs.Crc.{crc_from}
use Rattle.crc32.proofs.crc32.Given as goal

abbrev pub invariant-loop-byte : goal.invariant-loop-byte
invariant-loop-byte l = crc_from 0xffffffff l.bytes ≡ crc_from l.crc (drop l.byte-index l.bytes)
