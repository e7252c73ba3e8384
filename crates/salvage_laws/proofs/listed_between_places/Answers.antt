-- A worked dump: a ring without parity two bytes after the dump's beginning is listed there alone,
-- and once for two zones of one shape. The checker computes it.
use Rattle.std.proofs.Common.{refl}
use Rattle.code_spec.specs.Code.{nearest, is_codeword, distance}
use Rattle.zone_spec.specs.Parts.{part_word, part_bytes}
use Rattle.salvage_spec.specs.Rings.{rings, ring_at, ring_in, shapes}
use Rattle.salvage_laws.proofs.listed_between_places.Goals as goal

pub returns : goal.returns
unfolding rings ring_at ring_in shapes nearest is_codeword distance part_word part_bytes
returns c = refl
