-- What a call does in turn, and the stores that this makes
use Rattle.std.specs.Prelude.{ℕ, ◌+◌, ◌-◌, ◌/◌, List, [], ◌∷◌, ◌++◌, length}
use Rattle.std.specs.List.{range_with_len}
use Rattle.zone_spec.specs.declared.Zone.{Zone}
use Rattle.zone_spec.specs.Numbers.{header_len, start_at, size_at}
use Rattle.code_spec.specs.Code.{parity_of}
use Rattle.zone_spec.specs.Parts.{Part, part_bytes, part_parity_at}
use Rattle.zone_spec.specs.Stores.{Store, after_stores, byte_stores, word_store}

-- a word of the header, a run of data bytes from a data place on, or the parity of a part as it then stands
pub data Stage : Type 0 where
  SigWord : (n : ℕ) → Stage
  StartWord : (n : ℕ) → Stage
  SizeWord : (n : ℕ) → Stage
  Run : (place : ℕ) (bytes : List ℕ) → Stage
  ParityOf : (part : Part) → Stage

-- the stores of a stage on an image
unfoldable pub stage_stores : Zone → Stage → List ℕ → List Store
stage_stores z (SigWord n) image = word_store z.byte_order 0 n
stage_stores z (StartWord n) image = word_store z.byte_order start_at n
stage_stores z (SizeWord n) image = word_store z.byte_order size_at n
stage_stores z (Run place bytes) image = byte_stores (header_len + place) bytes
stage_stores z (ParityOf part) image = byte_stores (part_parity_at z part)
    (parity_of z.parity (part_bytes z image part))

-- the stores of the stages, each on the image that those before it leave
unfoldable pub stores_in_turn : Zone → List Stage → List ℕ → List Store
stores_in_turn z [] image = []
stores_in_turn z (g ∷ gs) image =
    stage_stores z g image ++ stores_in_turn z gs (after_stores image (stage_stores z g image))

-- how many stores a stage makes
abbrev pub stage_count : Zone → Stage → ℕ
stage_count z (Run place bytes) = length bytes
stage_count z (ParityOf part) = z.parity
stage_count z word = 1

-- the blocks that n bytes from a data place on meet, for an n above 0
abbrev pub blocks_met : Zone → ℕ → ℕ → List ℕ
blocks_met z place n = range_with_len (place / z.block) ((place + n + z.block - 1) / z.block - place / z.block)
