-- The stores that a boot has still to make
use Rattle.std.specs.Prelude.{ℕ, ◌+◌, ◌-◌, List, [], ◌∷◌, ◌++◌, drop, flat_map}
use Rattle.std.specs.List.{range_with_len}
use Rattle.zone_spec.specs.declared.Zone.{Zone}
use Rattle.zone_spec.specs.Parts.{Part, Header, Block, part_at, part_bytes}
use Rattle.zone_spec.specs.PartReadings.{part_reading}
use Rattle.zone_spec.specs.Stores.{Store, after_stores}
use Rattle.zone_spec.specs.Stages.{Stage, SigWord, SizeWord, ParityOf, stores_in_turn}
use Rattle.zone_spec.specs.Calls.{erase_stages}
use Rattle.zone_spec.specs.Boot.{fix_stores, part_fixes}
use Rattle.zone_boot.specs.declared.deciding.Erasure.{Erasure}
use Rattle.zone_boot.specs.declared.deciding.Erasure.TheVariants.{Kept, Erased, Signed}
use Rattle.zone_boot.specs.declared.boots.Phase.{Phase}
use Rattle.zone_boot.specs.declared.boots.Phase.TheVariants.{Header as HeaderPhase, Blocks, Signature, Start, Size}
use Rattle.zone_boot.specs.declared.boots.Phase.TheVariants.{Parity, Finished}

-- the stages of an erasure
abbrev pub stages_of : Zone → Erasure → List Stage
stages_of z Kept = []
stages_of z Erased = erase_stages
stages_of z Signed = SigWord z.sig ∷ erase_stages

-- those that come, in each phase
abbrev pub stages_left : Zone → Erasure → Phase → List Stage
stages_left z e HeaderPhase = stages_of z e
stages_left z e Blocks = stages_of z e
stages_left z e Signature = SigWord z.sig ∷ erase_stages
stages_left z e Start = erase_stages
stages_left z e Size = SizeWord 0 ∷ ParityOf Header ∷ []
stages_left z e Parity = ParityOf Header ∷ []
stages_left z e Finished = []

-- a part's corrections from its byte w on
unfoldable pub part_left : Zone → List ℕ → Part → ℕ → List Store
part_left z image part w = fix_stores (part_at z part + w) (drop w (part_bytes z image part))
    (drop w (part_reading z image part).bytes)

-- those of the first of these blocks from its byte w on, and all of the others
unfoldable pub blocks_left : Zone → List ℕ → ℕ → List ℕ → List Store
blocks_left z image w [] = []
blocks_left z image w (b ∷ bs) = part_left z image (Block b) w ++ flat_map (λ k. part_fixes z image (Block k)) bs

-- the corrections that come, in each phase: all of them are of the header and the first count blocks
abbrev pub fixes_left : Zone → List ℕ → ℕ → ℕ → ℕ → Phase → List Store
fixes_left z image block w count HeaderPhase = part_left z image Header w
    ++ blocks_left z image 0 (range_with_len 0 count)
fixes_left z image block w count Blocks = blocks_left z image w (range_with_len block (count - block))
fixes_left z image block w count Signature = []
fixes_left z image block w count Start = []
fixes_left z image block w count Size = []
fixes_left z image block w count Parity = []
fixes_left z image block w count Finished = []

-- the corrections, and then the stages of the erasure on what they leave
unfoldable pub then_stages : Zone → List ℕ → List Store → List Stage → List Store
then_stages z image fixes stages = fixes ++ stores_in_turn z stages (after_stores image fixes)

-- the stores that come
abbrev pub left_at : Zone → List ℕ → ℕ → ℕ → ℕ → Erasure → Phase → List Store
left_at z image block w count e phase = then_stages z image (fixes_left z image block w count phase)
    (stages_left z e phase)
