-- A boot of a zone between its stores
use Rattle.std.specs.Prelude.{◌≡◌, ℕ, ◌+◌, ◌*◌, ◌<◌, ◌≤◌, List, ◌++◌, length, take}
use Rattle.zone_spec.specs.declared.Zone.{Zone}
use Rattle.zone_spec.specs.Parts.{Part}
use Rattle.zone_spec.specs.PartReadings.{part_reading}
use Rattle.zone_spec.specs.Stores.{Store, after_stores}
use Rattle.zone_spec.specs.Boot.{boot_stores}
use Rattle.zone_boot.specs.declared.boots.Boot.{Boot}
use Rattle.zone_boot.specs.declared.boots.Phase.{Phase}
use Rattle.zone_boot.specs.declared.boots.Phase.TheVariants.{Header as HeaderPhase, Blocks, Signature, Start, Size}
use Rattle.zone_boot.specs.declared.boots.Phase.TheVariants.{Parity, Finished}
use Rattle.zone_boot.specs.declared.handing.BootStore.{BootStore}
use Rattle.zone_boot.specs.Left.{left_at}
use Rattle.zone_boot.specs.Handed.{handed, handed_len, IsPlain}

-- the stores that a boot has still to make in an image
abbrev pub left_of : Boot → List ℕ → List Store
left_of b image = left_at b.zone image b.block b.within b.count b.erasure b.phase

-- where a boot may be
abbrev pub IsPlace : Zone → ℕ → ℕ → ℕ → Phase → Type 0
IsPlace z block w count HeaderPhase = w ≤ 12
IsPlace z block w count Blocks = (block ≤ count) × (w ≤ z.block)
IsPlace z block w count Signature = Unit {0}
IsPlace z block w count Start = Unit {0}
IsPlace z block w count Size = Unit {0}
IsPlace z block w count Parity = Unit {0}
IsPlace z block w count Finished = Unit {0}

-- no more stores than bytes and words that it has passed
abbrev pub most_made : Zone → ℕ → ℕ → Phase → ℕ
most_made z block w HeaderPhase = w
most_made z block w Blocks = 12 + z.block * block + w
most_made z block w Signature = 12 + z.cap + 2 * z.block
most_made z block w Start = 13 + z.cap + 2 * z.block
most_made z block w Size = 14 + z.cap + 2 * z.block
most_made z block w Parity = 15 + z.cap + 2 * z.block
most_made z block w Finished = 15 + z.cap + 2 * z.block + z.parity

-- numbers of a boot in its zone: the blocks that it corrects hold data, it is within the part that it corrects, and
-- has not made more stores than it has passed places
pub record IsKept (b : Boot) : Type 0 where
  pub count : b.zone.block * b.count < b.zone.cap + b.zone.block
  pub place : IsPlace b.zone b.block b.within b.count b.phase
  pub made : b.made ≤ most_made b.zone b.block b.within b.phase

-- now is what before became by the first made stores of a boot, and the others are those that the boot has still to
-- make
pub record IsBooting (b : Boot) (before now : List ℕ) : Type 0 where
  pub done : List Store
  pub whole : boot_stores b.zone before ≡ done ++ left_of b now
  pub image : now ≡ after_stores before done
  pub count : b.made ≡ length done

-- a boot that handed out these stores of those that it had to make
pub record Gives (old : Boot) (image : List ℕ) (new : Boot) (out : BootStore) : Type 0 where
  pub left : left_of old image ≡ handed out ++ left_of new (after_stores image (handed out))
  -- where only the first m of them are made there are as many to come
  pub counts : (m : ℕ) → length (left_of old image)
      ≡ length (handed out) + length (left_of new (after_stores image (take m (handed out))))
  pub zone : new.zone ≡ old.zone
  pub made : new.made ≡ old.made + length (handed out)
  pub kept : IsKept new
  pub inside : out.place + handed_len out ≤ old.zone.size
  pub plain : IsPlain out

-- each part reads as before where the first of these stores are made
abbrev pub KeepsReadings : Zone → List ℕ → List Store → Type 0
KeepsReadings z image stores = (m : ℕ) (p : Part)
    → (part_reading z (after_stores image (take m stores)) p).bytes ≡ (part_reading z image p).bytes
