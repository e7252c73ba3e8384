-- A boot that is cut after some of its stores, zone by zone
use Rattle.std.specs.Prelude.{◌≡◌, ℕ, zero, suc, ◌+◌, ◌-◌, ◌<◌, ◌≤◌, nat_le, List, ◌++◌, length, take, slice_get}
use Rattle.std.specs.Prelude.{Option, Some, None}
use Rattle.zone_spec.specs.declared.Zone.{Zone}
use Rattle.zone_spec.specs.Reading.{zone_reading}
use Rattle.zone_spec.specs.Stores.{after_stores}
use Rattle.zone_spec.specs.Boot.{boot_stores, boot_fixes}
use Rattle.prz_region.specs.CutRegion.{CutRegion, span}
use Rattle.ramoops.specs.Made.{boot_writes}
use Rattle.ramoops.specs.declared.booting.Passed.{Passed}
use Rattle.ramoops.specs.declared.booting.BootProgress.{BootProgress}

-- how many stores a boot has in a zone, if there is one
abbrev pub stores_in : Option Zone → List ℕ → ℕ
stores_in None bytes = 0
stores_in (Some z) bytes = length (boot_stores z bytes)

-- and in the first n zones, which hold these bytes
unfoldable pub stores_before : List Zone → CutRegion → ℕ → ℕ
stores_before layout cut zero = 0
stores_before layout cut (suc n) = stores_before layout cut n + stores_in (slice_get layout n) (span cut n)

-- how many of so many come at or behind the n-th zone
abbrev pub left_for : List Zone → CutRegion → ℕ → ℕ → ℕ
left_for layout cut limit n = limit - stores_before layout cut n

-- how a boot passed a zone that held these bytes
pub record Passes (z : Zone) (bytes : List ℕ) (left : ℕ) (p : Passed) : Type 0 where
  pub left_is : p.left ≡ left
  pub words : p.words ≡ (zone_reading z bytes).words
  pub all : p.settled.all ≡ length (boot_stores z bytes)
  pub erase_at : p.settled.erase_at ≡ length (boot_fixes z bytes)

-- of the first n zones as many boot stores are made as the limit leaves, one zone after the other, and no other store
pub record PartsTo (layout : List Zone) (old new : CutRegion) (limit n : ℕ) (progress : BootProgress)
    (passed : List Passed) : Type 0 where
  pub count : length new.spans ≡ length old.spans
  pub rest : new.rest ≡ old.rest
  pub made : (i : ℕ) (z : Zone) → i < n → slice_get layout i ≡ Some z
      → span new i ≡ after_stores (span old i) (take (left_for layout old limit i) (boot_stores z (span old i)))
  pub others : (i : ℕ) → n ≤ i → span new i ≡ span old i
  pub stores : new.made ≡ old.made ++ take limit (boot_writes layout old n)
  pub left_is : progress.left ≡ left_for layout old limit n
  pub whole : progress.is_whole ≡ nat_le (stores_before layout old n) limit
  pub passed_len : length passed ≡ n
  pub passes : (i : ℕ) (z : Zone) (p : Passed) → i < n → slice_get layout i ≡ Some z → slice_get passed i ≡ Some p
      → Passes z (span old i) (left_for layout old limit i) p
