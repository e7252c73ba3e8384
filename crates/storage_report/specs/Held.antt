-- The storage that an image is
use Rattle.std.specs.Prelude.{◌≡◌, ⊤, ℕ, List, Option, Some, None, Ok, Err, IfSome}
use Rattle.psz_spec.specs.declared.Sizes.{Sizes}
use Rattle.storage_words.specs.declared.Storages.{Storages}
use Rattle.storage_words.specs.declared.Storages.TheVariants.{Never, Shown, All}
use Rattle.storage_spec.specs.declared.Storage.{Storage}
use Rattle.storage_spec.specs.Found.{front_of, storage_in}
use Rattle.storage_spec.specs.Zones.{readings_in}
use Rattle.storage_spec.specs.Records.{held_in}
use Rattle.storage_spec.specs.Told.{storage_lines}
use Rattle.storage_words.specs.Division.{storage_of}
use Rattle.storage_report.specs.declared.storage.HeldStorage.{HeldStorage}
use Rattle.storage_report.specs.declared.storage.NoStorage.{NoStorage}
use Rattle.storage_report.specs.declared.storage.NoStorage.TheVariants.{Stopped, Undivided}
use Rattle.storage_report.specs.Faults.{IsUnread}

-- a copy of an image, that may have other bytes, and shows the same of a storage: readings, records and lines
pub record ShowsTheSame (s : Storage) (image copy : List ℕ) : Type 0 where
  pub readings : readings_in s.machine s.sizes image ≡ readings_in s.machine s.sizes copy
  pub records : held_in s.machine s.sizes image ≡ held_in s.machine s.sizes copy
  pub lines : (name : List ℕ) → storage_lines name s image ≡ storage_lines name s copy

-- the storage that these bytes show, with a copy of them
pub record IsShownBy (bytes : List ℕ) (h : HeldStorage) : Type 0 where
  pub shown : storage_in bytes ≡ Some h.storage
  pub same : ShowsTheSame h.storage bytes h.bytes.items

abbrev pub IsShownIn : List ℕ → Option HeldStorage → Type 0
IsShownIn bytes None = storage_in bytes ≡ None
IsShownIn bytes (Some h) = IsShownBy bytes h

-- the storage that the front of an image shows, or that it shows none
abbrev pub IsHeld : Option (List ℕ) → Option HeldStorage → Type 0
IsHeld holds held = IfSome holds (λ image. IsShownIn (front_of image) held)

-- ---- by sizes that are given

-- the storage that they divide, with a copy of its bytes
pub record IsDividedBy (sizes : Sizes) (bytes : List ℕ) (h : HeldStorage) : Type 0 where
  pub divided : storage_of sizes bytes ≡ Ok h.storage
  pub same : ShowsTheSame h.storage bytes h.bytes.items

abbrev pub IsDivided : Sizes → Option (List ℕ) → HeldStorage → Type 0
IsDivided sizes holds h = IfSome holds (λ image. IsDividedBy sizes (front_of image) h)

abbrev pub IsUndivided : Sizes → Option (List ℕ) → ℕ → ℕ → NoStorage → Type 0
IsUndivided sizes holds before now (Stopped stop) = IsUnread stop before now
IsUndivided sizes holds before now (Undivided fault) =
    (now ≡ before) × IfSome holds (λ image. storage_of sizes (front_of image) ≡ Err fault)

-- ---- as files are looked at

abbrev pub IsLookedAt : Storages → Option (List ℕ) → Option HeldStorage → Type 0
IsLookedAt Never holds None = ⊤
IsLookedAt Never holds (Some h) = ⊥
IsLookedAt Shown holds held = IsHeld holds held
IsLookedAt (All sizes) holds None = ⊥
IsLookedAt (All sizes) holds (Some h) = IsDivided sizes holds h

-- why it is not known, by the count of faults before and now; a read failed only if that is told
abbrev pub IsNotLookedAt : Storages → Option (List ℕ) → ℕ → ℕ → NoStorage → Type 0
IsNotLookedAt Never holds before now why = ⊥
IsNotLookedAt Shown holds before now (Stopped stop) = IsUnread stop before now
IsNotLookedAt Shown holds before now (Undivided fault) = ⊥
IsNotLookedAt (All sizes) holds before now why = IsUndivided sizes holds before now why
