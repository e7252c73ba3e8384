-- What the rows begin with
use Rattle.std.specs.Prelude.{ℕ, List, [], ◌∷◌, ◌++◌, length, drop, replicate}
use Rattle.zone_spec.specs.declared.Zone.{Zone}
use Rattle.zone_spec.specs.Told.{Append}
use Rattle.zone_spec.specs.Stores.{after_stores}
use Rattle.zone_spec.specs.Calls.{call_stores}
use Rattle.zone_spec.specs.Boot.{boot_stores}

-- the bytes of `abc`, `def`, and the plain signature
abbrev pub abc : List ℕ
abc = 0x61 ∷ 0x62 ∷ 0x63 ∷ []

abbrev pub def : List ℕ
def = 0x64 ∷ 0x65 ∷ 0x66 ∷ []

abbrev pub signature : List ℕ
signature = 0x44 ∷ 0x42 ∷ 0x47 ∷ 0x43 ∷ []

-- these bytes, and zeros up to this length
abbrev pub then_zeros : ℕ → List ℕ → List ℕ
then_zeros n front = front ++ drop (length front) (replicate n 0)

-- a zone of zeros after a boot, and after an append then
abbrev pub zone_booted : Zone → List ℕ
zone_booted z = after_stores (replicate z.size 0) (boot_stores z (replicate z.size 0))

abbrev pub zone_written : Zone → List ℕ → List ℕ
zone_written z payload = after_stores (zone_booted z) (call_stores z (Append payload) (zone_booted z))
