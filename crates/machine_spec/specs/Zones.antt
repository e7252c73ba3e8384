-- The zones of a layout in an image, and beside what is known of each
use Rattle.std.specs.Prelude.{◌≡◌, ℕ, ◌+◌, List, length, count_by, slice_get, slice_range, Some}
use Rattle.zone_spec.specs.declared.Zone.{Zone}
use Rattle.zone_spec.specs.declared.Kind.TheVariants.{Dump}
use Rattle.zone_spec.specs.Records.{is_of}

-- how many dump zones a layout has
abbrev pub dump_zones : List Zone → ℕ
dump_zones layout = count_by (λ z. is_of Dump z.name.kind) layout

-- a zone's bytes in an image
abbrev pub zone_bytes : Zone → List ℕ → List ℕ
zone_bytes z image = slice_range image z.at (z.at + z.size)

-- the list has one item for each zone of the layout, and each item is so beside its zone
abbrev pub EachZone : {A : Type 0} → List Zone → List A → (Zone → A → Type 0) → Type 0
EachZone {A} layout items P = (length items ≡ length layout)
    × ((i : ℕ) (z : Zone) (a : A) → slice_get layout i ≡ Some z → slice_get items i ≡ Some a → P z a)
