-- The bytes that places of a zone's data read
use Rattle.std.specs.Prelude.{ℕ, List, map}
use Rattle.std.specs.List.{range_with_len}
use Rattle.zone_spec.specs.declared.Zone.{Zone}
use Rattle.zone_spec.specs.Reading.{byte_read}

-- the bytes that n data places from this one on read
unfoldable pub bytes_at : Zone → List ℕ → ℕ → ℕ → List ℕ
bytes_at z image place n = map (λ p. byte_read z image p) (range_with_len place n)
