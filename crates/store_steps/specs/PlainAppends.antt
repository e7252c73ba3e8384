-- The stores of an append to a zone without parity
use Rattle.std.specs.Prelude.{ℕ, ◌+◌, ◌-◌, ◌%◌, min, if◌then◌else◌, ◌==◌, List, [], ◌∷◌, ◌++◌, length, take, drop}
use Rattle.std.specs.Prelude.{Option, Some, None}
use Rattle.zone_spec.specs.declared.params.ByteOrder.{ByteOrder}
use Rattle.zone_spec.specs.declared.Zone.{Zone}
use Rattle.zone_spec.specs.Stores.{Store, byte_stores, word_store}

-- a size word, if there is one
abbrev pub size_store : ByteOrder → Option ℕ → List Store
size_store order None = []
size_store order (Some size) = word_store order 8 size

-- the size word of an append of n bytes, which is left away in a full ring
abbrev pub plain_size : Zone → ℕ → ℕ → List Store
plain_size z size n = if size == z.cap then [] else word_store z.byte_order 8 (min z.cap (size + n))

abbrev pub plain_words : Zone → ℕ → ℕ → ℕ → List Store
plain_words z start size n = plain_size z size n ++ word_store z.byte_order 4 ((start + n) % z.cap)

-- the bytes up to the zone's end, and those that go on at its begin
abbrev pub plain_runs : Zone → ℕ → List ℕ → List Store
plain_runs z start bytes =
    byte_stores (12 + start) (take (z.cap - start) bytes) ++ byte_stores 12 (drop (z.cap - start) bytes)

-- those of at most cap bytes to a ring with this start and size
abbrev pub plain_stores : Zone → ℕ → ℕ → List ℕ → List Store
plain_stores z start size [] = []
plain_stores z start size (b ∷ bs) = plain_words z start size (length (b ∷ bs)) ++ plain_runs z start (b ∷ bs)
