-- Stores, and an image after some of them
use Rattle.std.specs.Prelude.{ℕ, ◌+◌, List, [], ◌∷◌, set}
use Rattle.zone_spec.specs.declared.params.ByteOrder.{ByteOrder}
use Rattle.zone_spec.specs.WordBytes.{word_bytes}

-- bytes put at a place of the image at once: a word's four, or one
pub record Store : Type 0 where
  pub place : ℕ
  pub bytes : List ℕ

-- the image with these bytes from the place on
unfoldable pub put : List ℕ → ℕ → List ℕ → List ℕ
put image place [] = image
put image place (b ∷ bs) = put (set image place b) (place + 1) bs

-- the image after these stores
unfoldable pub after_stores : List ℕ → List Store → List ℕ
after_stores image [] = image
after_stores image (s ∷ ss) = after_stores (put image s.place s.bytes) ss

-- a store for each byte, rising
unfoldable pub byte_stores : ℕ → List ℕ → List Store
byte_stores place [] = []
byte_stores place (b ∷ bs) = record { place = place; bytes = b ∷ [] } ∷ byte_stores (place + 1) bs

-- one store of a word
abbrev pub word_store : ByteOrder → ℕ → ℕ → List Store
word_store order place n = record { place = place; bytes = word_bytes order n } ∷ []
