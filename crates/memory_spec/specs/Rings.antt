-- What the headers in a memory tell of a region's size
use Rattle.std.specs.Prelude.{ℕ, ◌+◌, ◌*◌, ◌==◌, List, [], ◌∷◌, ◌++◌, if◌then◌else◌, nat_le, slice_range}
use Rattle.std.specs.List.{flat_map}
use Rattle.zone_spec.specs.declared.params.ByteOrder.{ByteOrder}
use Rattle.zone_spec.specs.declared.params.ByteOrder.TheVariants.{Little, Big}
use Rattle.zone_spec.specs.Numbers.{header_len, start_at, size_at, plain_sig}
use Rattle.zone_spec.specs.WordBytes.{word_of}
use Rattle.layout_spec.specs.Marks.{is_mark, halves}

-- the word that stands here
abbrev pub word_at : ByteOrder → List ℕ → ℕ → ℕ
word_at order bytes at = word_of order (slice_range bytes at (at + 4))

-- the end of a header, where its signature is whole
abbrev pub header_end : ByteOrder → List ℕ → ℕ → List ℕ
header_end order bytes at = if word_at order bytes at == plain_sig then (at + header_len) ∷ [] else []

-- the end of its ring, which its size tells, where its start is not above its size
abbrev pub ring_end : ByteOrder → List ℕ → ℕ → List ℕ
ring_end order bytes at =
    let size = word_at order bytes (at + size_at) in
    if nat_le (word_at order bytes (at + start_at)) size then (at + header_len + size) ∷ [] else []

-- both ends: so a header counts whose signature or start is damaged
abbrev pub ends_in : ByteOrder → List ℕ → ℕ → List ℕ
ends_in order bytes at = header_end order bytes at ++ ring_end order bytes at

-- of a place at which a header seems to stand, by its words in either order of bytes
abbrev pub ends_at : List ℕ → ℕ → List ℕ
ends_at bytes at = if is_mark bytes at then ends_in Little bytes at ++ ends_in Big bytes at else []

-- of all even places with a whole header after them: zones need not begin at a page
unfoldable pub ends : List ℕ → List ℕ
ends bytes = flat_map (λ i. ends_at bytes (2 * i)) (halves bytes)
