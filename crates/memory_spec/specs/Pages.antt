-- The pages of a memory at which a header seems to stand
use Rattle.std.specs.Prelude.{ℕ, ◌*◌, ◌-◌, Bool, List, length}
use Rattle.std.specs.Int.{div_ceil}
use Rattle.std.specs.List.{range_with_len, filter}
use Rattle.layout_spec.specs.Marks.{is_mark}

-- how many pages of 4,096 bytes begin with a whole header in so many bytes; the last may be cut
abbrev pub pages : ℕ → ℕ
pages len = div_ceil (len - 11) 4096

-- a region begins at a page, with the header of its first zone
abbrev pub is_marked : List ℕ → ℕ → Bool
is_marked bytes page = is_mark bytes (4096 * page)

-- the numbers of the marked pages, rising
unfoldable pub marked : List ℕ → List ℕ
marked bytes = filter (is_marked bytes) (range_with_len 0 (pages (length bytes)))
