-- What is seen of the places of zones, without reading a header
use Rattle.std.specs.Prelude.{◌≡◌, ℕ, ◌+◌, ◌*◌, ◌^◌, ◌≤◌, not, List, count_by}
use Rattle.std.specs.List.{range_with_len}
use Rattle.zone_spec.specs.declared.params.Row.{Row}
use Rattle.layout_spec.specs.Marks.{is_mark, seems_to_begin}
use Rattle.layout_search.specs.declared.seeing.Seen.{Seen}

pub record IsSmallRow (row : Row) : Type 0 where
  pub count : row.count ≤ 2 ^ 25
  pub size : row.size ≤ 2 ^ 24

-- how many zones of the row seem to begin nowhere, if the first is at this place
unfoldable pub far_in : List ℕ → Row → ℕ → ℕ
far_in image row start =
    count_by (λ i. not (seems_to_begin row.kind image (start + i * row.size))) (range_with_len 0 row.count)

-- and how many begin at a mark
unfoldable pub marked_in : List ℕ → Row → ℕ → ℕ
marked_in image row start = count_by (λ i. is_mark image (start + i * row.size)) (range_with_len 0 row.count)

-- where the next row begins
abbrev pub row_end : Row → ℕ → ℕ
row_end row start = start + row.count * row.size

-- what is seen with this row
pub record IsSeen (image : List ℕ) (row : Row) (start : ℕ) (before after : Seen) : Type 0 where
  pub far : after.far ≡ before.far + far_in image row start
  pub marked : after.marked ≡ before.marked + marked_in image row start
  pub most_far : after.far ≤ before.far + row.count
  pub most_marked : after.marked ≤ before.marked + row.count
