-- The faults of a layout are at least what is seen of its zones' places
use Rattle.std.proofs.Common.{◌≡◌, ℕ, suc, ◌+◌, ◌-◌, ◌*◌, ◌<◌, ◌≤◌, Bool, true, false, not, ◌&&◌, if◌then◌else◌, List}
use Rattle.std.proofs.Common.{[], ◌∷◌, ◌++◌, map, sym, ap, subst, ◌∙◌, arith}
use Rattle.std.specs.Prelude.{count_by, sum_by}
use Rattle.std.specs.List.{range_with_len}
use Rattle.std.proofs.lemmas.List.Sums.{sum_by-append, sum_by-cons}
use Rattle.zone_spec.specs.declared.Zone.{Zone}
use Rattle.zone_spec.specs.declared.params.Params.{Params}
use Rattle.zone_spec.specs.declared.params.Row.{Row}
use Rattle.zone_spec.specs.declared.params.Order.{Order}
use Rattle.zone_spec.specs.declared.params.Order.TheVariants.{FtracePmsg, PmsgFtrace}
use Rattle.zone_spec.specs.Layout.{zone_at, zones_from, ordered}
use Rattle.layout_spec.specs.Marks.{fits, is_mark, marks, seems_to_begin}
use Rattle.layout_spec.specs.Order.{misses, faults}
use Rattle.layout_search.specs.Seen.{far_in, marked_in, row_end}
use Rattle.layout_search.proofs.Ranges.{sum_le, sum_ge, count_range}

abbrev one_if : Bool → ℕ
one_if b = if b then 1 else 0

abbrev count_rows : List Row → ℕ
count_rows rows = sum_by (λ (row : Row). row.count) rows

-- what is seen of all rows
unfoldable pub rows_far : List ℕ → ℕ → List Row → ℕ
rows_far image at [] = 0
rows_far image at (row ∷ rows) = far_in image row at + rows_far image (row_end row at) rows

unfoldable pub rows_marked : List ℕ → ℕ → List Row → ℕ
rows_marked image at [] = 0
rows_marked image at (row ∷ rows) = marked_in image row at + rows_marked image (row_end row at) rows

far_le : (a b c : Bool) → one_if (not a) ≤ one_if (not ((a && b) && c))
far_le true b c = omega arith
far_le false b c = omega arith

-- a zone that seems to begin nowhere does not fit
pub far_misses : (image : List ℕ) (z : Zone)
    → one_if (not (seems_to_begin z.name.kind image z.at)) ≤ one_if (not (fits image z))
unfolding fits
far_misses image z = far_le (seems_to_begin z.name.kind image z.at) _ _

pub misses_far : (image : List ℕ) (p : Params) (at : ℕ) (rows : List Row)
    → rows_far image at rows ≤ misses image (zones_from p at rows)
unfolding rows_far zones_from far_in
misses_far image p at [] = omega arith
misses_far image p at (row ∷ rows) =
    let g : ℕ → Zone = λ i. zone_at p row.kind row.size i (at + i * row.size) in
    omega (
      arith,
      sum_by-append (λ z. one_if (not (fits image z))) (map g (range_with_len 0 row.count))
          (zones_from p (row_end row at) rows),
      sum_le (λ i. one_if (not (seems_to_begin row.kind image (at + i * row.size)))) (λ z. one_if (not (fits image z))) g
          (λ i. far_misses image (g i)) 0 row.count,
      misses_far image p (row_end row at) rows,
    )

pub marked_le : (image : List ℕ) (p : Params) (at : ℕ) (rows : List Row)
    → count_by (λ (z : Zone). is_mark image z.at) (zones_from p at rows) ≤ rows_marked image at rows
unfolding rows_marked zones_from marked_in
marked_le image p at [] = omega arith
marked_le image p at (row ∷ rows) =
    let g : ℕ → Zone = λ i. zone_at p row.kind row.size i (at + i * row.size) in
    omega (
      arith,
      sum_by-append (λ (z : Zone). one_if (is_mark image z.at)) (map g (range_with_len 0 row.count))
          (zones_from p (row_end row at) rows),
      sum_ge (λ i. one_if (is_mark image (at + i * row.size))) (λ (z : Zone). one_if (is_mark image z.at)) g
          (λ i. omega arith) 0 row.count,
      marked_le image p (row_end row at) rows,
    )

pub marked_few : (image : List ℕ) (at : ℕ) (rows : List Row) → rows_marked image at rows ≤ count_rows rows
unfolding rows_marked marked_in
marked_few image at [] = omega arith
marked_few image at (row ∷ rows) = omega (
  arith,
  sum_by-cons (λ (row : Row). row.count) row rows,
  count_range (λ i. is_mark image (at + i * row.size)) row.count,
  marked_few image (row_end row at) rows,
)

pub marked_within : (image : List ℕ) (row : Row) (at : ℕ) → marked_in image row at ≤ row.count
unfolding marked_in
marked_within image row at = omega (arith, count_range (λ i. is_mark image (at + i * row.size)) row.count)

-- the faults by the rows
pub faults_by_rows : (image : List ℕ) (p : Params) (rows : List Row)
    → rows_far image 0 rows + (marks image - rows_marked image 0 rows) ≤ faults image (zones_from p 0 rows)
faults_by_rows image p rows = omega (arith, misses_far image p 0 rows, marked_le image p 0 rows)

-- ---- the rows of a shape

pub far_two : (image : List ℕ) (a b : Row) (second : ℕ) (rest : List Row) → second ≡ row_end a 0
    → far_in image a 0 + far_in image b second ≤ rows_far image 0 (a ∷ b ∷ rest)
unfolding rows_far
far_two image a b second rest e = omega (arith, ap (λ s. far_in image b s) e)

pub marked_two : (image : List ℕ) (a b : Row) (second : ℕ) (rest : List Row) → second ≡ row_end a 0
    → rows_marked image 0 (a ∷ b ∷ rest) ≤ marked_in image a 0 + marked_in image b second + count_rows rest
unfolding rows_marked
marked_two image a b second rest e =
    omega (arith, ap (λ s. marked_in image b s) e, marked_few image (row_end b (row_end a 0)) rest)

pub far_four : (image : List ℕ) (a b c d : Row) (second third fourth : ℕ) → second ≡ row_end a 0
    → third ≡ row_end b second → fourth ≡ row_end c third
    → far_in image a 0 + far_in image b second + far_in image c third + far_in image d fourth
    ≤ rows_far image 0 (a ∷ b ∷ c ∷ d ∷ [])
unfolding rows_far
far_four image a b c d second third fourth e f g =
    let third_is : third ≡ row_end b (row_end a 0) = f ∙ ap (row_end b) e in
    let fourth_is : fourth ≡ row_end c (row_end b (row_end a 0)) = g ∙ ap (row_end c) third_is in
    omega (
      arith,
      ap (λ s. far_in image b s) e,
      ap (λ s. far_in image c s) third_is,
      ap (λ s. far_in image d s) fourth_is,
    )

pub marked_four : (image : List ℕ) (a b c d : Row) (second third fourth : ℕ) → second ≡ row_end a 0
    → third ≡ row_end b second → fourth ≡ row_end c third
    → rows_marked image 0 (a ∷ b ∷ c ∷ d ∷ [])
    ≤ marked_in image a 0 + marked_in image b second + marked_in image c third + marked_in image d fourth
unfolding rows_marked
marked_four image a b c d second third fourth e f g =
    let third_is : third ≡ row_end b (row_end a 0) = f ∙ ap (row_end b) e in
    let fourth_is : fourth ≡ row_end c (row_end b (row_end a 0)) = g ∙ ap (row_end c) third_is in
    omega (
      arith,
      ap (λ s. marked_in image b s) e,
      ap (λ s. marked_in image c s) third_is,
      ap (λ s. marked_in image d s) fourth_is,
    )

pub few_two : (image : List ℕ) (a b : Row) (rest : List Row)
    → rows_marked image 0 (a ∷ b ∷ rest) ≤ a.count + b.count + count_rows rest
few_two image a b rest = omega (
  arith,
  marked_few image 0 (a ∷ b ∷ rest),
  sum_by-cons (λ (row : Row). row.count) a (b ∷ rest),
  sum_by-cons (λ (row : Row). row.count) b rest,
)

pub few_four : (image : List ℕ) (a b c d : Row)
    → rows_marked image 0 (a ∷ b ∷ c ∷ d ∷ []) ≤ a.count + b.count + c.count + d.count
few_four image a b c d = omega (
  arith,
  few_two image a b (c ∷ d ∷ []),
  sum_by-cons (λ (row : Row). row.count) c (d ∷ []),
  sum_by-cons (λ (row : Row). row.count) d [],
)

-- ---- the first zone

first_of : (image : List ℕ) (p : Params) (row : Row) (n : ℕ) (rest : List Zone)
    → fits image (zone_at p row.kind row.size 0 (0 + 0 * row.size)) ≡ false
    → 1 ≤ misses image (map (λ i. zone_at p row.kind row.size i (0 + i * row.size)) (range_with_len 0 (suc n)) ++ rest)
first_of image p row n rest h =
    let g : ℕ → Zone = λ i. zone_at p row.kind row.size i (0 + i * row.size) in
    let m : Zone → ℕ = λ z. one_if (not (fits image z)) in
    omega (
      arith,
      sum_by-cons m (g 0) (map g (range_with_len 1 n) ++ rest),
      ap (λ b. one_if (not b)) h,
    )

-- a first zone that does not fit is a fault more than the marks that are too many
pub first_counts : (image : List ℕ) (p : Params) (a b c d : Row) → 0 < a.count
    → fits image (zone_at p a.kind a.size 0 (0 + 0 * a.size)) ≡ false
    → 1 + (marks image - (a.count + b.count + c.count + d.count)) ≤ faults image (zones_from p 0 (a ∷ b ∷ c ∷ d ∷ []))
unfolding zones_from
first_counts image p a b c d some h =
    let next : a.count ≡ suc (a.count - 1) = omega (arith, some) in
    let rest = zones_from p (0 + a.count * a.size) (b ∷ c ∷ d ∷ []) in
    let one : 1 ≤ misses image (map (λ i. zone_at p a.kind a.size i (0 + i * a.size)) (range_with_len 0 a.count) ++ rest) =
    subst (λ n. 1 ≤ misses image (map (λ i. zone_at p a.kind a.size i (0 + i * a.size)) (range_with_len 0 n) ++ rest))
    (sym next) (first_of image p a (a.count - 1) rest h) in
    omega (arith, one, marked_le image p 0 (a ∷ b ∷ c ∷ d ∷ []), few_four image a b c d)

-- the same with the last two in either order
pub first_ordered : (image : List ℕ) (p : Params) (order : Order) (a b c d : Row) → 0 < a.count
    → fits image (zone_at p a.kind a.size 0 (0 + 0 * a.size)) ≡ false
    → 1 + (marks image - (a.count + b.count + c.count + d.count)) ≤ faults image (zones_from p 0 (a ∷ b ∷ ordered order c d))
first_ordered image p FtracePmsg a b c d some h = first_counts image p a b c d some h
first_ordered image p PmsgFtrace a b c d some h = omega (arith, first_counts image p a b d c some h)
