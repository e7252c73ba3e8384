-- The counts over the zones of a layout
use Rattle.std.specs.Prelude.{◌≡◌, ℕ, ◌<◌, ◌≤◌, ◌+◌, ◌*◌, ◌^◌, not, if◌then◌else◌, List, count_by, sum_by}
use Rattle.zone_spec.specs.declared.Zone.{Zone}
use Rattle.layout_spec.specs.Marks.{is_mark, fits, has_log, is_odd}
use Rattle.layout_spec.specs.Order.{misses, corrected}
use Rattle.layout_search.specs.declared.counting.Counts.{Counts}
use Rattle.layout_search.specs.declared.looking.Look.{Look}

pub record AreCounts (image : List ℕ) (zones : List Zone) (c : Counts) : Type 0 where
  pub misses_are : c.misses ≡ misses image zones
  pub fits_are : c.fits ≡ count_by (fits image) zones
  pub found : c.found ≡ count_by (has_log image) zones
  pub odd : c.odd ≡ count_by (is_odd image) zones
  pub corrected_are : c.corrected ≡ corrected image zones
  pub marked : c.marked ≡ count_by (λ (z : Zone). is_mark image z.at) zones
  pub bytes : c.bytes ≡ sum_by (λ (z : Zone). z.size) zones

-- every count is below m
pub record AreBelow (m : ℕ) (c : Counts) : Type 0 where
  pub misses : c.misses < m
  pub fits : c.fits < m
  pub found : c.found < m
  pub odd : c.odd < m
  pub corrected : c.corrected < m
  pub marked : c.marked < m
  pub bytes : c.bytes < m

-- the counts with one zone more
abbrev pub added : Counts → Look → ℕ → Counts
added c l size = record {
  misses = c.misses + (if not l.fits then 1 else 0);
  fits = c.fits + (if l.fits then 1 else 0);
  found = c.found + (if l.found then 1 else 0);
  odd = c.odd + (if l.odd then 1 else 0);
  corrected = c.corrected + l.corrected;
  marked = c.marked + (if l.marked then 1 else 0);
  bytes = c.bytes + size;
}

-- no count is more than n zones can make
pub record AreAtMost (n : ℕ) (c : Counts) : Type 0 where
  pub misses : c.misses ≤ n
  pub fits : c.fits ≤ n
  pub found : c.found ≤ n
  pub odd : c.odd ≤ n
  pub corrected : c.corrected ≤ 255 * n
  pub marked : c.marked ≤ n
  pub bytes : c.bytes ≤ 2 ^ 24 * n
