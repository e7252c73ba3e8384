-- What a contract sees of a region that is cut into spans
use Rattle.std.specs.Prelude.{ℕ, ◌+◌, List, [], ◌++◌, map, drop, get_or, slice_range, slice_set}
use Rattle.zone_spec.specs.declared.Zone.{Zone}
use Rattle.zone_spec.specs.Layouts.{zones_end}
use Rattle.zone_spec.specs.Stores.{Store, after_stores}
use Rattle.prz_region.specs.Made.{Write, in_span}

-- the bytes of each span in order, those that belong to none, and the stores made into the spans since the region was
-- cut, the first one first, each with the number of its span
pub record CutRegion : Type 0 where
  pub spans : List (List ℕ)
  pub rest : List ℕ
  pub made : List (Write ℕ)

-- each zone's own bytes, and those behind the last zone; no store is made yet
abbrev pub cut_at : List Zone → List ℕ → CutRegion
cut_at zones bytes = record {
  spans = map (λ (z : Zone). slice_range bytes z.at (z.at + z.size)) zones;
  rest = drop (zones_end zones) bytes;
  made = [];
}

-- the i-th span
abbrev pub span : CutRegion → ℕ → List ℕ
span cut i = get_or cut.spans i []

-- after these stores into the i-th span; all others and the rest stay
abbrev pub stored : CutRegion → ℕ → List Store → CutRegion
stored cut i stores = record {
  spans = slice_set cut.spans i (after_stores (span cut i) stores);
  rest = cut.rest;
  made = cut.made ++ in_span i stores;
}
