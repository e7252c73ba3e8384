-- The zones of a layout lie in the image
use Rattle.std.proofs.Common.{◌≡◌, ℕ, ◌<◌, ◌≤◌, List, length, get_or, Some, ap, arith}
use Rattle.std.specs.Prelude.{slice_get}
use Rattle.std.proofs.lemmas.Option.{get_or_from_slice_get, slice_get_within}
use Rattle.std.proofs.lemmas.List.Sums.{sum_by_more_le}
use Rattle.zone_spec.specs.declared.Zone.{Zone}
use Rattle.zone_spec.specs.Layouts.{IsLayout}
use Rattle.layout_search.specs.Looks.{IsInside}

pub inside : (image : List ℕ) (zones : List Zone) (mem : ℕ) → IsLayout zones mem → mem ≤ length image
    → (i : ℕ) (z : Zone) → slice_get zones i ≡ Some z → IsInside image z
inside image zones mem laid le i z e =
    let lt : i < length zones = slice_get_within zones i z e in
    let found : get_or zones i z ≡ z = get_or_from_slice_get zones i z z e in
    let valid = laid.valid i z e in record {
      valid = valid.0;
      within = omega (
        arith,
        valid.1,
        laid.within,
        le,
        sum_by_more_le (λ (z : Zone). z.size) zones i z lt,
        ap (λ (z : Zone). z.size) found,
      );
    }
