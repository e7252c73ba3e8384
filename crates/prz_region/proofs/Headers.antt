-- Words of a header, and places in a row
use Rattle.std.proofs.Common.{◌≡◌, ℕ, suc, ◌+◌, ◌-◌, ◌<◌, ◌≤◌, List, [], ◌∷◌, w32, sym, ap, arith}
use Rattle.std.specs.Prelude.{slice_range}
use Rattle.std.specs.List.{range_with_len}
use Rattle.list_laws.proofs.Slices.{slice_range-take}
use Rattle.list_laws.proofs.Ranges.{range_with_len-first}
use Rattle.zone_spec.specs.declared.params.ByteOrder.{ByteOrder}
use Rattle.zone_spec.specs.WordBytes.{word_of}

pub front_word : (order : ByteOrder) (xs : List ℕ) (at : ℕ) → at + 4 ≤ 12 → word_of order (slice_range xs at (at + 4))
    ≡ word_of order (slice_range (slice_range xs 0 12) at (at + 4))
front_word order xs at le = ap (λ (bs : List ℕ). word_of order bs)
    (sym (slice_range-take 12 at (at + 4) xs (omega arith) le))

pub range_with_len-none : (a b : ℕ) → b ≤ a → range_with_len a (b - a) ≡ []
range_with_len-none a b le = let z : b - a ≡ 0 = omega arith in ap (λ (n : ℕ). range_with_len a n) z

pub range_with_len-zero : (n : ℕ) → 0 < n → range_with_len 0 n ≡ 0 ∷ range_with_len 1 (n - 1)
range_with_len-zero n lt = let e : n ≡ suc (n - 1) = omega arith in ap (λ (k : ℕ). range_with_len 0 k) e

pub ruleset places_left = (range_with_len-first, range_with_len-none, range_with_len-zero)
