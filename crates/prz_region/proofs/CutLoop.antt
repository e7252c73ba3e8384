-- One zone more of a region that is being cut
use Rattle.std.proofs.Common.{◌≡◌, ℕ, ◌+◌, ◌<◌, ◌≤◌, List, [], ◌∷◌, ◌++◌, length, get_or, take, drop, sym, ap, ◌∙◌}
use Rattle.std.proofs.Common.{arith, add-one, length-drop}
use Rattle.std.specs.Prelude.{slice_range}
use Rattle.std.proofs.Math.Seq.{take-suc}
use Rattle.std.proofs.lemmas.List.Sums.{sum_by-append, sum_by-take-le}
use Rattle.std.proofs.lemmas.Option.{slice_get-get_or}
use lib.Seq.{drop-drop}
use Rattle.zone_spec.specs.declared.Zone.{Zone}
use Rattle.zone_spec.specs.declared.Kind.TheVariants.{Dump}
use Rattle.zone_spec.specs.Layouts.{zones_end}
use Rattle.prz_region.specs.Chain.{AreSideBySide}
use Rattle.prz_region.proofs.Chains.{slice_range-at}
use Rattle.zone_spec.specs.declared.params.ByteOrder.TheVariants.{Little}

-- what a list of zones reads behind its end
abbrev pub no_zone : Zone
no_zone = record {
  name = record { kind = Dump; index = 0 };
  at = 0;
  size = 0;
  cap = 0;
  blocks = 0;
  parity = 0;
  sig = 0;
  block = 0;
  byte_order = Little;
}

-- the i-th zone
abbrev pub zone : List Zone → ℕ → Zone
zone zs i = get_or zs i no_zone

abbrev pub bytes_in : List ℕ → Zone → List ℕ
bytes_in xs z = slice_range xs z.at (z.at + z.size)

pub take-next : (zs : List Zone) (i : ℕ) → i < length zs → take (i + 1) zs ≡ take i zs ++ zone zs i ∷ []
take-next zs i lt = rw add-one (take-suc zs i no_zone lt)

pub zones_end-next : (zs : List Zone) (i : ℕ) → i < length zs
    → zones_end (take (i + 1) zs) ≡ zones_end (take i zs) + (zone zs i).size
zones_end-next zs i lt = ap zones_end (take-next zs i lt)
    ∙ sum_by-append (λ (z : Zone). z.size) (take i zs) (zone zs i ∷ [])
    ∙ ap (λ (n : ℕ). zones_end (take i zs) + n) (omega arith)

-- a zone's bytes are the first that the zones before it leave
pub bytes_in-next : (xs : List ℕ) (zs : List Zone) (i : ℕ) → i < length zs → AreSideBySide zs
    → take (zone zs i).size (drop (zones_end (take i zs)) xs) ≡ bytes_in xs (zone zs i)
bytes_in-next xs zs i lt side =
    sym (slice_range-at xs (zone zs i).at (zone zs i).size
    ∙ ap (λ (n : ℕ). take (zone zs i).size (drop n xs)) (side i (zone zs i) (slice_get-get_or zs i no_zone lt)))

pub drop-next : (xs : List ℕ) (zs : List Zone) (i : ℕ) → i < length zs
    → drop (zone zs i).size (drop (zones_end (take i zs)) xs) ≡ drop (zones_end (take (i + 1) zs)) xs
drop-next xs zs i lt = drop-drop (zone zs i).size (zones_end (take i zs)) xs
    ∙ ap (λ (n : ℕ). drop n xs) (sym (zones_end-next zs i lt))

-- the next zone fits what is left
pub fits-next : (xs : List ℕ) (zs : List Zone) (i : ℕ) → i < length zs → zones_end zs ≤ length xs
    → (zone zs i).size ≤ length (drop (zones_end (take i zs)) xs)
fits-next xs zs i lt room = omega (
  arith,
  zones_end-next zs i lt,
  sum_by-take-le (λ (z : Zone). z.size) zs (i + 1),
  length-drop (zones_end (take i zs)) xs,
)
