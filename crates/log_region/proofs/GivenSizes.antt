-- What holds of a console zone of each size that a region can have. For the law, and `region`.
use Rattle.std.proofs.Common.{◌≡◌, ℕ, ◌+◌, ◌^◌, ◌<◌, ◌≤◌, Bool, true, false, nat_lt, List, [], ◌∷◌}
use Rattle.std.proofs.Common.{Option, Some, Ok, refl, arith, inr}
use Rattle.std.specs.Prelude.{if◌then◌else◌, unwrap_or}
use Rattle.std.specs.List.{find, AllByRecursion}
use Rattle.std.proofs.lemmas.Bool.{ltb-true}
use Rattle.zone_spec.specs.Zones.{IsValidZone}
use Rattle.zone_spec.specs.Layout.{layout_of, power_within, rounded, zones_from}
use Rattle.log_region.specs.Regions.{zone_sizes, size_for, params_of, zone_of}

-- a size whose console zone is the layout
pub record IsGiven (size : ℕ) : Type 0 where
  pub laid : layout_of (params_of size) ≡ Ok (zone_of size ∷ [])
  pub least : 256 ≤ size
  pub most : size ≤ 2 ^ 24

module _ (P : ℕ → Type 0) (p : ℕ → Bool) (d : ℕ) where
  choose : (b : Bool) (x : ℕ) (o : Option ℕ) → P x → P (unwrap_or o d) → P (unwrap_or (if b then Some x else o) d)
  choose true x o this rest = this
  choose false x o this rest = rest

  -- what holds of all items and of the one for none holds of the item that is found
  of_found : (xs : List ℕ) → AllByRecursion P xs → P d → P (unwrap_or (find p xs) d)
  of_found [] all none = none
  of_found (x ∷ xs) all none = choose (p x) x (find p xs) all.0 (of_found xs all.1 none)

module _ (n : ℕ) (few : n < 16777204) where
  step : (b : Bool) (x : ℕ) (o : Option ℕ) → nat_lt (12 + n) x ≡ b → 12 + n < unwrap_or o 16777216
      → 12 + n < unwrap_or (if b then Some x else o) 16777216
  step true x o e rest = ltb-true _ _ e
  step false x o e rest = rest

  room_in : (xs : List ℕ) → 12 + n < unwrap_or (find (λ size. nat_lt (12 + n) size) xs) 16777216
  room_in [] = omega (arith, few)
  room_in (x ∷ xs) = step (nat_lt (12 + n) x) x (find (λ size. nat_lt (12 + n) size) xs) refl (room_in xs)

  pub has_room : 12 + n < size_for n
  unfolding size_for
  has_room = room_in zone_sizes

given : (size : ℕ) → layout_of (params_of size) ≡ Ok (zone_of size ∷ []) → 256 ≤ size → size ≤ 2 ^ 24 → IsGiven size
given size laid least most = record { laid = laid; least = least; most = most }

all_given : AllByRecursion IsGiven zone_sizes
unfolding zone_sizes layout_of power_within rounded zones_from
all_given = (
  given 4096 refl (omega arith) (omega arith),
  (
    given 8192 refl (omega arith) (omega arith),
    (
      given 16384 refl (omega arith) (omega arith),
      (
        given 32768 refl (omega arith) (omega arith),
        (
          given 65536 refl (omega arith) (omega arith),
          (
            given 131072 refl (omega arith) (omega arith),
            (
              given 262144 refl (omega arith) (omega arith),
              (
                given 524288 refl (omega arith) (omega arith),
                (
                  given 1048576 refl (omega arith) (omega arith),
                  (
                    given 2097152 refl (omega arith) (omega arith),
                    (
                      given 4194304 refl (omega arith) (omega arith),
                      (
                        given 8388608 refl (omega arith) (omega arith),
                        (
                          given 16777216 refl (omega arith) (omega arith),
                          tt,
                        ),
                      ),
                    ),
                  ),
                ),
              ),
            ),
          ),
        ),
      ),
    ),
  ),
)

largest_given : IsGiven 16777216
unfolding layout_of power_within rounded zones_from
largest_given = given 16777216 refl (omega arith) (omega arith)

pub size_given : (n : ℕ) → IsGiven (size_for n)
unfolding size_for
size_given n = of_found IsGiven (λ size. nat_lt (12 + n) size) 16777216 zone_sizes all_given largest_given

pub zone_valid : (size : ℕ) → IsGiven size → IsValidZone (zone_of size)
zone_valid size g = record {
  block = inr (inr refl);
  at_least = g.least;
  at_most = g.most;
  parity = omega arith;
  room = omega (arith, g.least);
  blocks = refl;
  cap = omega (arith, g.least);
  word = omega arith;
}
