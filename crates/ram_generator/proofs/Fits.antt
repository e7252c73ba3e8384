-- The zones of a layout are few, and lie within 32 bits
use Rattle.std.proofs.Common.{◌≡◌, ℕ, zero, suc, ◌+◌, ◌*◌, ◌^◌, ◌<◌, ◌≤◌, Bool, true, false, not, List, [], ◌∷◌, length}
use Rattle.std.proofs.Common.{take, get_or, slice_get, Some, refl, ap, arith}
use Rattle.std.specs.List.{All}
use Rattle.std.proofs.lemmas.Option.{slice_get-get_or}
use Rattle.std.proofs.lemmas.List.Sums.{sum_by-append}
use Rattle.zone_spec.specs.declared.Zone.{Zone}
use Rattle.zone_spec.specs.declared.Kind.TheVariants.{Dump}
use Rattle.zone_spec.specs.Records.{is_of}
use Rattle.zone_spec.specs.Layouts.{IsLayout, zones_end}
use Rattle.script_spec.specs.Generated.{rings}
use Rattle.ram_generator.specs.Damage.{IsWithin}

end_cons : (y : Zone) (ys : List Zone) → zones_end (y ∷ ys) ≡ y.size + zones_end ys
end_cons y ys = let both = sum_by-append (λ (z : Zone). z.size) (y ∷ []) ys in omega (arith, both)

end_within : (zones : List Zone) (i : ℕ) (z : Zone) → slice_get zones i ≡ Some z
    → zones_end (take i zones) + z.size ≤ zones_end zones
end_within [] i z found = absurd (cc)
end_within (y ∷ ys) zero z found =
    let same : y ≡ z = cc in
    let size : y.size ≡ z.size = ap (λ (z : Zone). z.size) same in
    let none : zones_end [] ≡ 0 = refl in
    omega (arith, size, none, end_cons y ys)
end_within (y ∷ ys) (suc i) z found = let rest = end_within ys i z found in
    omega (arith, rest, end_cons y ys, end_cons y (take i ys))

pub zones_fit : (zones : List Zone) (mem : ℕ) → IsLayout zones mem → mem < 2 ^ 32 → All IsWithin zones
zones_fit zones mem lies small k d lt =
    let found = slice_get-get_or zones k d lt in
    let v = lies.valid k (get_or zones k d) found in
    (v.0, omega (arith, v.1, end_within zones k (get_or zones k d) found, lies.within, small))

sizes_sum : (zones : List Zone) → ((i : ℕ) (z : Zone) → slice_get zones i ≡ Some z → 256 ≤ z.size)
    → 256 * length zones ≤ zones_end zones
sizes_sum [] each = omega arith
sizes_sum (z ∷ zs) each = let rest = sizes_sum zs (λ i y h. each (suc i) y h) in let first = each 0 z refl in
    omega (arith, rest, first, end_cons z zs)

pub zones_few : (zones : List Zone) (mem : ℕ) → IsLayout zones mem → mem < 2 ^ 32 → length zones < 2 ^ 31
zones_few zones mem lies small = omega (
  arith,
  sizes_sum zones (λ i z h. (lies.valid i z h).0.at_least),
  lies.within,
  small,
)

rings_step : (z : Zone) (zs : List Zone) (b : Bool) → not (is_of Dump z.name.kind) ≡ b → length (rings zs) ≤ length zs
    → length (rings (z ∷ zs)) ≤ suc (length zs)
rings_step z zs true e rest = rw e (omega (arith, rest))
rings_step z zs false e rest = rw e (omega (arith, rest))

pub rings_few : (zones : List Zone) → length (rings zones) ≤ length zones
rings_few [] = omega arith
rings_few (z ∷ zs) = rings_step z zs (not (is_of Dump z.name.kind)) refl (rings_few zs)
