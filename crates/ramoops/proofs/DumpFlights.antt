-- How many dump zones have a flight, after a change of one zone
use Rattle.std.proofs.Common.{◌≡◌, ℕ, zero, suc, ◌+◌, ◌≤◌, Bool, true, false, cond, ◌&&◌, ◌||◌, nat_lt, is_some, List}
use Rattle.std.proofs.Common.{[], ◌∷◌, length, slice_get, set, refl, ap, ◌∙◌, arith, Option, Some, None}
use Rattle.std.specs.Prelude.{zip}
use Rattle.std.proofs.lemmas.Bool.Decides.{nat_tests}
use Rattle.std.proofs.lemmas.List.Sums.{sum_by-cons}
use Rattle.zone_spec.specs.declared.Zone.{Zone}
use Rattle.zone_spec.specs.declared.Kind.TheVariants.{Dump as DumpKind}
use Rattle.zone_spec.specs.Records.{is_of}
use Rattle.store_steps.specs.Flying.{Flying}
use Rattle.ramoops.specs.declared.zones.HeldZone.{HeldZone}
use Rattle.ramoops.specs.declared.zones.Stored.{Stored}
use Rattle.ramoops.specs.Places.{dump_flies, dump_flight, dump_flights}
use Rattle.ramoops.specs.Storing.{is_next}

flights-cons : (z : Zone) (zs : List Zone) (h : HeldZone) (hs : List HeldZone)
    → dump_flights (z ∷ zs) (h ∷ hs) ≡ dump_flight z (is_some h.flight) + dump_flights zs hs
flights-cons z zs h hs = sum_by-cons (λ (pair : Zone × HeldZone). cond (is_of DumpKind pair.0.name.kind && is_some
    pair.1.flight) 1 0) (z, h) (zip zs hs)

pub flight_bound : (z : Zone) (b : Bool) → dump_flight z b ≤ 1
flight_bound z b = by (is_of DumpKind z.name.kind && b)
  where
    by : (t : Bool) → cond t 1 0 ≤ 1
    by true = omega arith
    by false = omega arith

no_flight : (z : Zone) → dump_flight z false ≡ 0
no_flight z = by (is_of DumpKind z.name.kind)
  where
    by : (t : Bool) → ◌≡◌ {A = ℕ} (cond (t && false) 1 0) 0
    by true = refl
    by false = refl

pub flights_set : (zs : List Zone) (hs : List HeldZone) (i : ℕ) (z : Zone) (h g : HeldZone) → slice_get zs i ≡ Some z
    → slice_get hs i ≡ Some h → dump_flights zs (set hs i g) + dump_flight z (is_some h.flight)
    ≡ dump_flights zs hs + dump_flight z (is_some g.flight)
flights_set [] hs i z h g ez eh = let n : ◌≡◌ {A = ℕ} 0 1 = cc in absurd (omega (arith, n))
flights_set (y ∷ ys) [] i z h g ez eh = let n : ◌≡◌ {A = ℕ} 0 1 = cc in absurd (omega (arith, n))
flights_set (y ∷ ys) (k ∷ ks) zero z h g ez eh =
    let sy : y ≡ z = cc in
    let sk : k ≡ h = cc in
    let a = flights-cons y ys g ks in
    let b = flights-cons y ys k ks in
    let d = ap (λ (x : Zone). dump_flight x (is_some g.flight)) sy in
    let e = ap (λ (x : Zone). dump_flight x (is_some k.flight)) sy in
    let f = ap (λ (x : HeldZone). dump_flight z (is_some x.flight)) sk in
    omega (arith, a, b, d, e, f)
flights_set (y ∷ ys) (k ∷ ks) (suc i) z h g ez eh =
    let a = flights-cons y ys k (set ks i g) in
    let b = flights-cons y ys k ks in
    let r = flights_set ys ks i z h g ez eh in
    omega (arith, a, b, r)

-- one of them is the zone's own
pub flights_some : (zs : List Zone) (hs : List HeldZone) (i : ℕ) (z : Zone) (h : HeldZone) → slice_get zs i ≡ Some z
    → slice_get hs i ≡ Some h → dump_flight z (is_some h.flight) ≤ dump_flights zs hs
flights_some [] hs i z h ez eh = let n : ◌≡◌ {A = ℕ} 0 1 = cc in absurd (omega (arith, n))
flights_some (y ∷ ys) [] i z h ez eh = let n : ◌≡◌ {A = ℕ} 0 1 = cc in absurd (omega (arith, n))
flights_some (y ∷ ys) (k ∷ ks) zero z h ez eh =
    let sy : y ≡ z = cc in
    let sk : k ≡ h = cc in
    let b = flights-cons y ys k ks in
    let e = ap (λ (x : Zone). dump_flight x (is_some k.flight)) sy in
    let f = ap (λ (x : HeldZone). dump_flight z (is_some x.flight)) sk in
    omega (arith, b, e, f)
flights_some (y ∷ ys) (k ∷ ks) (suc i) z h ez eh =
    let b = flights-cons y ys k ks in
    let r = flights_some ys ks i z h ez eh in
    omega (arith, b, r)

pub flights_bound : (zs : List Zone) (hs : List HeldZone) → dump_flights zs hs ≤ length zs
flights_bound [] hs = omega arith
flights_bound (y ∷ ys) [] = omega arith
flights_bound (y ∷ ys) (k ∷ ks) =
    let b = flights-cons y ys k ks in
    let r = flights_bound ys ks in
    let o = flight_bound y (is_some k.flight) in
    omega (arith, b, r, o)

-- there is one where there are some
pub some_flies : (zs : List Zone) (hs : List HeldZone) → nat_lt 0 (dump_flights zs hs) ≡ dump_flies zs hs
some_flies [] hs = refl
some_flies (y ∷ ys) [] = refl
some_flies (y ∷ ys) (k ∷ ks) = ap (nat_lt 0) (flights-cons y ys k ks)
    ∙ by (is_of DumpKind y.name.kind && is_some k.flight) (dump_flights ys ks) (some_flies ys ks)
  where
    by : (t : Bool) (n : ℕ) → nat_lt 0 n ≡ dump_flies ys ks → nat_lt 0 (cond t 1 0 + n) ≡ (t || dump_flies ys ks)
    by true n e = grind (arith, nat_tests)
    by false n e = (let m : 0 + n ≡ n = omega arith in ap (nat_lt 0) m) ∙ e

-- after a call was begun in an idle zone
pub flights_begun : (zs : List Zone) (hs : List HeldZone) (i : ℕ) (z : Zone) (h g : HeldZone) (n m : ℕ) (b : Bool)
    → slice_get zs i ≡ Some z → slice_get hs i ≡ Some h → h.flight ≡ None → n ≡ dump_flights zs hs
    → b ≡ is_some g.flight → m ≡ dump_flight z b → n + m ≡ dump_flights zs (set hs i g)
flights_begun zs hs i z h g n m b ez eh idle en eb em =
    let all = flights_set zs hs i z h g ez eh in
    let old : dump_flight z (is_some h.flight) ≡ 0 = ap (λ (o : Option Flying). dump_flight z (is_some o)) idle
    ∙ no_flight z in
    let new : m ≡ dump_flight z (is_some g.flight) = em ∙ ap (dump_flight z) eb in
    omega (arith, all, old, new, en)

-- after stores of a zone's flight
pub flights_stored : (zs : List Zone) (hs : List HeldZone) (i : ℕ) (z : Zone) (h g : HeldZone) (n m : ℕ)
    (r : Option Stored) → slice_get zs i ≡ Some z → slice_get hs i ≡ Some h → n ≡ dump_flights zs hs
    → is_some h.flight ≡ is_some r → is_some g.flight ≡ is_next r
    → m + dump_flight z (is_some r) ≡ n + dump_flight z (is_next r) → m ≡ dump_flights zs (set hs i g)
flights_stored zs hs i z h g n m r ez eh en flies goes_on left =
    let all = flights_set zs hs i z h g ez eh in
    let old = ap (dump_flight z) flies in
    let new = ap (dump_flight z) goes_on in
    omega (arith, all, old, new, en, left)

-- the flight of a zone is among them
pub flights_flew : (zs : List Zone) (hs : List HeldZone) (i : ℕ) (z : Zone) (h : HeldZone) (n : ℕ)
    (r : Option Stored) → slice_get zs i ≡ Some z → slice_get hs i ≡ Some h → n ≡ dump_flights zs hs
    → is_some h.flight ≡ is_some r → dump_flight z (is_some r) ≤ n
flights_flew zs hs i z h n r ez eh en flies =
    let one = flights_some zs hs i z h ez eh in
    let old = ap (dump_flight z) flies in
    omega (arith, one, old, en)
