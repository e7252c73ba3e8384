-- One zone more in every count
use Rattle.std.proofs.Common.{◌≡◌, ℕ, ◌+◌, ◌-◌, ◌^◌, ◌<◌, Bool, not, if◌then◌else◌, List, length, take, get_or, refl}
use Rattle.std.proofs.Common.{ap, subst, arith}
use Rattle.std.specs.Prelude.{sum_by}
use Rattle.std.proofs.lemmas.List.Sums.{sum_by_more}
use Rattle.zone_spec.specs.declared.Zone.{Zone}
use Rattle.layout_spec.specs.Marks.{is_mark, fits, has_log, is_odd}
use Rattle.layout_spec.specs.Order.{misses, corrected, corrected_in}
use Rattle.layout_spec.specs.Laid.{zones_of}
use Rattle.layout_spec.specs.Order.{tally_of}
use Rattle.layout_spec.specs.Marks.{marks}
use Rattle.layout_spec.specs.declared.Candidate.{Candidate}
use Rattle.layout_spec.specs.declared.Tally.{Tally}
use Rattle.layout_search.specs.Looks.{IsLook}
use Rattle.layout_search.specs.Counted.{AreCounts, AreAtMost, AreBelow, added}
use Rattle.layout_search.specs.declared.counting.Counts.{Counts}
use Rattle.layout_search.specs.declared.looking.Look.{Look}

abbrev one_if : Bool → ℕ
one_if b = if b then 1 else 0

-- a sum with one element more, whose term is known
step : (f : Zone → ℕ) (zones : List Zone) (i : ℕ) (d : Zone) (total term : ℕ) → i < length zones
    → total ≡ sum_by f (take i zones) → term ≡ f (get_or zones i d)
    → total + term ≡ sum_by f (take (i + 1) zones)
step f zones i d total term lt e t = omega (arith, sum_by_more f zones i d lt, e, t)

pub counts_more : (image : List ℕ) (zones : List Zone) (i : ℕ) (d : Zone) (c : Counts) (l : Look)
    → i < length zones → AreCounts image (take i zones) c → IsLook image (get_or zones i d) l
    → AreCounts image (take (i + 1) zones) (added c l (get_or zones i d).size)
counts_more image zones i d c l lt e s = record {
  misses_are = step (λ z. one_if (not (fits image z))) zones i d c.misses (one_if (not l.fits)) lt e.misses_are
      (ap (λ b. one_if (not b)) s.fits_is);
  fits_are = step (λ z. one_if (fits image z)) zones i d c.fits (one_if l.fits) lt e.fits_are (ap one_if s.fits_is);
  found = step (λ z. one_if (has_log image z)) zones i d c.found (one_if l.found) lt e.found (ap one_if s.found);
  odd = step (λ z. one_if (is_odd image z)) zones i d c.odd (one_if l.odd) lt e.odd (ap one_if s.odd);
  corrected_are = step (corrected_in image) zones i d c.corrected l.corrected lt e.corrected_are s.corrected;
  marked = step (λ (z : Zone). one_if (is_mark image z.at)) zones i d c.marked (one_if l.marked) lt e.marked
      (ap one_if s.marked);
  bytes = step (λ (z : Zone). z.size) zones i d c.bytes (get_or zones i d).size lt e.bytes refl;
}

-- counts of few zones fit
pub below : (n : ℕ) (c : Counts) → n < 2 ^ 33 → AreAtMost n c → AreBelow (2 ^ 62) c
below n c few h = record {
  misses = omega (arith, few, h.misses);
  fits = omega (arith, few, h.fits);
  found = omega (arith, few, h.found);
  odd = omega (arith, few, h.odd);
  corrected = omega (arith, few, h.corrected);
  marked = omega (arith, few, h.marked);
  bytes = omega (arith, few, h.bytes);
}

abbrev pub made : (misses marks marked zones fits logs odd corrected len bytes : ℕ) → Tally
made misses marks marked zones fits logs odd corrected len bytes = record {
  faults = misses + (marks - marked);
  zones = zones;
  fits = fits;
  logs = logs;
  odd = odd;
  corrected = corrected;
  behind = len - bytes;
}

same : {a a' b b' c c' d d' e e' f f' g g' h h' i i' : ℕ} (len : ℕ) → a ≡ a' → b ≡ b' → c ≡ c' → d ≡ d' → e ≡ e'
    → f ≡ f' → g ≡ g' → h ≡ h' → i ≡ i' → made a b c d e f g h len i ≡ made a' b' c' d' e' f' g' h' len i'
same len p q r s t u v w x = cc

-- the tally by the counts
pub tally_is : (image : List ℕ) (c : Candidate) (k : Counts) (zones : List Zone) (m : ℕ) → zones ≡ zones_of c
    → AreCounts image zones k → m ≡ marks image
    → made k.misses m k.marked (length zones) k.fits k.found k.odd k.corrected (length image) k.bytes
    ≡ tally_of image c
unfolding tally_of
tally_is image c k zones m e a n =
    let b : AreCounts image (zones_of c) k = subst (λ (zs : List Zone). AreCounts image zs k) e a in
    same (length image) b.misses_are n b.marked (ap length e) b.fits_are b.found b.odd b.corrected_are b.bytes
