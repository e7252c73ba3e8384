-- Which layout comes first
use Rattle.std.specs.Prelude.{◌≡◌, ℕ, ◌+◌, ◌-◌, ◌*◌, ◌^◌, Bool, true, false, ◌&&◌, ◌||◌, not, if◌then◌else◌, nat_lt}
use Rattle.std.specs.Prelude.{nat_le, ◌==◌, List, [], ◌∷◌, length, sum_by, count_by}
use Rattle.std.specs.List.{list_any}
use Rattle.zone_spec.specs.declared.Zone.{Zone}
use Rattle.layout_spec.specs.declared.Candidate.{Candidate}
use Rattle.layout_spec.specs.declared.Known.{Known}
use Rattle.layout_spec.specs.declared.Tally.{Tally}
use Rattle.layout_spec.specs.Laid.{zones_of}
use Rattle.layout_spec.specs.Marks.{flag, marks, is_mark, fits, has_log, is_odd, header_of}
use Rattle.layout_spec.specs.Family.{is_of_family, order_number}

-- the zones that do not fit
abbrev pub misses : List ℕ → List Zone → ℕ
misses image zones = count_by (λ z. not (fits image z)) zones

-- the marks where no zone begins: all, less the zones that begin at one, as no two begin at one place
abbrev pub strays : List ℕ → List Zone → ℕ
strays image zones = marks image - count_by (λ (z : Zone). is_mark image z.at) zones

abbrev pub faults : List ℕ → List Zone → ℕ
faults image zones = misses image zones + strays image zones

-- the corrected bytes of the headers that fit
abbrev pub corrected_in : List ℕ → Zone → ℕ
corrected_in image z = if fits image z then (header_of image z).corrected else 0

abbrev pub corrected : List ℕ → List Zone → ℕ
corrected image zones = sum_by (corrected_in image) zones

-- a parity is shown where the headers that fit have four bytes of it to spare, of two for each corrected one. Without
-- this, fresh zones without parity in memory of 0xff read as zones of two parity bytes, one of them corrected
abbrev pub is_shown : ℕ → ℕ → ℕ → Bool
is_shown parity fitting corrected = (parity == 0) || nat_le (4 + 2 * corrected) (parity * fitting)

-- the first is least: most is least of this
abbrev pub most : ℕ → ℕ
most n = 2 ^ 24 - n

-- how many different sizes above 0 are given
abbrev pub different : List ℕ → ℕ
different [] = 0
different (n ∷ ns) = flag (not ((n == 0) || list_any (λ m. m == n) ns)) + different ns

-- the counts over a layout's zones
unfoldable pub tally_of : List ℕ → Candidate → Tally
tally_of image c =
    let zones = zones_of c in record {
      faults = faults image zones;
      zones = length zones;
      fits = count_by (fits image) zones;
      logs = count_by (has_log image) zones;
      odd = count_by (is_odd image) zones;
      corrected = corrected image zones;
      behind = length image - sum_by (λ (z : Zone). z.size) zones;
    }

-- what is compared, the weightiest first: fewest faults, a parity that is shown, the largest parity, most zones,
-- fewest odd ones, most logs, fewest corrected bytes, fewest different sizes, a console, a pmsg, fewest bytes behind the
-- zones. The last eight name the layout, the order of ftrace and pmsg first
unfoldable pub key_by : Tally → Candidate → List ℕ
key_by t c =
    t.faults ∷ flag (not (is_shown c.parity t.fits t.corrected)) ∷ most c.parity ∷ most t.zones ∷ t.odd ∷ most t.logs
    ∷ t.corrected ∷ different (c.dump ∷ c.console ∷ c.ftrace ∷ c.pmsg ∷ [])
    ∷ flag (c.console == 0) ∷ flag (c.pmsg == 0) ∷ t.behind
    ∷ order_number c.order ∷ most c.dump ∷ most c.console ∷ most c.ftrace ∷ most c.pmsg ∷ most c.cpus ∷ c.tag ∷ most c.mem ∷ []

abbrev pub key : List ℕ → Candidate → List ℕ
key image c = key_by (tally_of image c) c

-- in the order of words in a dictionary
unfoldable pub is_before : List ℕ → List ℕ → Bool
is_before xs [] = false
is_before [] (y ∷ ys) = true
is_before (x ∷ xs) (y ∷ ys) = nat_lt x y || ((x == y) && is_before xs ys)

-- of the family, and nothing of the family is before it
pub record IsFirst (known : Known) (image : List ℕ) (c : Candidate) : Type 0 where
  pub of_family : is_of_family known image c ≡ true
  pub first : (d : Candidate) → is_of_family known image d ≡ true → is_before (key image d) (key image c) ≡ false
