-- What a zone reads whose call a stop cut
use Rattle.std.specs.Prelude.{◌≡◌, ℕ, ◌/◌, ◌≤◌, List, length, Contains, MatchOption, Some}
use Rattle.zone_spec.specs.declared.Zone.{Zone}
use Rattle.zone_spec.specs.Zones.{IsValidZone}
use Rattle.code_spec.specs.Code.{distance, nearest}
use Rattle.zone_spec.specs.Parts.{Header, IsImage, part_word, standing_words, words_in}
use Rattle.zone_spec.specs.PartReadings.{words_read}
use Rattle.zone_spec.specs.Reading.{ZoneReading}
use Rattle.zone_spec.specs.Told.{Call, kind_of}
use Rattle.zone_spec.specs.Calls.{call_stores}
use Rattle.zone_spec.specs.Damage.{IsNotDamagedFurther}
use Rattle.zone_spec.specs.Pairs.{pair_of}
use Rattle.zone_spec.specs.Cut.{Cut, words_before, cut_pairs, cut_report}
use Rattle.zone_spec.specs.Windows.{Window, current_window}
use Rattle.machine_spec.specs.States.{Flight}
use Rattle.machine_spec.specs.Stop.{cut_of}
use Rattle.machine_spec.specs.Sound.{IsInFlight}
use Rattle.damage_laws.specs.Exact.{IsExactReport}
use Rattle.machine_spec.specs.Headline.{OldPlacesRead, NoOtherPlaces}

-- the header is within half the parity of a word
abbrev pub IsNearHeader : Zone → List ℕ → List ℕ → Type 0
IsNearHeader z now c = distance (part_word z now Header) c ≤ z.parity / 2

-- What a header reads that is not damaged further: what stood at the stop was a pair of the call with the zone's
-- signature, and the header reads now as it did then; near the opening codeword of the current part it reads the
-- opening words, near the closing codeword the closing words, and else the standing words, or those of another codeword
-- near it
pub record HeaderReads (z : Zone) (cut : Cut) (stop now : List ℕ) : Type 0 where
  pub stood : ((standing_words z stop).sig ≡ z.sig) × Contains (cut_pairs z cut) (pair_of (standing_words z stop))
  pub as_at_stop : words_read z now ≡ words_read z stop
  pub opening : (w : Window) (c : List ℕ) → current_window z cut ≡ Some w → w.opening_codeword ≡ Some c
      → IsNearHeader z now c → words_read z now ≡ w.opening
  pub closing : (w : Window) → current_window z cut ≡ Some w → IsNearHeader z now w.closing_codeword
      → words_read z now ≡ w.closing
  pub other : MatchOption (nearest z.parity (part_word z now Header)) (words_read z now ≡ standing_words z stop)
      (λ c. IsNearHeader z now c × (words_read z now ≡ words_in z.byte_order c))

-- what such a zone reads, with its current part
pub record CutReads (z : Zone) (cut : Cut) (call : Call) (told stop now : List ℕ) : Type 0 where
  pub window : (w : Window) × (current_window z cut ≡ Some w)
  pub header : HeaderReads z cut stop now
  pub places : OldPlacesRead z (words_before z cut) call told stop now
  pub no_others : NoOtherPlaces z (words_before z cut) call now

-- so reads a zone that was in flight at its stop, and whose header is not damaged further
abbrev pub CutZoneReads : Type 0
CutZoneReads = (z : Zone) (stop now told : List ℕ) (f : Flight) → IsValidZone z → IsInFlight z stop told f
    → IsImage z now
    → IsNotDamagedFurther z stop now → CutReads z (cut_of z f) f.call told stop now

-- the report of a cut call is exact: its numbers are the flight's
abbrev pub CutReportIsExact : Type 0
CutReportIsExact = (z : Zone) (f : Flight) (stop told : List ℕ) (reading : ZoneReading) → IsValidZone z
    → IsInFlight z stop told f
    → IsExactReport z reading.words (cut_of z f) (kind_of f.call) f.made (length (call_stores z f.call f.image))
    (cut_report z reading (cut_of z f))
