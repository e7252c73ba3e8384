-- What a reader finds in an image after a script on a zone that many writers share
use Rattle.std.specs.Prelude.{◌≡◌, ℕ, ◌+◌, List, [], ◌++◌, flat_map, take, drop, slice_get, slice_index, Some, None}
use Rattle.zone_spec.specs.declared.Zone.{Zone}
use Rattle.zone_spec.specs.Parts.{standing_words}
use Rattle.zone_spec.specs.Reading.{zone_reading, log_places}
use Rattle.zone_spec.specs.Told.{last_items}
use Rattle.machine_spec.specs.Zones.{zone_bytes}
use Rattle.shared_spec.specs.Calls.{open_count}
use Rattle.shared_spec.specs.Machine.{CanShare}
use Rattle.shared_spec.specs.Histories.{shared_zone, image_left}
use Rattle.shared_laws.specs.Laws.{IsOfNoOpenCall}
use Rattle.grammar_spec.specs.declared.line.Line.{Line}
use Rattle.grammar_spec.specs.declared.line.Line.TheVariants.{Reserve}
use Rattle.script_spec.specs.SharedScripts.{shared_ran}

-- the payload that a line reserves
abbrev pub payload_of : Line → List ℕ
payload_of (Reserve payload) = payload
payload_of other = []

-- what a zone of this image reads
abbrev pub log_in : Zone → List ℕ → List ℕ
log_in z image = (zone_reading z (zone_bytes z image)).log

-- the log in an image and all payloads that the lines reserve, end to end: the last bytes, as many as the zone holds
abbrev pub full_log : Zone → List ℕ → List Line → List ℕ
full_log z image lines = last_items z.cap (log_in z image ++ flat_map payload_of lines)

-- a script was done on a zone of an image, and left this image: with no call open the zone reads the full log, with
-- calls open it differs from it at most at their places, and all bytes that are not the zone's stay
pub record ReadsShared (z : Zone) (image : List ℕ) (lines : List Line) (left : List ℕ) : Type 0 where
  pub whole : open_count (shared_zone (shared_ran z image lines).history).calls ≡ 0
      → log_in z left ≡ full_log z image lines
  pub torn : (i place : ℕ) → let words = standing_words z (zone_bytes z left) in
      slice_get (log_places words.start words.size) i ≡ Some place
      → IsOfNoOpenCall z (shared_zone (shared_ran z image lines).history) place
      → slice_index (log_in z left) i ≡ slice_index (full_log z image lines) i
  pub before : take z.at left ≡ take z.at image
  pub behind : drop (z.at + z.size) left ≡ drop (z.at + z.size) image

-- so does every script of which no line is refused, on a zone that can be shared
abbrev pub SharedScriptsReadFullLog : Type 0
SharedScriptsReadFullLog =
    (z : Zone) (image : List ℕ) (lines : List Line) → CanShare z (zone_bytes z image)
    → (shared_ran z image lines).refused ≡ None
    → ReadsShared z image lines (image_left (shared_ran z image lines).history)
