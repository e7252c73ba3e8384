-- What the calls that read a zone in place answer
use Rattle.std.specs.Prelude.{◌≡◌, ℕ, ◌-◌, min, List, ◌++◌, length, take, drop}
use Rattle.zone_spec.specs.Reading.{zone_reading}
use Rattle.zone_boot.specs.declared.summaries.Summary.{Summary}
use Rattle.oopsbox_c.specs.Places.{zone_in, IsPlace, state_number, zone_answer}
use Rattle.oopsbox_c.specs.Tables.{IsLendable}
use Rattle.oopsbox_c.specs.declared.ends.End.{End}
use Rattle.oopsbox_c.specs.declared.ends.End.TheVariants.{Done, Argument}
use Rattle.oopsbox_c.specs.declared.places.ZonePlace.{ZonePlace}
use Rattle.oopsbox_c.specs.declared.places.ZoneAnswer.{ZoneAnswer}
use Rattle.oopsbox_c.specs.declared.tables.TableRow.{TableRow}

-- the place is a zone's, the image is of its size, and the rows can be lent
pub record CanRead (place : ZonePlace) (image : List ℕ) (table : List TableRow) : Type 0 where
  pub is_place : IsPlace place
  pub len : length image ≡ place.size
  pub lendable : IsLendable table

abbrev pub answer_of : Summary → ZoneAnswer
answer_of s = record {
  log = s.len;
  state = state_number s.state;
  sig = s.words.sig;
  start = s.words.start;
  size = s.words.size;
  corrected = s.corrected;
  bad = s.bad;
}

abbrev pub ReadEnds : End → ZonePlace → List ℕ → List TableRow → ZoneAnswer → ZoneAnswer → Type 0
ReadEnds Done place image table before after = CanRead place image table
    × (after ≡ zone_answer (zone_reading (zone_in place) image))
ReadEnds Argument place image table before after = (¬ (CanRead place image table)) × (after ≡ before)
ReadEnds other place image table before after = ⊥

-- so many bytes of the log, from here on, were written
pub record CopiesLog (log : List ℕ) (from : ℕ) (old new : List ℕ) (got : ℕ) : Type 0 where
  pub got_is : got ≡ min (length log - from) (length old)
  pub copied : new ≡ take got (drop from log) ++ drop got old

abbrev pub LogEnds : End → ZonePlace → List ℕ → List TableRow → ℕ → List ℕ → List ℕ → ℕ → ℕ → Type 0
LogEnds Done place image table from old new before after = CanRead place image table
    × CopiesLog (zone_reading (zone_in place) image).log from old new after
LogEnds Argument place image table from old new before after = (¬ (CanRead place image table)) × (new ≡ old)
    × (after ≡ before)
LogEnds other place image table from old new before after = ⊥
