-- What the calls on a layout and on a zone answer
use Rattle.std.specs.Prelude.{◌≡◌, ⊤, ℕ, ◌+◌, ◌≤◌, ◌<◌, ◌⊎◌, List, [], ◌++◌, length, drop, slice_get, Some, Result, Ok}
use Rattle.std.specs.Prelude.{Err, IsUtf8}
use Rattle.zone_spec.specs.declared.Zone.{Zone}
use Rattle.zone_spec.specs.declared.params.Params.{Params}
use Rattle.zone_spec.specs.declared.params.LayoutFault.{LayoutFault}
use Rattle.zone_spec.specs.Layout.{layout_of}
use Rattle.zone_spec.specs.LayoutFaults.{fault_number as layout_number}
use Rattle.zone_spec.specs.Reading.{ZoneReading, zone_reading}
use Rattle.machine_spec.specs.Zones.{zone_bytes}
use Rattle.grammar_spec.specs.Fields.{Text}
use Rattle.grammar_spec.specs.Lines.{fields_of}
use Rattle.grammar_spec.specs.Faults.{fault_number as word_number}
use Rattle.grammar_spec.specs.Words.{ok_unless}
use Rattle.grammar_spec.specs.ZoneWords.{first_fault, params_of}
use Rattle.grammar_spec.specs.declared.faults.ParamFault.{ParamFault}
use Rattle.grammar_spec.specs.declared.faults.ParamFault.TheVariants.{UnknownKey, Twice, NotANumber}
use Rattle.oopsbox_c.specs.declared.ends.End.{End}
use Rattle.oopsbox_c.specs.declared.ends.End.TheVariants.{Done, Fault, Short, Room, Argument, Memory}
use Rattle.oopsbox_c.specs.declared.places.ZonePlace.{ZonePlace}
use Rattle.oopsbox_c.specs.declared.places.LayoutAnswer.{LayoutAnswer}
use Rattle.oopsbox_c.specs.declared.places.ZoneAnswer.{ZoneAnswer}
use Rattle.oopsbox_c.specs.Places.{place_of, layout_answer, fault_answer, zone_answer}
use Rattle.oopsbox_c.specs.declared.zones.NoLayout.{NoLayout}
use Rattle.oopsbox_c.specs.declared.zones.NoLayout.TheVariants.{NotText, Word, Layout as NoSuchLayout}
use Rattle.oopsbox_c.specs.declared.zones.NoLayout.TheVariants.{Memory as NoMemory}

-- the place of the word at fault, from 1
abbrev pub fault_word : ParamFault → ℕ
fault_word (UnknownKey place) = place + 1
fault_word (Twice place) = place + 1
fault_word (NotANumber place) = place + 1

-- ---- the layout of a text

-- the parameters of these words, or the first fault
abbrev pub read_of : List Text → Result Params ParamFault
read_of words = ok_unless (first_fault [] words) (params_of words)

-- the text's words are parameters that lay out these zones
pub record IsLaid (text : List ℕ) (params : Params) (zones : List Zone) : Type 0 where
  pub is_text : IsUtf8 text
  pub read : read_of (fields_of text) ≡ Ok params
  pub laid : layout_of params ≡ Ok zones

-- the text's words are parameters that have no layout
pub record HasNoLayout (text : List ℕ) (fault : LayoutFault) : Type 0 where
  pub is_text : IsUtf8 text
  pub params : Params
  pub read : read_of (fields_of text) ≡ Ok params
  pub laid : layout_of params ≡ Err fault

-- why a text has no layout; memory is wanted only where the text is one
abbrev pub IsNoLayout : NoLayout → List ℕ → Type 0
IsNoLayout NotText text = ¬ (IsUtf8 text)
IsNoLayout (Word fault) text = IsUtf8 text × (read_of (fields_of text) ≡ Err fault)
IsNoLayout (NoSuchLayout fault) text = HasNoLayout text fault
IsNoLayout NoMemory text = IsUtf8 text

-- the first n places are those of the zones, and the others are as they were
pub record PlacesTo (n : ℕ) (zones : List Zone) (old new : List ZonePlace) : Type 0 where
  pub first : (k : ℕ) (z : Zone) → k < n → slice_get zones k ≡ Some z → slice_get new k ≡ Some (place_of z)
  pub rest : (k : ℕ) → n ≤ k → slice_get new k ≡ slice_get old k

abbrev pub PlacesOf : List Zone → List ZonePlace → List ZonePlace → Type 0
PlacesOf zones old new = PlacesTo (length zones) zones old new

-- done where there is room for the places, else there is no room
abbrev pub TellsLayout : End → Params → List Zone → List ZonePlace → List ZonePlace → LayoutAnswer → Type 0
TellsLayout Done params zones old new answer = (answer ≡ layout_answer params zones)
    × (length zones ≤ length old) × PlacesOf zones old new
TellsLayout Room params zones old new answer = (answer ≡ layout_answer params zones)
    × (length old < length zones) × (new ≡ old)
TellsLayout other params zones old new answer = ⊥

abbrev pub TellsFault : End → NoLayout → LayoutAnswer → LayoutAnswer → Type 0
TellsFault Argument NotText old new = new ≡ old
TellsFault Memory NoMemory old new = new ≡ old
TellsFault Fault (Word fault) old new = new ≡ fault_answer (word_number fault) (fault_word fault)
TellsFault Fault (NoSuchLayout fault) old new = new ≡ fault_answer (layout_number fault) 0
TellsFault other fault old new = ⊥

-- the layout of the text was told
pub record Laid (end : End) (text : List ℕ) (old new : List ZonePlace) (after : LayoutAnswer) : Type 0 where
  pub params : Params
  pub zones : List Zone
  pub laid : IsLaid text params zones
  pub told : TellsLayout end params zones old new after

-- or why there is none
pub record NotLaid (end : End) (text : List ℕ) (old new : List ZonePlace) (before after : LayoutAnswer) : Type 0 where
  pub fault : NoLayout
  pub is : IsNoLayout fault text
  pub told : TellsFault end fault before after
  pub kept : new ≡ old

abbrev pub LayoutEnds : End → List ℕ → List ZonePlace → List ZonePlace → LayoutAnswer → LayoutAnswer → Type 0
LayoutEnds end text old new before after = Laid end text old new after ⊎ NotLaid end text old new before after

-- ---- a zone of an image

-- done where there is room for the log, else there is no room
abbrev pub TellsReading : ZoneReading → End → List ℕ → List ℕ → ZoneAnswer → Type 0
TellsReading r Done old new answer = (answer ≡ zone_answer r) × (length r.log ≤ length old)
    × (new ≡ r.log ++ drop (length r.log) old)
TellsReading r Room old new answer = (answer ≡ zone_answer r) × (length old < length r.log) × (new ≡ old)
TellsReading r other old new answer = ⊥

-- the reading of this zone
pub record OfZone (end : End) (zones : List Zone) (index : ℕ) (image old new : List ℕ)
    (answer : ZoneAnswer) : Type 0 where
  pub zone : Zone
  pub is : slice_get zones index ≡ Some zone
  pub within : zone.at + zone.size ≤ length image
  pub told : TellsReading (zone_reading zone (zone_bytes zone image)) end old new answer

-- the image ends before the zone does
pub record IsShort (zones : List Zone) (index : ℕ) (image : List ℕ) : Type 0 where
  pub zone : Zone
  pub is : slice_get zones index ≡ Some zone
  pub short : length image < zone.at + zone.size

-- there is such a zone, and the image has it
pub record HasZone (zones : List Zone) (index : ℕ) (image : List ℕ) : Type 0 where
  pub zone : Zone
  pub is : slice_get zones index ≡ Some zone
  pub within : zone.at + zone.size ≤ length image

-- nothing was written
pub record Kept (old new : List ℕ) (before after : ZoneAnswer) : Type 0 where
  pub log : new ≡ old
  pub answer : after ≡ before

abbrev pub ReadsZone : End → List Zone → ℕ → List ℕ → List ℕ → List ℕ → ZoneAnswer → ZoneAnswer → Type 0
ReadsZone Done zones index image old new before after = OfZone Done zones index image old new after
ReadsZone Room zones index image old new before after = OfZone Room zones index image old new after
ReadsZone Short zones index image old new before after = IsShort zones index image × Kept old new before after
ReadsZone Argument zones index image old new before after = (length zones ≤ index) × Kept old new before after
ReadsZone Memory zones index image old new before after = HasZone zones index image × Kept old new before after
ReadsZone other zones index image old new before after = ⊥

-- of the text's layout
pub record InLayout (end : End) (text : List ℕ) (index : ℕ) (image old new : List ℕ)
    (before after : ZoneAnswer) : Type 0 where
  pub params : Params
  pub zones : List Zone
  pub laid : IsLaid text params zones
  pub reads : ReadsZone end zones index image old new before after

-- the ends of a text that has no layout
abbrev pub FaultEnds : End → NoLayout → Type 0
FaultEnds Argument NotText = ⊤
FaultEnds Memory NoMemory = ⊤
FaultEnds Fault (Word fault) = ⊤
FaultEnds Fault (NoSuchLayout fault) = ⊤
FaultEnds other fault = ⊥

pub record NoSuchZone (end : End) (text old new : List ℕ) (before after : ZoneAnswer) : Type 0 where
  pub fault : NoLayout
  pub is : IsNoLayout fault text
  pub ends : FaultEnds end fault
  pub kept : Kept old new before after

abbrev pub ZoneEnds : End → List ℕ → ℕ → List ℕ → List ℕ → List ℕ → ZoneAnswer → ZoneAnswer → Type 0
ZoneEnds end text index image old new before after = InLayout end text index image old new before after
    ⊎ NoSuchZone end text old new before after
