-- What a move carries over: the records that fit, and no other
use Rattle.std.specs.Prelude.{◌≡◌, ℕ, ◌<◌, true, if◌then◌else◌, List, [], ◌∷◌, length, map, filter, flat_map}
use Rattle.std.specs.Prelude.{slice_get, Some}
use Rattle.std.specs.List.{AllByRecursion}
use Rattle.zone_spec.specs.declared.Zone.{Zone}
use Rattle.zone_spec.specs.declared.ZoneName.{ZoneName}
use Rattle.zone_spec.specs.declared.Kind.{Kind}
use Rattle.zone_spec.specs.Parts.{AreBytes}
use Rattle.zone_spec.specs.Reading.{ZoneReading}
use Rattle.zone_spec.specs.Records.{Saved, Listed, is_of, found, listed_of}
use Rattle.zone_spec.specs.declared.params.Params.{Params}
use Rattle.zone_spec.specs.Layout.{zones_of}
use Rattle.zone_spec.specs.Layouts.{zone_place, IsLayout}
use Rattle.machine_spec.specs.States.{OffState}
use Rattle.machine_spec.specs.Boot.{booted}
use Rattle.machine_spec.specs.Erasures.{saved_logs}
use Rattle.machine_spec.specs.Moved.{fits, fitting, found_of, moved}
use Rattle.move_laws.specs.Moves.{LogsFit}

-- the logs that a move carries over list the records that fit, in their order, each with its name, content
-- and time, and no other
abbrev pub FittingListsWhatFits : Type 0
FittingListsWhatFits = (layout : List Zone) (zones : List Saved)
    → listed_of (fitting layout zones) ≡ filter (λ (r : Listed). fits layout zones r.name) (listed_of zones)

-- each zone of a layout is the one that its name finds
abbrev pub AreNamed : List Zone → Type 0
AreNamed layout = (i : ℕ) (z : Zone) → slice_get layout i ≡ Some z → zone_place layout z.name ≡ Some i

-- a log of bytes, and of one at least
abbrev pub IsOfBytes : ZoneReading → Type 0
IsOfBytes r = (0 < length r.log) × AreBytes r.log

-- so are those that were found of saved zones
abbrev pub HaveBytes : List Saved → Type 0
HaveBytes zones = (i : ℕ) (zone : Saved) → slice_get zones i ≡ Some zone → AllByRecursion IsOfBytes (found zone.1)

-- then the logs that a move carries over fit their zones
abbrev pub FittingLogsFit : Type 0
FittingLogsFit = (layout : List Zone) (zones : List Saved) → AreNamed layout → HaveBytes zones
    → LogsFit layout (fitting layout zones)

-- a log beside the name of its zone
abbrev pub named : ZoneName → ZoneReading → ZoneName × List ℕ
named name r = (name, r.log)

-- the logs of readings, beside the name of their zone, if that is of this kind
abbrev pub named_of : Kind → ZoneName → List ZoneReading → List (ZoneName × List ℕ)
named_of kind name rs = if is_of kind name.kind then map (named name) rs else []

-- at most one reading, and that of a log with bytes
abbrev pub IsOneLog : List ZoneReading → Type 0
IsOneLog [] = Unit {0}
IsOneLog (r ∷ []) = 0 < length r.log
IsOneLog (r ∷ s ∷ rs) = ⊥

-- a layout takes all saved logs, those of each kind in their order, at most one of them in each zone
pub record TakesInOrder (layout : List Zone) (zones : List Saved) : Type 0 where
  pub one : (i : ℕ) (z : Zone) → slice_get layout i ≡ Some z → IsOneLog (found_of zones z)
  pub order : (kind : Kind) → flat_map (λ (z : Zone). named_of kind z.name (found_of zones z)) layout
      ≡ flat_map (λ (zone : Saved). named_of kind zone.0.name (found zone.1)) zones

-- then a boot of the moved image lists the records of these logs
abbrev pub MovedImageLists : Type 0
MovedImageLists = (layout : List Zone) (mem : ℕ) (zones : List Saved) → IsLayout layout mem → LogsFit layout zones
    → TakesInOrder layout zones
    → listed_of (saved_logs layout (booted layout (moved layout mem zones))) ≡ listed_of zones

-- of each kind, those of the saved zones that the layout has come in its order
abbrev pub ComeInOrder : List Zone → List Saved → Type 0
ComeInOrder layout zones = (i j m n : ℕ) (a b : Saved) → i < j → slice_get zones i ≡ Some a → slice_get zones j ≡ Some b
    → is_of a.0.name.kind b.0.name.kind ≡ true → zone_place layout a.0.name ≡ Some m → zone_place layout b.0.name ≡ Some n
    → m < n

-- then the layout takes the logs that a move carries over in their order
abbrev pub FittingTakesInOrder : Type 0
FittingTakesInOrder = (layout : List Zone) (zones : List Saved) → AreNamed layout → HaveBytes zones
    → ComeInOrder layout zones
    → TakesInOrder layout (fitting layout zones)

-- so after a move a boot lists the records that fit, as they were listed, and no other
abbrev pub MoveListsWhatFits : Type 0
MoveListsWhatFits = (layout : List Zone) (mem : ℕ) (zones : List Saved) → IsLayout layout mem → AreNamed layout
    → HaveBytes zones → ComeInOrder layout zones
    → listed_of (saved_logs layout (booted layout (moved layout mem (fitting layout zones))))
    ≡ filter (λ (r : Listed). fits layout zones r.name) (listed_of zones)

-- the logs that a boot finds are of bytes, and of one at least
abbrev pub BootsHaveBytes : Type 0
BootsHaveBytes = (layout : List Zone) (off : OffState) → AreBytes off.image
    → HaveBytes (saved_logs layout (booted layout off))

-- so those of an image that a move carries over fit the zones of a layout
abbrev pub ImageLogsFit : Type 0
ImageLogsFit = (old new : List Zone) (off : OffState) → AreNamed new → AreBytes off.image
    → LogsFit new (fitting new (saved_logs old (booted old off)))

-- after a boot under an old layout and a move to one whose zones have names of their own, and those of each kind the
-- old one's order, a boot lists the records that fit, as they were listed, and no other
abbrev pub MoveKeepsRecords : Type 0
MoveKeepsRecords = (old new : List Zone) (mem : ℕ) (off : OffState) → IsLayout new mem → AreNamed new
    → AreBytes off.image
    → let saved : List Saved = saved_logs old (booted old off) in
    ComeInOrder new saved
    → listed_of (saved_logs new (booted new (moved new mem (fitting new saved))))
    ≡ filter (λ (r : Listed). fits new saved r.name) (listed_of saved)

-- the zones of a kind come in one order under all parameters: by number
abbrev pub LayoutsComeInOrder : Type 0
LayoutsComeInOrder = (p q : Params) (off : OffState)
    → ComeInOrder (zones_of q) (saved_logs (zones_of p) (booted (zones_of p) off))

-- and each of them is the one that its name finds
abbrev pub LayoutsAreNamed : Type 0
LayoutsAreNamed = (p : Params) → AreNamed (zones_of p)

-- so after a move from any parameters to others a boot lists the records that fit, as they were listed, and
-- no other
abbrev pub LayoutsKeepRecords : Type 0
LayoutsKeepRecords = (p q : Params) (mem : ℕ) (off : OffState) → IsLayout (zones_of q) mem → AreBytes off.image
    → let old : List Zone = zones_of p in
    let new : List Zone = zones_of q in
    let saved : List Saved = saved_logs old (booted old off) in
    listed_of (saved_logs new (booted new (moved new mem (fitting new saved))))
    ≡ filter (λ (r : Listed). fits new saved r.name) (listed_of saved)
