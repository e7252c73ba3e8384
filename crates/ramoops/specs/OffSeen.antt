-- What a contract sees of a machine that is off, and the states that it stands for
use Rattle.std.specs.Prelude.{◌≡◌, ℕ, ◌-◌, ◌++◌, List, length, replicate, slice_get, filter, sum_by, Option, Some, None}
use Rattle.std.specs.List.{range_with_len}
use Rattle.std.specs.Option.{option_map}
use Rattle.circular_buffer.specs.Buffer.{Buffer}
use Rattle.zone_spec.specs.declared.Zone.{Zone}
use Rattle.zone_spec.specs.Cut.{Cut, cut_kind, cut_stages, cut_pairs, is_touched}
use Rattle.zone_spec.specs.Stages.{stage_count}
use Rattle.zone_spec.specs.Touched.{runs_of}
use Rattle.machine_spec.specs.States.{OffZone, OffState}
use Rattle.ramoops.specs.declared.known.KnownZone.{KnownZone}
use Rattle.ramoops.specs.SeenCut.{SeenCut}

-- the zones of the layout and the bytes of the image, the image, and what is known of each zone
pub record OffSeen : Type 0 where
  pub layout : List Zone
  pub mem : ℕ
  pub image : List ℕ
  pub zones : List KnownZone

-- what a cut of the definitions shows of itself
unfoldable pub shown_cut : Zone → Cut → SeenCut
shown_cut z cut = record {
  kind = cut_kind cut;
  made = cut.made;
  total = sum_by (stage_count z) (cut_stages z cut);
  pairs = cut_pairs z cut;
  runs = runs_of (filter (λ b. is_touched z cut b) (range_with_len 0 z.blocks));
}

-- what is kept of a zone stands for what is known of it: its told list, and its cut
pub record StandsForKnown (z : Zone) (known : KnownZone) (zone : OffZone) : Type 0 where
  pub told : option_map (λ (t : Buffer ℕ). t.items) known.told ≡ zone.told
  pub cut : known.cut ≡ option_map (shown_cut z) zone.cut

-- the machine stands for a state over this layout, whatever its zones' bytes were at their stops
pub record StandsOff (layout : List Zone) (mem : ℕ) (v : OffSeen) (s : OffState) : Type 0 where
  pub same_layout : v.layout ≡ layout
  pub same_mem : v.mem ≡ mem
  pub image : v.image ≡ s.image
  pub kept : length v.zones ≡ length layout
  pub count : length s.zones ≡ length layout
  pub zones : (i : ℕ) (z : Zone) (known : KnownZone) (zone : OffZone) → slice_get layout i ≡ Some z
      → slice_get v.zones i ≡ Some known → slice_get s.zones i ≡ Some zone → StandsForKnown z known zone

-- a zone of which nothing is known
abbrev pub unknown : KnownZone
unknown = record { told = None; cut = None }

-- a zone of which this is known, or nothing
abbrev pub known_or : Option KnownZone → KnownZone
known_or None = unknown
known_or (Some known) = known

-- what is known of so many zones: those after the end of the list are unknown
unfoldable pub known_all : ℕ → List KnownZone → List KnownZone
known_all count known = known ++ replicate (count - length known) unknown

-- nothing is known of the zones
abbrev pub AreUnknown : List KnownZone → Type 0
AreUnknown zones = (i : ℕ) (known : KnownZone) → slice_get zones i ≡ Some known
    → (known.told ≡ None) × (known.cut ≡ None)
