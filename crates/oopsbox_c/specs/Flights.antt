-- What the calls on a flight answer
use Rattle.std.specs.Prelude.{◌≡◌, ℕ, ◌+◌, ◌<◌, ◌≤◌, ◌↔◌, ◌⊎◌, List, [], ◌++◌, length, take, drop}
use Rattle.zone_spec.specs.declared.CallKind.{CallKind}
use Rattle.zone_spec.specs.declared.CallKind.TheVariants.{Append}
use Rattle.zone_spec.specs.declared.Zone.{Zone}
use Rattle.zone_spec.specs.Told.{Call}
use Rattle.zone_spec.specs.Parts.{standing_words}
use Rattle.zone_spec.specs.Reading.{IsRing}
use Rattle.zone_spec.specs.Stores.{after_stores}
use Rattle.zone_spec.specs.Calls.{call_stores}
use Rattle.store_steps.specs.declared.steps.Steps.{Steps}
use Rattle.store_steps.specs.Calls.{call_of, IsOpenFor}
use Rattle.store_steps.specs.Flying.{Flying, flying, IsSameCall}
use Rattle.store_steps.specs.Machine.{IsKept, IsParity, IsAlike, StandsFor, stores_left}
use Rattle.store_steps.specs.Counts.{total_of}
use Rattle.oopsbox_c.specs.Numbers.{call_in, leg_in, phase_in}
use Rattle.oopsbox_c.specs.Places.{zone_in, IsPlace}
use Rattle.oopsbox_c.specs.Stores.{stores_in, AreInside}
use Rattle.oopsbox_c.specs.Tables.{IsLendable}
use Rattle.oopsbox_c.specs.declared.ends.End.{End}
use Rattle.oopsbox_c.specs.declared.ends.End.TheVariants.{Done, Argument, Closed}
use Rattle.oopsbox_c.specs.declared.places.ZonePlace.{ZonePlace}
use Rattle.oopsbox_c.specs.declared.flights.Flight.{Flight}
use Rattle.oopsbox_c.specs.declared.stores.Stores.{Stores}
use Rattle.oopsbox_c.specs.declared.tables.TableRow.{TableRow}

-- ---- a flight

-- the steps that a flight stands for
abbrev pub steps_of : Flight → Steps
steps_of f = record {
  zone = zone_in f.zone;
  words = record { sig = f.old_sig; start = f.old_start; size = f.old_size };
  kind = call_in f.kind;
  made = f.made;
  place = record {
    leg = leg_in f.leg;
    start = f.start;
    size = f.size;
    phase = phase_in f.phase;
    block = f.block;
    number = f.number;
  };
}

-- with this line and this payload
abbrev pub flight_in : Flight → List ℕ → List ℕ → Flying
flight_in f line payload = flying (steps_of f) line payload

-- the flight of a call with this line and this payload
pub record IsFlight (f : Flight) (line payload : List ℕ) : Type 0 where
  pub place : IsPlace f.zone
  pub kind : f.kind ≤ 2
  pub leg : f.leg ≤ 3
  pub phase : f.phase ≤ 9
  pub line_len : f.line ≡ length line
  pub payload_len : f.payload ≡ length payload
  pub short : length line ≤ 36
  pub kept : IsKept (flight_in f line payload)

-- ---- how a call begins

-- the place is a zone's, the image is of its size, and the line is no longer than a dump's may be
pub record IsAsked (place : ZonePlace) (image line : List ℕ) : Type 0 where
  pub is_place : IsPlace place
  pub len : length image ≡ place.size
  pub short : length line ≤ 36

-- the zone's words are signed as the zone is, and are a ring, which for an append can be appended to
pub record CanBeWritten (z : Zone) (call : Call) (image : List ℕ) : Type 0 where
  pub sig : (standing_words z image).sig ≡ z.sig
  pub ring : IsRing (standing_words z image) z.cap
  pub is_open : IsOpenFor call (standing_words z image) z.cap

-- the flight of the call before its first store
pub record IsBegun (place : ZonePlace) (kind : CallKind) (image line payload : List ℕ) (f : Flight) : Type 0 where
  pub asked : IsAsked place image line
  pub stands : CanBeWritten (zone_in place) (call_of kind line payload) image
  pub flight : IsFlight f line payload
  pub zone : f.zone ≡ place
  pub kind_is : call_in f.kind ≡ kind
  pub made : f.made ≡ 0
  pub stands_for : StandsFor (flight_in f line payload) image image

abbrev pub BeginEnds : End → ZonePlace → CallKind → List ℕ → List ℕ → List ℕ → Flight → Flight → Type 0
BeginEnds Done place kind image line payload old new = IsBegun place kind image line payload new
BeginEnds Argument place kind image line payload old new = (¬ (IsAsked place image line)) × (new ≡ old)
BeginEnds Closed place kind image line payload old new = IsAsked place image line
    × (¬ (CanBeWritten (zone_in place) (call_of kind line payload) image)) × (new ≡ old)
BeginEnds other place kind image line payload old new = ⊥

-- ---- how it goes on

-- the flight is one, and the image, the rows and the number can be asked with it
pub record CanGoOn (f : Flight) (image line payload : List ℕ) (table : List TableRow) (most : ℕ) : Type 0 where
  pub flight : IsFlight f line payload
  pub len : length image ≡ f.zone.size
  pub lendable : IsLendable table
  pub some : 0 < most

-- the next stores were handed out, and the flight stands behind them: at the number asked for, at four rows, before the
-- next parity, or at the end
pub record IsNext (f g : Flight) (image line payload : List ℕ) (most : ℕ) (out : Stores) : Type 0 where
  pub flight : IsFlight g line payload
  pub zone : g.zone ≡ f.zone
  pub same : IsSameCall (flight_in f line payload) (flight_in g line payload)
  pub made : g.made ≡ f.made + length (stores_in out line payload)
  pub at_most : length (stores_in out line payload) ≤ most
  pub some : f.made < total_of (flight_in f line payload) → 0 < length (stores_in out line payload)
  pub inside : AreInside f.zone.size out line payload
  pub handed : (now before : List ℕ) → IsAlike (flight_in f line payload) image now
      → StandsFor (flight_in f line payload) now before
      → stores_in out line payload ≡ take (length (stores_in out line payload))
      (drop f.made (call_stores (zone_in f.zone) (call_of (call_in f.kind) line payload) before))
  pub stands : (now before : List ℕ) → IsAlike (flight_in f line payload) image now
      → StandsFor (flight_in f line payload) now before
      → StandsFor (flight_in g line payload) (after_stores now (stores_in out line payload)) before
  pub none : f.made ≡ total_of (flight_in f line payload) → out.count ≡ 0
  pub is_last : (out.is_last ≡ 1) ↔ (g.made ≡ total_of (flight_in f line payload))
  pub flag : out.is_last ≤ 1
  pub stops : (most ≤ length (stores_in out line payload)) ⊎ (out.count ≡ 4) ⊎ IsParity (phase_in g.phase)
      ⊎ (out.is_last ≡ 1)

-- and whatever the zone's bytes are: the stores are the next of those that the flight leaves on them
abbrev pub ComesNext : Flight → Flight → List ℕ → List ℕ → List ℕ → Stores → Type 0
ComesNext f g image line payload out = stores_left (flight_in f line payload) image ≡ stores_in out line payload
    ++ stores_left (flight_in g line payload) (after_stores image (stores_in out line payload))

abbrev pub NextEnds : End → Flight → Flight → List ℕ → List ℕ → List ℕ → List TableRow → ℕ → Stores → Stores
    → Type 0
NextEnds Done f g image line payload table most old new = CanGoOn f image line payload table most
    × IsNext f g image line payload most new × ComesNext f g image line payload new
NextEnds Argument f g image line payload table most old new = (¬ (CanGoOn f image line payload table most))
    × (g ≡ f) × (new ≡ old)
NextEnds other f g image line payload table most old new = ⊥

-- ---- an append, with its first stores in the same answer

-- as many as there are: up to the first parity, or, without parity, all
pub record IsAppended (place : ZonePlace) (image payload : List ℕ) (f : Flight) (out : Stores) : Type 0 where
  pub begun : Flight
  pub is_begun : IsBegun place Append image [] payload begun
  pub is_next : IsNext begun f image [] payload 4_294_967_295 out
  pub whole : place.parity ≡ 0 → out.is_last ≡ 1

abbrev pub AppendEnds : End → ZonePlace → List ℕ → List ℕ → Flight → Flight → Stores → Stores → Type 0
AppendEnds Done place image payload f g old new = IsAppended place image payload g new
AppendEnds Argument place image payload f g old new = (¬ (IsAsked place image [])) × (g ≡ f) × (new ≡ old)
AppendEnds Closed place image payload f g old new = IsAsked place image []
    × (¬ (CanBeWritten (zone_in place) (call_of Append [] payload) image)) × (g ≡ f) × (new ≡ old)
AppendEnds other place image payload f g old new = ⊥
