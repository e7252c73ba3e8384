-- What the lines of a script do in a shared zone, and the text at its end
use Rattle.std.specs.Prelude.{ℕ, zero, suc, ◌+◌, ◌-◌, ◌==◌, ◌||◌, Bool, nat_lt, List, [], ◌++◌, length, fold, flat_map}
use Rattle.std.specs.Prelude.{slice_get, codes, decimal, Option, Some, None, Result, Ok, Err}
use Rattle.zone_spec.specs.declared.Zone.{Zone}
use Rattle.zone_spec.specs.declared.params.Params.{Params}
use Rattle.zone_spec.specs.declared.ZoneName.{ZoneName}
use Rattle.zone_spec.specs.declared.Kind.TheVariants.{Ftrace}
use Rattle.zone_spec.specs.Layouts.{zone_place}
use Rattle.zone_spec.specs.Parts.{standing_words}
use Rattle.shared_spec.specs.declared.SharedRefusal.{SharedRefusal}
use Rattle.shared_spec.specs.declared.SharedRefusal.TheVariants.{NoSeat as NoSeatThere, Crowded as CrowdedThere}
use Rattle.shared_spec.specs.declared.OpenCall.{OpenCall}
use Rattle.shared_spec.specs.Calls.{SharedCall, open_call}
use Rattle.shared_spec.specs.Machine.{SharedZone, refusal, open_calls}
use Rattle.shared_spec.specs.Runs.{Reserve as ReserveBytes, StoreNext as StoreByte}
use Rattle.shared_spec.specs.Histories.{History, shared_zone, and_then}
use Rattle.grammar_spec.specs.Fields.{Text}
use Rattle.grammar_spec.specs.declared.line.Line.{Line}
use Rattle.grammar_spec.specs.declared.line.Line.TheVariants.{Blank, Reserve, StoreNext}
use Rattle.script_spec.specs.Texts.{newline}
use Rattle.script_spec.specs.declared.Cause.{Cause}
use Rattle.script_spec.specs.declared.Cause.TheVariants.{Idle, NotHere, NoSeat, Crowded}

-- ---- the zone

-- the zone that is shared is ftrace-0
abbrev pub shared_name : ZoneName
shared_name = record { kind = Ftrace; index = 0 }

abbrev pub zone_at : List Zone → Option ℕ → Option Zone
zone_at zones None = None
zone_at zones (Some place) = slice_get zones place

abbrev pub zone_to_share : List Zone → Option Zone
zone_to_share zones = zone_at zones (zone_place zones shared_name)

-- the parameters give no ftrace zone, or one with parity
abbrev pub lacks_plain_ftrace : Params → Bool
lacks_plain_ftrace p = (p.ftrace == 0) || nat_lt 0 p.ecc_ftrace

-- ---- the lines

-- a reservation, or why it is refused
abbrev pub reserves : History → List ℕ → Option SharedRefusal → Result History Cause
reserves h payload None = Ok (and_then h (ReserveBytes payload))
reserves h payload (Some NoSeatThere) = Err NoSeat
reserves h payload (Some (CrowdedThere held)) = Err Crowded

-- with so many steps more of a call; those after its last byte change nothing
unfoldable pub with_steps : History → ℕ → ℕ → History
with_steps h ticket zero = h
with_steps h ticket (suc k) = and_then (with_steps h ticket k) (StoreByte ticket)

-- the next k bytes of an open call, or all that are left
abbrev pub stores : History → ℕ → ℕ → Option SharedCall → Result History Cause
stores h ticket k None = Err Idle
stores h ticket k (Some call) = Ok (with_steps h ticket k)

-- what a line leaves, or its cause of refusal
unfoldable pub shared_line : History → Line → Result History Cause
shared_line h Blank = Ok h
shared_line h (Reserve payload) = reserves h payload (refusal h.zone (shared_zone h).calls (length payload))
shared_line h (StoreNext ticket k) = stores h ticket k (open_call (shared_zone h).calls ticket)
shared_line h other = Err NotHere

-- a script so far: the history, how many lines are done, and the cause of the line behind them, if it was refused
pub record SharedRan : Type 0 where
  pub history : History
  pub count : ℕ
  pub refused : Option Cause

-- after a refused line no other is done
abbrev pub shared_on : SharedRan → Option Cause → Result History Cause → SharedRan
shared_on ran (Some cause) next = ran
shared_on ran None (Ok h) = record { history = h; count = ran.count + 1; refused = None }
shared_on ran None (Err cause) = record ran { refused = Some cause }

abbrev pub next_shared : SharedRan → Line → SharedRan
next_shared ran line = shared_on ran ran.refused (shared_line ran.history line)

-- a script on a zone that was just opened in an image
abbrev pub shared_ran : Zone → List ℕ → List Line → SharedRan
shared_ran z image lines =
    fold next_shared (record {
      history = record { image = image; zone = z; operations = [] };
      count = 0;
      refused = None;
    }) lines

-- ---- the text

-- `open T place P length N stored K`
abbrev pub open_text : OpenCall → Text
open_text call =
    codes "open " ++ decimal call.ticket ++ codes " place " ++ decimal call.place ++ codes " length "
    ++ decimal call.length ++ codes " stored " ++ decimal call.stored ++ newline

-- `shared calls C done D open O start S size Z`
abbrev pub calls_text : ℕ → ℕ → ℕ → ℕ → Text
calls_text calls opened start size =
    codes "shared calls " ++ decimal calls ++ codes " done " ++ decimal (calls - opened) ++ codes " open "
    ++ decimal opened ++ codes " start " ++ decimal start ++ codes " size " ++ decimal size ++ newline

-- these, and a line for each open call
abbrev pub shared_text : Zone → SharedZone → Text
shared_text z shared =
    let opened = open_calls z shared in
    let words = standing_words z shared.image in
    calls_text (length shared.calls) (length opened) words.start words.size ++ flat_map open_text opened
