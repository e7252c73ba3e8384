-- The words that the tool takes, and what each command wants
use Rattle.std.specs.Prelude.{ℕ, ◌+◌, Bool, true, false, ◌&&◌, if◌then◌else◌, nat_lt, List, [], ◌∷◌, length, take, drop}
use Rattle.std.specs.Prelude.{position, is_some, replicate, codes, bytes_eq, Option, Some, None, Result, Ok, Err}
use Rattle.zone_spec.specs.declared.Zone.{Zone}
use Rattle.zone_spec.specs.declared.ZoneName.{ZoneName}
use Rattle.zone_spec.specs.declared.params.Params.{Params}
use Rattle.zone_spec.specs.declared.params.LayoutFault.{LayoutFault}
use Rattle.zone_spec.specs.Layout.{layout_of}
use Rattle.zone_spec.specs.Records.{Saved, Listed}
use Rattle.zone_spec.specs.Notices.{content}
use Rattle.zone_spec.specs.Reading.{ZoneReading}
use Rattle.salvage_spec.specs.declared.RingFault.{RingFault}
use Rattle.salvage_spec.specs.declared.RingFault.TheVariants.{NoZone as RingNoZone, NoRing as RingNoRing}
use Rattle.salvage_spec.specs.declared.RingFault.TheVariants.{Memory as RingMemory}
use Rattle.salvage_spec.specs.Rings.{rings, read_at}
use Rattle.blk_spec.specs.declared.BlkParams.{BlkParams}
use Rattle.blk_spec.specs.declared.BlkLayout.{BlkLayout}
use Rattle.blk_spec.specs.Layout.{layout_of as blk_layout_of}
use Rattle.machine_spec.specs.States.{LiveState}
use Rattle.machine_spec.specs.Off.{fresh}
use Rattle.machine_spec.specs.Boot.{booted}
use Rattle.machine_spec.specs.Stop.{stopped, session_image}
use Rattle.machine_spec.specs.Erasures.{saved_logs, erased}
use Rattle.machine_spec.specs.Moved.{fitting, moved}
use Rattle.grammar_spec.specs.declared.faults.ParamFault.{ParamFault}
use Rattle.grammar_spec.specs.Words.{ok_unless}
use Rattle.grammar_spec.specs.ZoneWords.{first_fault, params_of}
use Rattle.grammar_spec.specs.BlkWords.{first_fault as blk_first_fault, params_of as blk_params_of}
use Rattle.grammar_spec.specs.Fields.{Text, number, zone}
use Rattle.grammar_spec.specs.Lines.{script_of}
use Rattle.grammar_spec.specs.declared.line.Line.{Line}
use Rattle.command_spec.specs.Texts.{layout_text, rings_text}
use Rattle.script_spec.specs.Texts.{listing, move_text}
use Rattle.script_spec.specs.Scripts.{Ran, ran, named}
use Rattle.script_spec.specs.SharedScripts.{SharedRan, shared_ran, shared_text, zone_to_share, lacks_plain_ftrace}
use Rattle.shared_spec.specs.Histories.{shared_zone, image_left}
use Rattle.script_spec.specs.Generated.{Generated, generated, summary}
use Rattle.command_spec.specs.Ends.{End}
use Rattle.script_spec.specs.declared.Cause.{Cause}
use Rattle.script_spec.specs.declared.Cause.TheVariants.{NoRecord, NoZone, NoRing}
use Rattle.command_spec.specs.declared.Stop.{Stop}
use Rattle.command_spec.specs.declared.Stop.TheVariants.{Memory, Usage, Param, Layout as LayoutStop, Short, TooLong}
use Rattle.command_spec.specs.declared.Stop.TheVariants.{BadLine, Refused, NoSharedZone}

-- ---- words

-- a command on an image of the ram store, or on a memory dump that may hold its rings
pub data RamCommand : Type 0 where
  Run : RamCommand
  ListRecords : RamCommand
  Extract : (name : Text) → RamCommand
  Erase : (name : Text) → RamCommand
  ShowLayout : RamCommand
  Blank : RamCommand
  Make : (n : ℕ) → RamCommand
  SharedRun : RamCommand
  Salvage : RamCommand
  Rescue : (at : ℕ) (name : ZoneName) → RamCommand

-- what a command does with the image, which any that writes it writes last
pub data Class : Type 0 where
  -- it reads the image and a script, and writes the image
  RunsScript : Class
  -- it reads the image
  ReadsImage : Class
  -- it reads the front of a file of any length
  ReadsDump : Class
  -- it reads the image, and writes it
  WritesImage : Class
  -- it reads nothing, and writes the image
  MakesImage : Class
  -- it does not look at the image
  ShowsText : Class

abbrev pub class_of : RamCommand → Class
class_of Run = RunsScript
class_of SharedRun = RunsScript
class_of ListRecords = ReadsImage
class_of (Extract name) = ReadsImage
class_of (Erase name) = WritesImage
class_of ShowLayout = ShowsText
class_of Blank = MakesImage
class_of (Make n) = MakesImage
class_of Salvage = ReadsDump
class_of (Rescue at name) = ReadsDump

-- what a word names: such a command, a script on the block store, or a move to these parameters
pub data Command : Type 0 where
  OnRam : (command : RamCommand) → Command
  BlkRun : Command
  Move : (to : List Text) → Command

-- a command, how many words stand before its parameters, and these
pub record Asked : Type 0 where
  pub command : Command
  pub before : ℕ
  pub params : List Text

abbrev pub plain : Command → List Text → Option Asked
plain command words = Some (record { command = command; before = 2; params = words })

-- a command with a NAME, a word of any form
abbrev pub with_name : (Text → RamCommand) → List Text → Option Asked
with_name command [] = None
with_name command (name ∷ words) = Some (record { command = OnRam (command name); before = 3; params = words })

abbrev pub numbered : Option ℕ → List Text → Option Asked
numbered None words = None
numbered (Some n) words = Some (record { command = OnRam (Make n); before = 3; params = words })

-- `make` with N, a decimal number below 2^32
abbrev pub with_number : List Text → Option Asked
with_number [] = None
with_number (n ∷ words) = numbered (number n) words

abbrev pub placed : Option ℕ → Option ZoneName → List Text → Option Asked
placed (Some at) (Some name) words = Some (record { command = OnRam (Rescue at name); before = 4; params = words })
placed at name words = None

-- `rescue` with A, a decimal number below 2^32, and a ZONE
abbrev pub with_place : List Text → Option Asked
with_place (at ∷ name ∷ words) = placed (number at) (zone name) words
with_place other = None

-- whether a word stands between the two lists of parameters of a move
abbrev pub is_to : Text → Bool
is_to word = bytes_eq word (codes "to")

-- `move` with parameters, one `to`, and parameters: where the first `to` is
abbrev pub parted : Option ℕ → List Text → Option Asked
parted None words = None
parted (Some i) words =
    if is_some (position is_to (drop (i + 1) words)) then None
    else Some (record { command = Move (drop (i + 1) words); before = 2; params = take i words })

unfoldable pub with_to : List Text → Option Asked
with_to words = parted (position is_to words) words

-- the command that a word names, with the words behind it
abbrev pub asked_by : Text → List Text → Option Asked
asked_by word words =
    if bytes_eq word (codes "run") then plain (OnRam Run) words
    else if bytes_eq word (codes "list") then plain (OnRam ListRecords) words
    else if bytes_eq word (codes "extract") then with_name Extract words
    else if bytes_eq word (codes "erase") then with_name Erase words
    else if bytes_eq word (codes "layout") then plain (OnRam ShowLayout) words
    else if bytes_eq word (codes "blank") then plain (OnRam Blank) words
    else if bytes_eq word (codes "make") then with_number words
    else if bytes_eq word (codes "blk-run") then plain BlkRun words
    else if bytes_eq word (codes "move") then with_to words
    else if bytes_eq word (codes "shared-run") then plain (OnRam SharedRun) words
    else if bytes_eq word (codes "salvage") then plain (OnRam Salvage) words
    else if bytes_eq word (codes "rescue") then with_place words
    else None

-- IMAGE COMMAND and what follows it; None for words outside the grammar
abbrev pub asked : List Text → Option Asked
asked (image ∷ word ∷ words) = asked_by word words
asked other = None

-- a command on an image with its parameters and their layout
pub record RamPlan : Type 0 where
  pub command : RamCommand
  pub params : Params
  pub zones : List Zone

-- parameters with their layout
pub record Laid : Type 0 where
  pub params : Params
  pub zones : List Zone

-- a move from an image of one layout to one of another
pub record MovePlan : Type 0 where
  pub from : Laid
  pub to : Laid

-- a command with its layout: the zones of an image, a block store, or the zones of two images
pub data Plan : Type 0 where
  OfRam : (plan : RamPlan) → Plan
  OfBlk : (layout : BlkLayout) → Plan
  OfMove : (plan : MovePlan) → Plan

-- a script on a shared zone needs one; this is asked of parameters whose layout has no fault
abbrev pub lacks_zone : RamCommand → Params → Bool
lacks_zone SharedRun params = lacks_plain_ftrace params
lacks_zone other params = false

abbrev pub with_layout : RamCommand → Params → Result (List Zone) LayoutFault → Result Plan Stop
with_layout command params (Ok zones) =
    if lacks_zone command params then Err NoSharedZone
    else Ok (OfRam (record { command = command; params = params; zones = zones }))
with_layout command params (Err fault) = Err (LayoutStop fault)

abbrev pub with_params : RamCommand → ℕ → Result Params ParamFault → Result Plan Stop
with_params command before (Ok params) = with_layout command params (layout_of params)
with_params command before (Err fault) = Err (Param fault before)

abbrev pub with_blk_layout : Result BlkLayout LayoutFault → Result Plan Stop
with_blk_layout (Ok layout) = Ok (OfBlk layout)
with_blk_layout (Err fault) = Err (LayoutStop fault)

abbrev pub with_blk_params : ℕ → Result BlkParams ParamFault → Result Plan Stop
with_blk_params before (Ok params) = with_blk_layout (blk_layout_of params)
with_blk_params before (Err fault) = Err (Param fault before)

-- a move by its two lists of parameters: the first one's fault, the second one's, and those of their layouts
abbrev pub with_second_layout : Laid → Params → Result (List Zone) LayoutFault → Result Plan Stop
with_second_layout from to (Ok zones) = Ok (OfMove (record { from = from; to = record { params = to; zones = zones } }))
with_second_layout from to (Err fault) = Err (LayoutStop fault)

abbrev pub with_first_layout : Params → Params → Result (List Zone) LayoutFault → Result Plan Stop
with_first_layout from to (Ok zones) = with_second_layout (record { params = from; zones = zones }) to (layout_of to)
with_first_layout from to (Err fault) = Err (LayoutStop fault)

abbrev pub with_second_params : Params → ℕ → Result Params ParamFault → Result Plan Stop
with_second_params from before (Ok to) = with_first_layout from to (layout_of from)
with_second_params from before (Err fault) = Err (Param fault before)

abbrev pub with_first_params : ℕ → List Text → ℕ → Result Params ParamFault → Result Plan Stop
with_first_params second words before (Ok from) =
    with_second_params from second (ok_unless (first_fault [] words) (params_of words))
with_first_params second words before (Err fault) = Err (Param fault before)

-- a command by its parameters, behind so many words
abbrev pub laid_out : Command → ℕ → List Text → Result Plan Stop
laid_out (OnRam command) before params =
    with_params command before (ok_unless (first_fault [] params) (params_of params))
laid_out BlkRun before params =
    with_blk_params before (ok_unless (blk_first_fault [] params) (blk_params_of params))
laid_out (Move to) before params =
    with_first_params (before + length params + 1) to before (ok_unless (first_fault [] params) (params_of params))

abbrev pub planned : Option Asked → Result Plan Stop
planned None = Err Usage
planned (Some a) = laid_out a.command a.before a.params

-- what the words ask for, or the first fault: of the words, of a parameter, of the layout
abbrev pub plan_of : List Text → Result Plan Stop
plan_of words = planned (asked words)

-- the bytes of the image
abbrev pub mem_of : RamPlan → ℕ
mem_of plan = plan.params.mem

abbrev pub laid_mem : Laid → ℕ
laid_mem laid = laid.params.mem

-- ---- what a command wants

-- where no fault of the outside and no want of memory comes in its way: the pieces of text that it puts in
-- order, how it ends, and the bytes that it then writes to the front of the image
pub record Wanted : Type 0 where
  pub texts : List Text
  pub end : End
  pub writes : Option (List ℕ)

-- it puts these, and writes nothing
abbrev pub shows : List Text → Wanted
shows texts = record { texts = texts; end = Ok tt; writes = None }

-- it puts nothing, and writes these bytes
abbrev pub leaves : List ℕ → Wanted
leaves image = record { texts = []; end = Ok tt; writes = Some image }

-- it is refused before any text
abbrev pub stops : Stop → Wanted
stops stop = record { texts = []; end = Err stop; writes = None }

-- the bytes that a script has at most
abbrev pub script_limit : ℕ
script_limit = 4194304

-- a script that ran to its end, or to a refused line
abbrev pub script_end : ℕ → Option Cause → End
script_end done None = Ok tt
script_end done (Some cause) = Err (Refused (done + 1) cause)

abbrev pub wanted_lines : Ran → Wanted
wanted_lines r = record {
  texts = r.texts;
  end = script_end (length r.texts) r.refused;
  writes = Some (session_image r.session);
}

abbrev pub wanted_script : List Zone → List ℕ → Result (List Line) ℕ → Wanted
wanted_script layout image (Ok lines) = wanted_lines (ran layout image lines)
wanted_script layout image (Err n) = stops (BadLine n)

-- a script on an image
abbrev pub wanted_run : List Zone → List ℕ → List ℕ → Wanted
wanted_run layout image script =
    if nat_lt script_limit (length script) then stops TooLong else wanted_script layout image (script_of script)

-- the store after a boot of an image of which nothing is known: what the commands `list`, `extract` and
-- `erase` speak of
abbrev pub after_boot : List Zone → List ℕ → LiveState
after_boot layout image = booted layout (fresh layout image)

-- a script on the zone ftrace-0 of the image of a session `boot`, `stop`: one text at its end
abbrev pub wanted_calls : SharedRan → Wanted
wanted_calls r = record {
  texts = shared_text r.history.zone (shared_zone r.history) ∷ [];
  end = Ok tt;
  writes = Some (image_left r.history);
}

-- a refused line comes before that text
abbrev pub wanted_ran : SharedRan → Option Cause → Wanted
wanted_ran r None = wanted_calls r
wanted_ran r (Some cause) = stops (Refused (r.count + 1) cause)

abbrev pub wanted_in_zone : Option Zone → List ℕ → List Line → Wanted
wanted_in_zone None image lines = stops NoSharedZone
wanted_in_zone (Some z) image lines = let r = shared_ran z image lines in wanted_ran r r.refused

abbrev pub wanted_shared_lines : List Zone → List ℕ → Result (List Line) ℕ → Wanted
wanted_shared_lines layout image (Ok lines) =
    wanted_in_zone (zone_to_share layout) (stopped layout (after_boot layout image)).image lines
wanted_shared_lines layout image (Err n) = stops (BadLine n)

abbrev pub wanted_shared : List Zone → List ℕ → List ℕ → Wanted
wanted_shared layout image script =
    if nat_lt script_limit (length script) then stops TooLong
    else wanted_shared_lines layout image (script_of script)

-- the commands put no boot lines, and refuse a name as the second line of a script would
abbrev pub unlisted : Wanted
unlisted = stops (Refused 2 NoRecord)

-- `extract` puts the content alone
abbrev pub wanted_extract : List Zone → LiveState → Option Listed → Wanted
wanted_extract layout live None = unlisted
wanted_extract layout live (Some r) = shows (content (saved_logs layout live) r ∷ [])

-- `erase` is a boot, the erasure of a record, and a stop; after a boot no call is in its way
abbrev pub wanted_erase : List Zone → LiveState → Option Listed → Wanted
wanted_erase layout live None = unlisted
wanted_erase layout live (Some r) = leaves (stopped layout (erased layout live r.name)).image

abbrev pub wanted_make : ℕ → List Zone → Generated → Wanted
wanted_make n layout made = record {
  texts = summary n layout made ∷ [];
  end = Ok tt;
  writes = Some (session_image made.session);
}

-- `rescue` puts the log of a ring alone, and refuses a zone or a place as the first line of a script would
abbrev pub wanted_ring : Result ZoneReading RingFault → Wanted
wanted_ring (Ok reading) = shows (reading.log ∷ [])
wanted_ring (Err RingNoZone) = stops (Refused 1 NoZone)
wanted_ring (Err RingNoRing) = stops (Refused 1 NoRing)
wanted_ring (Err RingMemory) = stops Memory

-- what each command wants of an image, or a dump, and a script
abbrev pub wanted_of : Params → List Zone → List ℕ → List ℕ → RamCommand → Wanted
wanted_of params layout image script Run = wanted_run layout image script
wanted_of params layout image script ListRecords = shows (listing (saved_logs layout (after_boot layout image)) ∷ [])
wanted_of params layout image script (Extract name) =
    let live = after_boot layout image in wanted_extract layout live (named (saved_logs layout live) name)
wanted_of params layout image script (Erase name) =
    let live = after_boot layout image in wanted_erase layout live (named (saved_logs layout live) name)
wanted_of params layout image script ShowLayout = shows (layout_text params layout ∷ [])
wanted_of params layout image script Blank = leaves (replicate params.mem 0)
wanted_of params layout image script SharedRun = wanted_shared layout image script
wanted_of params layout image script (Make n) = wanted_make n layout (generated layout params.mem n)
wanted_of params layout dump script Salvage = shows (rings_text (rings dump layout) ∷ [])
wanted_of params layout dump script (Rescue at name) = wanted_ring (read_at dump layout at name)

-- whether a command reads an image, of the size of its layout
abbrev pub reads_image : Class → Bool
reads_image RunsScript = true
reads_image ReadsImage = true
reads_image WritesImage = true
reads_image other = false

-- the bytes that a dump has at most
abbrev pub dump_limit : ℕ
dump_limit = 16777216

-- how many of a store's first bytes a command takes: the image, or a dump, however long that is
abbrev pub front_of : Class → RamPlan → ℕ
front_of ReadsDump plan = dump_limit
front_of other plan = mem_of plan

-- and the same of a store's bytes and of a script: an image that it reads and that is too short is refused first
abbrev pub wanted : RamPlan → List ℕ → List ℕ → Wanted
wanted plan bytes script =
    let class = class_of plan.command in
    if (reads_image class && nat_lt (length bytes) (mem_of plan)) then stops (Short (length bytes) (mem_of plan))
    else wanted_of plan.params plan.zones (take (front_of class plan) bytes) script plan.command

-- and of those alone, where it reads no script
abbrev pub wanted_of_image : RamPlan → List ℕ → Wanted
wanted_of_image plan bytes = wanted plan bytes []

-- a move puts what it does with each record of these logs, and then writes the image of those that fit
abbrev pub wanted_moved : MovePlan → List Saved → Wanted
wanted_moved plan logs = record {
  texts = move_text (laid_mem plan.from) (laid_mem plan.to) plan.to.zones logs ∷ [];
  end = Ok tt;
  writes = Some (moved plan.to.zones (laid_mem plan.to) (fitting plan.to.zones logs)).image;
}

-- of a store's bytes: the logs are those that a boot of the first mem of them saves
abbrev pub wanted_move : MovePlan → List ℕ → Wanted
wanted_move plan bytes =
    if nat_lt (length bytes) (laid_mem plan.from) then stops (Short (length bytes) (laid_mem plan.from))
    else wanted_moved plan (saved_logs plan.from.zones (after_boot plan.from.zones
    (take (laid_mem plan.from) bytes)))
