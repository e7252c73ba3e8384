-- How lines are printed, and which can be
use Rattle.std.specs.Prelude.{◌≡◌, ◌≢◌, ⊤, flat_map, ℕ, ◌^◌, ◌<◌, ◌≤◌, Bool, true, false, List, [], ◌∷◌, ◌++◌, length}
use Rattle.std.specs.Prelude.{codes, decimal, All, Ok, if◌then◌else◌, ◌==◌, IsTrue}
use Rattle.std.specs.List.{AllByRecursion, join_with_byte}
use Rattle.hex.specs.Hex.{encode_lower}
use Rattle.zone_spec.specs.declared.ZoneName.{ZoneName}
use Rattle.zone_spec.specs.declared.Kind.{Kind}
use Rattle.zone_spec.specs.declared.Kind.TheVariants.{Dump as DumpZone, Console, Ftrace, Pmsg}
use Rattle.zone_spec.specs.declared.Time.{Time}
use Rattle.grammar_spec.specs.declared.line.Line.{Line}
use Rattle.grammar_spec.specs.declared.line.Line.TheVariants.{Blank, Write, Dump, BeginWrite, BeginErase, BeginDump}
use Rattle.grammar_spec.specs.declared.line.Line.TheVariants.{Step, Finish, Stop, Flip, Boot, BootPart}
use Rattle.grammar_spec.specs.declared.line.Line.TheVariants.{List as ListLine, Extract, Erase, KDump, CutAfter, KMsg}
use Rattle.grammar_spec.specs.declared.line.Line.TheVariants.{Crash, Reserve, StoreNext}
use Rattle.grammar_spec.specs.Fields.{Text, is_name, is_message}
use Rattle.grammar_spec.specs.Lines.{script_of}

-- ---- which fields a line can have

-- console and pmsg have index 0
abbrev pub IsZoneOf : Kind → ℕ → Type 0
IsZoneOf Console index = index ≡ 0
IsZoneOf Pmsg index = index ≡ 0
IsZoneOf Ftrace index = index < 2 ^ 32
IsZoneOf DumpZone index = index < 2 ^ 32

abbrev pub IsZone : ZoneName → Type 0
IsZone z = IsZoneOf z.kind z.index

abbrev pub IsRing : ZoneName → Type 0
IsRing z = IsZone z × (z.kind ≢ DumpZone)

abbrev pub IsTime : Time → Type 0
IsTime t = (t.secs < 2 ^ 63) × (t.micros < 1000000)

abbrev pub IsPayload : List ℕ → Type 0
IsPayload bytes = All (λ b. b < 256) bytes

abbrev pub IsNumber : ℕ → Type 0
IsNumber k = k < 2 ^ 32

-- the fields of the line are inside the table
unfoldable pub HasFields : Line → Type 0
HasFields Blank = ⊤
HasFields (Write z bytes) = IsRing z × IsPayload bytes
HasFields (Dump t packed bytes) = IsTime t × IsPayload bytes
HasFields (BeginWrite z bytes) = IsRing z × IsPayload bytes
HasFields (BeginErase z) = IsZone z
HasFields (BeginDump t packed bytes) = IsTime t × IsPayload bytes
HasFields (Step z k) = IsZone z × IsNumber k
HasFields (Finish z) = IsZone z
HasFields Stop = ⊤
HasFields (Flip place m) = IsNumber place × (0 < m) × (m < 256)
HasFields Boot = ⊤
HasFields (BootPart k) = IsNumber k
HasFields ListLine = ⊤
HasFields (Extract name) = IsTrue (is_name name)
HasFields (Erase name) = IsTrue (is_name name)
HasFields (KDump secs nanos packed reason bytes) = (secs < 2 ^ 63) × (nanos < 1000000000) × (1 ≤ reason)
    × (reason ≤ 4) × IsPayload bytes
HasFields (CutAfter k) = IsNumber k
HasFields (KMsg bytes) = IsPayload bytes × IsTrue (is_message bytes)
HasFields (Crash reason t) = (1 ≤ reason) × (reason ≤ 4) × IsTime t
HasFields (Reserve bytes) = IsPayload bytes × (0 < length bytes)
HasFields (StoreNext ticket k) = IsNumber ticket × IsNumber k

abbrev pub AllHaveFields : List Line → Type 0
AllHaveFields lines = AllByRecursion HasFields lines

-- ---- the text of a line

abbrev pub zone_text_of : Kind → ℕ → Text
zone_text_of Console index = codes "console"
zone_text_of Pmsg index = codes "pmsg"
zone_text_of Ftrace index = codes "ftrace-" ++ decimal index
zone_text_of DumpZone index = codes "dump-" ++ decimal index

abbrev pub zone_text : ZoneName → Text
zone_text z = zone_text_of z.kind z.index

abbrev pub payload_text : List ℕ → Text
payload_text [] = codes "-"
payload_text (b ∷ bytes) = encode_lower (b ∷ bytes)

abbrev pub flag_text : Bool → Text
flag_text true = codes "C"
flag_text false = codes "D"

abbrev pub reason_text : ℕ → Text
reason_text n = if n == 1 then codes "Panic" else (if n == 2 then codes "Oops" else
    (if n == 3 then codes "Emergency" else codes "Shutdown"))

-- the fields that a line is printed as, the first of them its word
abbrev pub printed_fields : Line → List Text
printed_fields Blank = []
printed_fields (Write z bytes) = codes "write" ∷ zone_text z ∷ payload_text bytes ∷ []
printed_fields (Dump t packed bytes) = codes "dump" ∷ decimal t.secs ∷ decimal t.micros ∷ flag_text packed
    ∷ payload_text bytes ∷ []
printed_fields (BeginWrite z bytes) = codes "begin" ∷ codes "write" ∷ zone_text z ∷ payload_text bytes ∷ []
printed_fields (BeginErase z) = codes "begin" ∷ codes "erase" ∷ zone_text z ∷ []
printed_fields (BeginDump t packed bytes) = codes "begin" ∷ codes "dump" ∷ decimal t.secs ∷ decimal t.micros
    ∷ flag_text packed ∷ payload_text bytes ∷ []
printed_fields (Step z k) = codes "step" ∷ zone_text z ∷ decimal k ∷ []
printed_fields (Finish z) = codes "finish" ∷ zone_text z ∷ []
printed_fields Stop = codes "stop" ∷ []
printed_fields (Flip place m) = codes "flip" ∷ decimal place ∷ decimal m ∷ []
printed_fields Boot = codes "boot" ∷ []
printed_fields (BootPart k) = codes "boot" ∷ decimal k ∷ []
printed_fields ListLine = codes "list" ∷ []
printed_fields (Extract name) = codes "extract" ∷ name ∷ []
printed_fields (Erase name) = codes "erase" ∷ name ∷ []
printed_fields (KDump secs nanos packed reason bytes) =
    codes "kdump" ∷ decimal secs ∷ decimal nanos ∷ flag_text packed ∷ reason_text reason ∷ payload_text bytes ∷ []
printed_fields (CutAfter k) = codes "cut" ∷ decimal k ∷ []
printed_fields (KMsg bytes) = codes "kmsg" ∷ payload_text bytes ∷ []
printed_fields (Crash reason t) = codes "crash" ∷ reason_text reason ∷ decimal t.secs ∷ decimal t.micros ∷ []
printed_fields (Reserve bytes) = codes "reserve" ∷ payload_text bytes ∷ []
printed_fields (StoreNext ticket k) = codes "store" ∷ decimal ticket ∷ decimal k ∷ []

unfoldable pub line_text : Line → Text
line_text line = join_with_byte 0x20 (printed_fields line)

-- a line per item, each ended by a newline
abbrev pub script_text : List Line → Text
script_text lines = flat_map (λ line. line_text line ++ 0x0a ∷ []) lines

-- The text of lines whose fields are inside the table is in the grammar as those lines, and as no others.
abbrev pub PrintedIsRead : Type 0
PrintedIsRead = (lines : List Line) → AllHaveFields lines
    → (script_of (script_text lines) ≡ Ok lines) × ((others : List Line) → script_of (script_text lines) ≡ Ok others
    → others ≡ lines)
