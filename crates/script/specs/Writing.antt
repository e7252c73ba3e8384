-- A line's text as it is written: its word, and then each field behind a space
use Rattle.std.specs.Prelude.{List, [], ◌∷◌, ◌++◌, codes, decimal}
use Rattle.grammar_spec.specs.declared.line.Line.{Line}
use Rattle.grammar_spec.specs.declared.line.Line.TheVariants.{Blank, Write, Dump, BeginWrite, BeginErase, BeginDump}
use Rattle.grammar_spec.specs.declared.line.Line.TheVariants.{Step, Finish, Stop, Flip, Boot, BootPart}
use Rattle.grammar_spec.specs.declared.line.Line.TheVariants.{List as ListLine, Extract, Erase, KDump, CutAfter, KMsg}
use Rattle.grammar_spec.specs.declared.line.Line.TheVariants.{Crash, Reserve, StoreNext}
use Rattle.grammar_spec.specs.Fields.{Text}
use Rattle.grammar_spec.specs.Printed.{zone_text, payload_text, flag_text, reason_text}

abbrev pub word_text : Line → Text
word_text Blank = []
word_text (Write z bytes) = codes "write"
word_text (Dump t packed bytes) = codes "dump"
word_text (BeginWrite z bytes) = codes "begin write"
word_text (BeginErase z) = codes "begin erase"
word_text (BeginDump t packed bytes) = codes "begin dump"
word_text (Step z k) = codes "step"
word_text (Finish z) = codes "finish"
word_text Stop = codes "stop"
word_text (Flip place m) = codes "flip"
word_text Boot = codes "boot"
word_text (BootPart k) = codes "boot"
word_text ListLine = codes "list"
word_text (Extract name) = codes "extract"
word_text (Erase name) = codes "erase"
word_text (KDump secs nanos packed reason bytes) = codes "kdump"
word_text (CutAfter k) = codes "cut"
word_text (KMsg bytes) = codes "kmsg"
word_text (Crash reason t) = codes "crash"
word_text (Reserve bytes) = codes "reserve"
word_text (StoreNext ticket k) = codes "store"

-- fields, each behind a space
abbrev pub spaced : List Text → Text
spaced [] = []
spaced (field ∷ fields) = 0x20 ∷ (field ++ spaced fields)

abbrev pub tail_text : Line → Text
tail_text Blank = []
tail_text (Write z bytes) = spaced (zone_text z ∷ payload_text bytes ∷ [])
tail_text (Dump t packed bytes) = spaced (decimal t.secs ∷ decimal t.micros ∷ flag_text packed ∷ payload_text bytes
    ∷ [])
tail_text (BeginWrite z bytes) = spaced (zone_text z ∷ payload_text bytes ∷ [])
tail_text (BeginErase z) = spaced (zone_text z ∷ [])
tail_text (BeginDump t packed bytes) = spaced (decimal t.secs ∷ decimal t.micros ∷ flag_text packed
    ∷ payload_text bytes ∷ [])
tail_text (Step z k) = spaced (zone_text z ∷ decimal k ∷ [])
tail_text (Finish z) = spaced (zone_text z ∷ [])
tail_text Stop = []
tail_text (Flip place m) = spaced (decimal place ∷ decimal m ∷ [])
tail_text Boot = []
tail_text (BootPart k) = spaced (decimal k ∷ [])
tail_text ListLine = []
tail_text (Extract name) = spaced (name ∷ [])
tail_text (Erase name) = spaced (name ∷ [])
tail_text (KDump secs nanos packed reason bytes) = spaced
    (decimal secs ∷ decimal nanos ∷ flag_text packed ∷ reason_text reason ∷ payload_text bytes ∷ [])
tail_text (CutAfter k) = spaced (decimal k ∷ [])
tail_text (KMsg bytes) = spaced (payload_text bytes ∷ [])
tail_text (Crash reason t) = spaced (reason_text reason ∷ decimal t.secs ∷ decimal t.micros ∷ [])
tail_text (Reserve bytes) = spaced (payload_text bytes ∷ [])
tail_text (StoreNext ticket k) = spaced (decimal ticket ∷ decimal k ∷ [])
