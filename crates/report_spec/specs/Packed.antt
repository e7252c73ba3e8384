-- A record as it is shown: a dump whose time line says compressed has the text that its bytes stand for
-- (fs/pstore/platform.c, decompress_record)
use Rattle.std.specs.Prelude.{◌≡◌, ℕ, ◌*◌, ◌-◌, ◌≤◌, ⊤, Bool, true, false, List, [], ◌∷◌, ◌++◌, length, map, take}
use Rattle.std.specs.Prelude.{slice_get, codes, Option, Some, None}
use Rattle.zone_spec.specs.declared.Name.{Name}
use Rattle.zone_spec.specs.declared.Name.TheVariants.{Dump, Console, Pmsg, Ftrace}
use Rattle.zone_spec.specs.declared.Time.{Time}
use Rattle.zone_spec.specs.declared.Zone.{Zone}
use Rattle.zone_spec.specs.declared.Kind.TheVariants.{Ftrace as FtraceKind}
use Rattle.zone_spec.specs.Records.{Saved, logs_of}
use Rattle.inflate_spec.specs.declared.Fault.{Fault}
use Rattle.inflate_spec.specs.declared.Fault.TheVariants.{EndOfInput, ReservedBlock, StoredLength, TooManyCodes}
use Rattle.inflate_spec.specs.declared.Fault.TheVariants.{OverSubscribed, Incomplete, NoEndCode, NoPrevious}
use Rattle.inflate_spec.specs.declared.Fault.TheVariants.{TooManyLengths, MissingCode, DistanceTooFar}
use Rattle.inflate_spec.specs.Texts.{Inflates, Breaks, Exceeds}
use Rattle.ftrace_spec.specs.declared.EntryForm.{EntryForm}
use Rattle.ftrace_spec.specs.Forms.{trace_of, order_of}
use Rattle.ftrace_spec.specs.Lines.{trace_text}
use Rattle.pmsg_spec.specs.declared.Entry.{Entry}
use Rattle.pmsg_spec.specs.Entries.{entries}
use Rattle.pmsg_spec.specs.Lines.{lines_text}
use Rattle.report_spec.specs.declared.TextFault.{TextFault}
use Rattle.report_spec.specs.declared.TextFault.TheVariants.{Broken, TooLong}
use Rattle.report_spec.specs.declared.Mended.{Mended}
use Rattle.report_spec.specs.declared.Packing.{Packing}
use Rattle.report_spec.specs.declared.Packing.TheVariants.{Plain, Whole, Part}
use Rattle.zone_spec.specs.RecordsHeld.{RecordHeld, records_held}
use Rattle.report_spec.specs.Said.{shift_in}

-- a record's name and content as its file has them, the content with its notice, and how many bytes that has; whether
-- its bytes were packed; of a pmsg the entries of Android's log, if it has such, with their lines; its text, if another
-- record mended it; and of each byte of its text whether it is doubtful, if any is
pub record RecordShown : Type 0 where
  pub name : Name
  pub time : Option Time
  pub content : List ℕ
  pub notice : ℕ
  pub packing : Packing (List ℕ)
  pub entries : List Entry
  pub lines : List ℕ
  pub mended : Option (Mended (List ℕ))
  pub doubts : List Bool

-- ---- words

abbrev pub stream_words : Fault → List ℕ
stream_words EndOfInput = codes "end of input"
stream_words ReservedBlock = codes "reserved block type"
stream_words StoredLength = codes "wrong stored length"
stream_words TooManyCodes = codes "too many codes"
stream_words OverSubscribed = codes "over-subscribed code"
stream_words Incomplete = codes "incomplete code"
stream_words NoEndCode = codes "no end code"
stream_words NoPrevious = codes "no previous length"
stream_words TooManyLengths = codes "too many lengths"
stream_words MissingCode = codes "unknown code"
stream_words DistanceTooFar = codes "distance too far back"

abbrev pub fault_words : TextFault → List ℕ
fault_words (Broken fault) = stream_words fault
fault_words TooLong = codes "text too long"

-- ---- how a record is shown

-- the most bytes of a dump's text: the kernel packs a text of at most 100/45 of the zone's size, and 64 times the size is
-- more than that. Dump zone i is the i-th of a layout
abbrev pub most_by : Option Zone → ℕ
most_by None = 0
most_by (Some z) = 64 * z.size

abbrev pub most_of : List Zone → ℕ → ℕ
most_of zones index = most_by (slice_get zones index)

-- a record as it stands
abbrev pub as_it_stands : RecordHeld → Packing (List ℕ) → RecordShown
as_it_stands r packing =
    record {
      name = r.name;
      time = r.time;
      content = r.content ++ r.notice;
      notice = length r.notice;
      packing = packing;
      entries = [];
      lines = [];
      mended = None;
      doubts = [];
    }

-- a pmsg, with its entries and their lines
abbrev pub as_listed : RecordHeld → RecordShown
as_listed r =
    record {
      name = r.name;
      time = r.time;
      content = r.content ++ r.notice;
      notice = length r.notice;
      packing = Plain;
      entries = entries r.content;
      lines = lines_text r.content (entries r.content);
      mended = None;
      doubts = [];
    }

-- an ftrace log by the lines in which the kernel shows its entries, with the functions of a map, above which it ran so
-- far
abbrev pub as_traced : List ℕ → (shift : ℕ) → RecordHeld → RecordShown
as_traced names shift r =
    record {
      name = r.name;
      time = r.time;
      content = trace_text names shift r.content;
      notice = 0;
      packing = Plain;
      entries = [];
      lines = [];
      mended = None;
      doubts = [];
    }

-- a record, whose content is this trace if it is that of ftrace
abbrev pub traced_by : Name → List ℕ → RecordHeld → RecordHeld
traced_by Ftrace trace r = record { name = Ftrace; time = r.time; content = trace; notice = [] }
traced_by (Dump index packed) trace r = r
traced_by Console trace r = r
traced_by Pmsg trace r = r

-- the records of an image by a layout, with the trace that the logs of all ftrace zones are; the form of their entries
-- may be given
abbrev pub records_traced : List Zone → Option EntryForm → List Saved → List RecordHeld
records_traced zones given saved =
    map (λ (r : RecordHeld). traced_by r.name (trace_of (order_of zones) given (logs_of FtraceKind saved)) r)
    (records_held saved)

-- a dump with its text in place of its bytes
abbrev pub inflated : RecordHeld → ℕ → List ℕ → ℕ → RecordShown
inflated r index text taken =
    record {
      name = Dump index false;
      time = r.time;
      content = text ++ r.notice;
      notice = length r.notice;
      packing = Whole taken;
      entries = [];
      lines = [];
      mended = None;
      doubts = [];
    }

-- the bytes stand for the text up to a fault, or up to where it gets too long
abbrev pub StopsAt : List ℕ → ℕ → TextFault → List ℕ → Type 0
StopsAt bytes most (Broken fault) text = Breaks bytes fault text × (length text ≤ most)
StopsAt bytes most TooLong text = Exceeds bytes most text

-- a packed dump is shown by all of its text, with the bytes that this took, or by the text up to a fault
abbrev pub IsUnpacked : ℕ → ℕ → RecordHeld → Packing (List ℕ) → RecordShown → Type 0
IsUnpacked most index r Plain shown = ⊥
IsUnpacked most index r (Whole taken) shown = (text : List ℕ) × Inflates r.content text taken × (length text ≤ most)
    × (shown ≡ inflated r index text taken)
IsUnpacked most index r (Part fault text) shown =
    StopsAt r.content most fault text × (shown ≡ as_it_stands r (Part fault text))

abbrev pub IsShownBy : List Zone → List ℕ → (shift : ℕ) → Name → RecordHeld → RecordShown → Type 0
IsShownBy zones names shift (Dump index true) r shown = IsUnpacked (most_of zones index) index r shown.packing shown
IsShownBy zones names shift (Dump index false) r shown = shown ≡ as_it_stands r Plain
IsShownBy zones names shift Console r shown = shown ≡ as_it_stands r Plain
IsShownBy zones names shift Pmsg r shown = shown ≡ as_listed r
IsShownBy zones names shift Ftrace r shown = shown ≡ as_traced names shift r

-- a record of a layout's zones, and how it is shown with the functions of a map
abbrev pub IsShown : List Zone → List ℕ → (shift : ℕ) → RecordHeld → RecordShown → Type 0
IsShown zones names shift r shown = IsShownBy zones names shift r.name r shown

-- each of records, in order
abbrev pub AreShownBy : List Zone → List ℕ → (shift : ℕ) → List RecordHeld → List RecordShown → Type 0
AreShownBy zones names shift [] [] = ⊤
AreShownBy zones names shift [] (shown ∷ more) = ⊥
AreShownBy zones names shift (r ∷ rs) [] = ⊥
AreShownBy zones names shift (r ∷ rs) (shown ∷ more) =
    IsShown zones names shift r shown × AreShownBy zones names shift rs more

-- all records of an image, with the functions of a map, above which the kernel ran as far as the console says
abbrev pub AreShown : List Zone → List ℕ → List RecordHeld → List RecordShown → Type 0
AreShown zones names records shown = AreShownBy zones names (shift_in names records) records shown

abbrev pub readable_of : Packing (List ℕ) → List ℕ → List ℕ
readable_of Plain content = content
readable_of (Whole taken) content = content
readable_of (Part fault text) content = text

abbrev pub lines_or : List Entry → List ℕ → List ℕ → List ℕ
lines_or [] lines text = text
lines_or (entry ∷ entries) lines text = lines

abbrev pub mended_or : Option (Mended (List ℕ)) → List ℕ → List ℕ
mended_or None text = text
mended_or (Some mended) text = mended.text

-- what people read of a record: the lines of its entries, else its text as another record mended it, else a text up to
-- its fault, else its content
abbrev pub readable : RecordShown → List ℕ
readable r = lines_or r.entries r.lines (mended_or r.mended (readable_of r.packing r.content))

-- the same without the notice
abbrev pub said_of : Packing (List ℕ) → ℕ → List ℕ → List ℕ
said_of Plain notice content = take (length content - notice) content
said_of (Whole taken) notice content = take (length content - notice) content
said_of (Part fault text) notice content = text

abbrev pub mended_said_or : Option (Mended (List ℕ)) → ℕ → List ℕ → List ℕ
mended_said_or None notice said = said
mended_said_or (Some mended) notice said = take (length mended.text - notice) mended.text

abbrev pub said : RecordShown → List ℕ
said r = lines_or r.entries r.lines (mended_said_or r.mended r.notice (said_of r.packing r.notice r.content))
