-- What of a page is its own, and what comes from elsewhere
use Rattle.std.specs.Prelude.{◌≡◌, ℕ, List, [], ◌∷◌, flat_map, ◌++◌, slice_get, All, ⊤, Option, Some, None}
use Rattle.zone_spec.specs.Parts.{AreBytes}
use Rattle.report_spec.specs.declared.Origin.{Origin}
use Rattle.report_spec.specs.Escaped.{escaped, IsText}
use Rattle.report_spec.specs.Packed.{RecordShown, readable}
use Rattle.report_spec.specs.Newest.{console_of}
use Rattle.report_spec.specs.Deaths.{DeathTold, death_told}
use Rattle.report_spec.specs.Ends.{EndTold, end_told}
use Rattle.report_spec.specs.Facts.{MachineTold, machine_of, machine_ended, signature_told}
use Rattle.report_html.specs.Before.{told_before}
use Rattle.report_html.specs.Died.{why_bytes, died_bytes}
use Rattle.report_html.specs.Causes.{causes_bytes}
use Rattle.report_html.specs.Facts.{some_bytes}
use Rattle.report_html.specs.Listed.{teller_name, record_bytes}
use Rattle.report_html.specs.Order.{newest_first}
use Rattle.report_html.specs.Pages.{name_bytes}
use Rattle.report_html.specs.Pieces.{Part, Words, Count, Bytes, Moment, Long, Log, Named, Link, parts_text}

abbrev pub foreign_in : Part → List (List ℕ)
foreign_in (Words text) = []
foreign_in (Count n) = []
foreign_in (Bytes bytes) = bytes ∷ []
foreign_in (Moment time) = []
foreign_in (Long seconds) = []
foreign_in (Log doubts text) = text ∷ []
foreign_in (Named name) = []
foreign_in (Link name) = []

-- the foreign bytes of parts, in order
abbrev pub foreign_of : List Part → List (List ℕ)
foreign_of parts = flat_map foreign_in parts

-- what people read of records are bytes
abbrev pub HoldBytes : List RecordShown → Type 0
HoldBytes records = (k : ℕ) (r : RecordShown) → slice_get records k ≡ Some r → AreBytes (readable r)

-- what people read of the record that tells are bytes
abbrev pub TellsBytes : Option DeathTold → Type 0
TellsBytes None = ⊤
TellsBytes (Some t) = AreBytes (readable t.teller)

-- what is said of the machine are bytes
pub record AreMachineBytes (m : MachineTold) : Type 0 where
  pub hardware : AreBytes m.hardware
  pub modules : AreBytes m.modules
  pub version : AreBytes m.version
  pub offset : AreBytes m.offset
  pub cmdline : AreBytes m.cmdline

-- all that is shown of a log's end are bytes
pub record AreEndBytes (t : EndTold) : Type 0 where
  pub text : AreBytes (readable t.teller)
  pub machine : AreMachineBytes (machine_ended t)

abbrev pub EndsBytes : Option EndTold → Type 0
EndsBytes None = ⊤
EndsBytes (Some t) = AreEndBytes t

-- all that is shown of a death are bytes
pub record AreDeathBytes (signature : List ℕ) (records : List RecordShown) (t : DeathTold) : Type 0 where
  pub text : AreBytes (readable t.teller)
  pub signed : AreBytes signature
  pub machine : AreMachineBytes (machine_of t (console_of records))
  pub before : TellsBytes (told_before t.teller.name records)

abbrev pub AllTellBytes : List ℕ → List RecordShown → Option DeathTold → Type 0
AllTellBytes signature records None = EndsBytes (end_told records)
AllTellBytes signature records (Some t) = AreDeathBytes signature records t

-- what comes from elsewhere: the title and the signature, which name the page, the title, the telling lines, the words
-- of a layout that explains the image better, parts of the texts that tell why the machine died and what was before it,
-- the telling lines of dumps, and of each record, the newest first, parts of its summary and what people read of it. Of
-- the record that tells this stands once, with why the machine died
abbrev pub foreign_by : (title better signature : List ℕ) → List RecordShown → Option DeathTold → List (List ℕ)
foreign_by title better signature records told =
    title ∷ name_bytes signature told ++ title ∷ why_bytes told ++ some_bytes better
    ++ died_bytes signature records told
    ++ causes_bytes records ++ flat_map (record_bytes (teller_name told)) (newest_first records)

abbrev pub foreign_told : (title better : List ℕ) → List RecordShown → Option DeathTold → List (List ℕ)
foreign_told title better records told = foreign_by title better (signature_told told) records told

-- a page whose foreign bytes are those, each escaped to text without markup. All else are the page's own words and
-- numbers
pub record IsWithoutMarkup (title better : List ℕ) (records : List RecordShown) (page : List ℕ) : Type 0 where
  pub origin : Origin
  pub parts : List Part
  pub page_is : page ≡ parts_text origin parts
  pub foreign : foreign_of parts ≡ foreign_told title better records (death_told records)
  pub texts : All (λ (bytes : List ℕ). IsText (escaped bytes)) (foreign_of parts)
