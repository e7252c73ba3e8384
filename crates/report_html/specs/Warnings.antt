-- What must be known before a page is believed
use Rattle.std.specs.Prelude.{ℕ, List, [], ◌∷◌, flat_map, codes, Option}
use Rattle.zone_spec.specs.declared.Name.{Name}
use Rattle.report_spec.specs.declared.Warning.{Warning}
use Rattle.report_spec.specs.declared.Warning.TheVariants.{ConsoleTells, BadTeller, BadHeaders, NoLog, ManyBad}
use Rattle.report_spec.specs.Deaths.{DeathTold}
use Rattle.region_report.specs.Reports.{ReportHeld}
use Rattle.region_report.specs.Warned.{warnings_by}
use Rattle.report_html.specs.declared.words.TheConstants.{OPENING, CLOSING, BAD_TELLER, NO_LOG, MANY_BAD}
use Rattle.report_html.specs.Pieces.{Part, Words, Count, Bytes, Link}

abbrev pub warned : List ℕ → List Part
warned said = Words OPENING.now ∷ Words said ∷ Words CLOSING.now ∷ []

-- the console tells, and not this dump
abbrev pub lacking : Name → List Part
lacking dump =
    Words OPENING.now ∷ Words (codes "The reason comes from the console; the newest dump, ") ∷ Link dump
    ∷ Words (codes ", does not contain all of it.") ∷ Words CLOSING.now ∷ []

-- so many headers are bad
abbrev pub bad_headers : ℕ → List Part
bad_headers count =
    Words OPENING.now ∷ Words (codes "Bad headers: ") ∷ Count count
    ∷ Words (codes ". A log lost there may be newer than what stands below.") ∷ Words CLOSING.now ∷ []

abbrev pub warning_parts : Warning → List Part
warning_parts (ConsoleTells dump) = lacking dump
warning_parts (BadTeller bad) = warned BAD_TELLER.now
warning_parts (BadHeaders count) = bad_headers count
warning_parts NoLog = warned NO_LOG.now
warning_parts (ManyBad bad) = warned MANY_BAD.now

-- the words of a layout that explains the image better, if there are any
abbrev pub better_parts : List ℕ → List Part
better_parts [] = []
better_parts (b ∷ bs) =
    Words OPENING.now ∷ Words (codes "Another layout explains it better; give only these words: ") ∷ Bytes (b ∷ bs)
    ∷ Words CLOSING.now ∷ []

-- the warnings of a report, in which this tells why the machine died
abbrev pub warnings_parts : ReportHeld → Option DeathTold → List Part
warnings_parts report told = flat_map warning_parts (warnings_by report told)
