-- Another layout that explains an image better than the one that was given
use Rattle.std.specs.Prelude.{◌≡◌, ℕ, Bool, true, false, not, ◌&&◌, ◌||◌, ◌==◌, nat_lt, if◌then◌else◌, List, [], length, take}
use Rattle.std.specs.Prelude.{Option, Some, None, is_some, IfSome}
use Rattle.std.specs.List.{list_any, count_by}
use Rattle.command_spec.specs.declared.Stop.{Stop}
use Rattle.command_spec.specs.declared.Stop.TheVariants.{Memory}
use Rattle.image_file.specs.Loading.{FrontStop}
use Rattle.zone_spec.specs.declared.Zone.{Zone}
use Rattle.zone_spec.specs.Numbers.{most_memory}
use Rattle.layout_spec.specs.declared.Candidate.{Candidate}
use Rattle.layout_spec.specs.Laid.{params_of}
use Rattle.layout_search.specs.declared.searching.Found.{Found}
use Rattle.layout_search.specs.Answers.{IsSearched}
use Rattle.report_spec.specs.declared.Warning.{Warning}
use Rattle.report_spec.specs.declared.Warning.TheVariants.{NoLog, ManyBad}
use Rattle.report_spec.specs.Deaths.{death_told}
use Rattle.report_spec.specs.Warnings.{has_bad_part}
use Rattle.region_report.specs.Reports.{ReportHeld, IsReport}
use Rattle.region_report.specs.Warned.{warnings_by}
use Rattle.report_tool.specs.declared.plan.Plan.{Plan}
use Rattle.report_tool.specs.Finding.{known_by}
use Rattle.report_tool.specs.LayoutWords.{layout_words}
use Rattle.report_tool.specs.Plans.{IsLaid}

-- ---- a layout reads badly: no zone has a log, or more than half of them have bad parts

abbrev pub doubts_layout : Warning → Bool
doubts_layout NoLog = true
doubts_layout (ManyBad bad) = true
doubts_layout other = false

abbrev pub reads_badly : ReportHeld → Bool
reads_badly report = list_any doubts_layout (warnings_by report None)

-- ---- what else a report leaves in doubt

abbrev pub tells_death : ReportHeld → Bool
tells_death report = is_some (death_told report.records)

-- how many zones have bad parts
abbrev pub bad_zones : ReportHeld → ℕ
bad_zones report = count_by has_bad_part report.parts

-- whether a zone has parity
abbrev pub any_parity : List Zone → Bool
any_parity zones = list_any (λ (z : Zone). nat_lt 0 z.parity) zones

abbrev pub has_parity : Plan → Bool
has_parity plan = any_parity plan.zones.items

-- parity vouches for the layout: a zone has it, and no part is bad
abbrev pub is_vouched : Plan → ReportHeld → Bool
is_vouched plan report = has_parity plan && (bad_zones report == 0)

-- it reads badly, or the memory size was rounded, or parity does not vouch for it
abbrev pub leaves_doubt : Plan → ReportHeld → Bool
leaves_doubt plan report = reads_badly report || plan.is_rounded || not (is_vouched plan report)

-- ---- another explains the image better: it is what the search takes, knowing nothing, and it does not read badly

-- it has parity, and fewer zones are bad by it, or the first has none
abbrev pub checks_more : Plan → ReportHeld → Plan → ReportHeld → Bool
checks_more plan report other told =
    has_parity other && (nat_lt (bad_zones told) (bad_zones report) || not (has_parity plan))

-- if the first does not read badly, the other tells of a death, which the first does not, or it checks more
abbrev pub explains_more : Plan → ReportHeld → Plan → ReportHeld → Bool
explains_more plan report other told =
    not (reads_badly told)
    && (reads_badly report || (tells_death told && (not (tells_death report) || checks_more plan report other told)))

abbrev pub words_if : Bool → List ℕ → List ℕ
words_if is_better words = if is_better then words else []

-- its words, if it explains more than the report by this plan, and else none
pub record AreWordsOf (plan : Plan) (report : ReportHeld) (c : Candidate) (image words : List ℕ) : Type 0 where
  pub other : Plan
  pub laid : IsLaid (params_of c) other
  pub told : ReportHeld
  pub is_report : IsReport other.zones.items other.symbols other.entries (take other.mem image) told
  pub words_are : words ≡ words_if (explains_more plan report other told) (layout_words c (length image))

abbrev pub AreTakenWords : Bool → Plan → ReportHeld → Candidate → List ℕ → List ℕ → Type 0
AreTakenWords false plan report c image words = words ≡ []
AreTakenWords true plan report c image words = AreWordsOf plan report c image words

abbrev pub AreFoundWords : Option Found → Plan → ReportHeld → List ℕ → List ℕ → Type 0
AreFoundWords None plan report image words = words ≡ []
AreFoundWords (Some f) plan report image words = AreTakenWords f.taken plan report f.candidate image words

pub record AreOtherWords (plan : Plan) (report : ReportHeld) (image words : List ℕ) : Type 0 where
  pub found : Option Found
  pub searched : IsSearched (known_by []) image found
  pub words_are : AreFoundWords found plan report image words

-- ---- the words of that layout, where the report by one that was given leaves doubt, and else none

pub record AreSoughtWords (plan : Plan) (report : ReportHeld) (holds : Option (List ℕ)) (words : List ℕ) : Type 0 where
  pub front : List ℕ
  pub is_front : IfSome holds (λ image. front ≡ take most_memory image)
  pub words_are : AreOtherWords plan report front words

abbrev pub AreWordsIf : Bool → Plan → ReportHeld → Option (List ℕ) → List ℕ → Type 0
AreWordsIf false plan report holds words = words ≡ []
AreWordsIf true plan report holds words = AreSoughtWords plan report holds words

-- a plan that was given leaves doubt
abbrev pub is_doubted : Plan → ReportHeld → Bool
is_doubted plan report = plan.is_given && leaves_doubt plan report

abbrev pub IsBetter : Plan → ReportHeld → Option (List ℕ) → List ℕ → Type 0
IsBetter plan report holds words = AreWordsIf (is_doubted plan report) plan report holds words

-- why the words are not known: the image is read for them only where the plan is doubted
abbrev pub IsWordsStop : Bool → Stop → ℕ → ℕ → Type 0
IsWordsStop false stop before now = stop ≡ Memory
IsWordsStop true stop before now = FrontStop stop before now
