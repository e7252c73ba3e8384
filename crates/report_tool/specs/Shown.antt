-- A report in a format
use Rattle.std.specs.Prelude.{◌≡◌, ℕ, true, List, [], ◌∷◌, ◌++◌, length}
use Rattle.std.specs.List.{list_all}
use Rattle.zone_spec.specs.declared.Zone.{Zone}
use Rattle.report_spec.specs.declared.Division.{Division}
use Rattle.report_spec.specs.declared.Division.TheVariants.{Region}
use Rattle.report_spec.specs.Visible.{is_visible}
use Rattle.region_report.specs.Reports.{ReportHeld}
use Rattle.report_text.specs.Whole.{IsTextOf, brief_of}
use Rattle.report_json.specs.Schema.{IsLine}
use Rattle.report_html.specs.Pages.{page_of}
use Rattle.report_tool.specs.declared.plan.Plan.{Plan}
use Rattle.report_tool.specs.declared.showing.Format.{Format}
use Rattle.report_tool.specs.declared.showing.Format.TheVariants.{Text, Json, Html, Brief}

-- a report of these zones
pub record AreOf (zones : List Zone) (report : ReportHeld) : Type 0 where
  pub zones_same : zones ≡ report.logs.zones
  pub readings_len : length report.logs.readings ≡ length zones
  pub parts_len : length report.parts ≡ length zones

-- a text for a terminal, each byte of which is visible
pub record IsVisibleText (path : List ℕ) (lines : ℕ) (better : List ℕ) (report : ReportHeld) (text : List ℕ) : Type 0 where
  pub is_text : IsTextOf path lines better report text
  pub visible : list_all is_visible text ≡ true

-- one line for a terminal, each byte of which is visible
pub record IsBriefLine (path : List ℕ) (report : ReportHeld) (text : List ℕ) : Type 0 where
  pub is_brief : text ≡ brief_of path report
  pub visible : list_all is_visible text ≡ true

-- a line of JSON, and a newline
pub record IsJsonLine (path : List ℕ) (division : Division) (zones : List Zone) (better : List ℕ) (report : ReportHeld)
    (text : List ℕ) : Type 0 where
  pub line : List ℕ
  pub is_line : IsLine path division zones better report line
  pub text_is : text ≡ line ++ 10 ∷ []

-- a report of zones, divided so, with so many lines of the newest dump in a text, and with the words of a layout that
-- explains the image better, which all but a brief line show
abbrev pub ShowsZones : Format → List ℕ → Division → List Zone → ℕ → List ℕ → ReportHeld → List ℕ → Type 0
ShowsZones Text path division zones lines better report text = IsVisibleText path lines better report text
ShowsZones Json path division zones lines better report text = IsJsonLine path division zones better report text
ShowsZones Html path division zones lines better report text = text ≡ page_of path division zones report better
ShowsZones Brief path division zones lines better report text = IsBriefLine path report text

-- a report of a plan's zones
abbrev pub IsOf : Plan → ReportHeld → Type 0
IsOf plan report = AreOf plan.zones.items report

abbrev pub Shows : Format → List ℕ → Plan → List ℕ → ReportHeld → List ℕ → Type 0
Shows format path plan better report text =
    ShowsZones format path (Region plan.params) plan.zones.items plan.lines better report text
