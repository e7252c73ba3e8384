-- One image, from its store to the sink
use Rattle.std.specs.Prelude.{◌≡◌, ℕ, ◌≤◌, List, length, take, ⊤, Option, IfSome}
use Rattle.std.specs.Io.KnownBytes.{Appends}
use Rattle.outside.specs.Outside.{Rose, AppendsFront}
use Rattle.zone_spec.specs.declared.Zone.{Zone}
use Rattle.zone_spec.specs.declared.params.Params.{Params}
use Rattle.report_spec.specs.declared.Division.TheVariants.{Region}
use Rattle.region_report.specs.Reports.{ReportHeld}
use Rattle.command_spec.specs.declared.Stop.{Stop}
use Rattle.command_spec.specs.declared.Stop.TheVariants.{Memory, ImageFault, Short, SinkFault}
use Rattle.image_file.specs.Loading.{LoadStop}
use Rattle.report_tool.specs.declared.plan.Plan.{Plan}
use Rattle.report_tool.specs.declared.showing.Format.{Format}
use Rattle.report_tool.specs.Better.{IsBetter}
use Rattle.report_tool.specs.Ordered.{IsReadBy}
use Rattle.report_tool.specs.Shown.{ShowsZones}

-- the report of an image that a store holds in front, and the parameters and zones by which it was read
pub record IsRead (plan : Plan) (holds : Option (List ℕ)) (params : Params) (zones : List Zone) (report : ReportHeld)
    : Type 0 where
  pub bytes : List ℕ
  pub of_bytes : IsReadBy plan bytes params zones report
  pub held : IfSome holds (λ bs. (plan.mem ≤ length bs) × (bytes ≡ take plan.mem bs))

-- it was read, and written in a format to the sink, with the words of a layout that explains it better, if it was
-- looked for
pub record IsReported (format : Format) (path : List ℕ) (plan : Plan) (holds given now : Option (List ℕ))
    (report : ReportHeld) : Type 0 where
  pub params : Params
  pub zones : List Zone
  pub is_read : IsRead plan holds params zones report
  pub better : List ℕ
  pub is_better : IsBetter plan report holds better
  pub text : List ℕ
  pub shown : ShowsZones format path (Region params) zones plan.lines better report text
  pub appended : Appends given now text

-- it was read, and the sink failed after it had taken some front of what the format shows
pub record IsCutShort (format : Format) (path : List ℕ) (plan : Plan) (holds given now : Option (List ℕ))
    : Type 0 where
  pub report : ReportHeld
  pub params : Params
  pub zones : List Zone
  pub is_read : IsRead plan holds params zones report
  pub better : List ℕ
  pub is_better : IsBetter plan report holds better
  pub text : List ℕ
  pub shown : ShowsZones format path (Region params) zones plan.lines better report text
  pub appended : AppendsFront given now text

-- what the sink was given, where the image was not reported: nothing, but where the sink itself failed
abbrev pub IsGiven : Stop → Format → List ℕ → Plan → Option (List ℕ) → Option (List ℕ) → Option (List ℕ) → Type 0
IsGiven SinkFault format path plan holds given now = IsCutShort format path plan holds given now
IsGiven s format path plan holds given now = now ≡ given

abbrev pub IsReportStop : Stop → Plan → Option (List ℕ) → ℕ → ℕ → ℕ → ℕ → Type 0
IsReportStop Memory plan holds read_before read_now put_before put_now = ⊤
IsReportStop ImageFault plan holds read_before read_now put_before put_now = Rose read_before read_now
IsReportStop (Short has needed) plan holds read_before read_now put_before put_now =
    LoadStop (Short has needed) plan.mem holds read_before read_now
IsReportStop SinkFault plan holds read_before read_now put_before put_now = Rose put_before put_now
IsReportStop s plan holds read_before read_now put_before put_now = ⊥

-- why an image was not reported
pub record IsNotReported (format : Format) (path : List ℕ) (plan : Plan) (stop : Stop) (holds : Option (List ℕ))
    (read_before read_now : ℕ) (given now : Option (List ℕ)) (put_before put_now : ℕ) : Type 0 where
  pub cause : IsReportStop stop plan holds read_before read_now put_before put_now
  pub sink : IsGiven stop format path plan holds given now
