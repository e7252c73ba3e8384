-- The boots of a text log: the report of the last one, and then those of the boots before it
use Rattle.std.specs.Prelude.{◌≡◌, ◌⊎◌, ℕ, ◌-◌, List, [], ◌∷◌, take, drop, Option, Some, None, reverse}
use Rattle.text_log_spec.specs.declared.Boot.{Boot}
use Rattle.text_log_spec.specs.Boots.{boots_of}
use Rattle.log_image.specs.declared.LogImage.{LogImage}
use Rattle.log_image.specs.Images.{IsLogImage}
use Rattle.region_report.specs.Reports.{ReportHeld}
use Rattle.report_tool.specs.declared.showing.Format.{Format}
use Rattle.report_tool.specs.declared.showing.Format.TheVariants.{Text, Json, Html, Brief}
use Rattle.report_tool.specs.Images.{IsReported}
use Rattle.report_run.specs.declared.boots.HeldLog.{HeldLog}
use Rattle.report_run.specs.declared.plans.Asked.{Asked}
use Rattle.report_run.specs.declared.failures.Failure.{Failure}
use Rattle.report_run.specs.declared.failures.Failure.TheVariants.{Memory}
use Rattle.report_run.specs.Images.{IsStoppedAt}
use Rattle.report_run.specs.Places.{region_name}
use Rattle.report_run.specs.Plans.{dressed, map_of}

-- ---- a log

-- a text that stands at this place of its file, and its boots, the last one first
pub record IsTextHeld (text : List ℕ) (base : ℕ) (l : HeldLog) : Type 0 where
  pub is_text : l.text.items ≡ text
  pub is_base : l.base ≡ base
  pub are_boots : l.boots.items ≡ reverse (boots_of text)

-- what a boot wrote
abbrev pub part_of : List ℕ → Boot → List ℕ
part_of text boot = take (boot.end - boot.start) (drop boot.start text)

-- what the last boot wrote; an empty text has none
abbrev pub last_part : List ℕ → List Boot → List ℕ
last_part text [] = text
last_part text (boot ∷ boots) = part_of text boot

-- ---- the report of a part of a log, under a name: that of the region that holds it

pub record IsPartShown (asked : Asked) (format : Format) (name part : List ℕ) (given now : Option (List ℕ))
    (report : ReportHeld) : Type 0 where
  pub image : LogImage
  pub is_image : IsLogImage part image
  pub reported : IsReported format name (dressed image.plan asked.lines (map_of asked.map))
      (Some image.region.items) given now report

pub record IsPartStopped (asked : Asked) (format : Format) (name part : List ℕ) (given now : Option (List ℕ))
    (put_before put_now : ℕ) (why : Failure) : Type 0 where
  pub image : LogImage
  pub is_image : IsLogImage part image
  pub cause : IsStoppedAt format name (dressed image.plan asked.lines (map_of asked.map)) image.region.items given now
      put_before put_now why

-- memory ran out before, or it stopped
abbrev pub IsPartUnshown : Asked → Format → List ℕ → List ℕ → Option (List ℕ) → Option (List ℕ) → ℕ → ℕ → Failure
    → Type 0
IsPartUnshown asked format name part given now put_before put_now why =
    ((why ≡ Memory) × (now ≡ given) × (put_now ≡ put_before))
    ⊎ IsPartStopped asked format name part given now put_before put_now why

-- ---- the boots before the last, named by their places

-- a text has a line for each, and JSON an object; a page and a line tell the last boot alone
abbrev pub earlier_format : Format → Option Format
earlier_format Text = Some Brief
earlier_format Json = Some Json
earlier_format Html = None
earlier_format Brief = None

pub record IsBootShown (asked : Asked) (format : Format) (path : List ℕ) (log : HeldLog) (boot : Boot)
    (given now : Option (List ℕ)) : Type 0 where
  pub report : ReportHeld
  pub shown : IsPartShown asked format (region_name path log.base boot.start) (part_of log.text.items boot) given now
      report

abbrev pub IsBootUnshown : Asked → Format → List ℕ → HeldLog → Boot → Option (List ℕ) → Option (List ℕ) → ℕ → ℕ
    → Failure → Type 0
IsBootUnshown asked format path log boot given now put_before put_now why =
    IsPartUnshown asked format (region_name path log.base boot.start) (part_of log.text.items boot) given now put_before
    put_now why

unfoldable pub AreBootsShown : Asked → Format → List ℕ → HeldLog → List Boot → Option (List ℕ) → Option (List ℕ)
    → Type 0
AreBootsShown asked format path log [] given now = now ≡ given
AreBootsShown asked format path log (boot ∷ boots) given now =
    (between : Option (List ℕ)) × IsBootShown asked format path log boot given between
    × AreBootsShown asked format path log boots between now

-- the first that fails ends it
unfoldable pub AreBootsUnshown : Asked → Format → List ℕ → HeldLog → List Boot → Option (List ℕ) → Option (List ℕ)
    → ℕ → ℕ → Failure → Type 0
AreBootsUnshown asked format path log [] given now put_before put_now why = ⊥
AreBootsUnshown asked format path log (boot ∷ boots) given now put_before put_now why =
    IsBootUnshown asked format path log boot given now put_before put_now why
    ⊎ ((between : Option (List ℕ)) × IsBootShown asked format path log boot given between
    × AreBootsUnshown asked format path log boots between now put_before put_now why)

abbrev pub AreEarlierShown : Option Format → Asked → List ℕ → HeldLog → Option (List ℕ) → Option (List ℕ) → Type 0
AreEarlierShown None asked path log given now = now ≡ given
AreEarlierShown (Some format) asked path log given now =
    AreBootsShown asked format path log (drop 1 log.boots.items) given now

abbrev pub AreEarlierUnshown : Option Format → Asked → List ℕ → HeldLog → Option (List ℕ) → Option (List ℕ) → ℕ → ℕ
    → Failure → Type 0
AreEarlierUnshown None asked path log given now put_before put_now why = ⊥
AreEarlierUnshown (Some format) asked path log given now put_before put_now why =
    AreBootsUnshown asked format path log (drop 1 log.boots.items) given now put_before put_now why

-- ---- the report of a log: that of its last boot, and then those of the boots before it

pub record IsLogShown (asked : Asked) (path : List ℕ) (log : HeldLog) (given now : Option (List ℕ))
    (report : ReportHeld) : Type 0 where
  pub between : Option (List ℕ)
  pub last : IsPartShown asked asked.format path (last_part log.text.items log.boots.items) given between report
  pub earlier : AreEarlierShown (earlier_format asked.format) asked path log between now

-- the last boot is reported, and a boot before it is not
pub record IsLogCut (asked : Asked) (path : List ℕ) (log : HeldLog) (given now : Option (List ℕ))
    (put_before put_now : ℕ) (why : Failure) : Type 0 where
  pub between : Option (List ℕ)
  pub report : ReportHeld
  pub last : IsPartShown asked asked.format path (last_part log.text.items log.boots.items) given between report
  pub cause : AreEarlierUnshown (earlier_format asked.format) asked path log between now put_before put_now why

abbrev pub IsLogUnshown : Asked → List ℕ → HeldLog → Option (List ℕ) → Option (List ℕ) → ℕ → ℕ → Failure → Type 0
IsLogUnshown asked path log given now put_before put_now why =
    IsPartUnshown asked asked.format path (last_part log.text.items log.boots.items) given now put_before put_now why
    ⊎ IsLogCut asked path log given now put_before put_now why
