-- A part of a text log as the image of a region, so that it is reported as a region is
use Rattle.std.specs.Prelude.{◌≡◌, ℕ, List, length}
use Rattle.log_region.specs.Regions.{kept, size_for, params_of, region_of}
use Rattle.report_tool.specs.Plans.{IsLaid}
use Rattle.log_image.specs.declared.LogImage.{LogImage}

-- a region whose console holds the part, and the plan by which it is read
pub record IsLogImage (part : List ℕ) (l : LogImage) : Type 0 where
  pub region : l.region.items ≡ region_of part
  pub plan : IsLaid (params_of (size_for (length (kept part)))) l.plan
