-- The region: its zones to scale, what is not clean, and a table of the zones
use Rattle.std.specs.Prelude.{List, [], ◌∷◌, ◌++◌, length, codes, None}
use Rattle.zone_spec.specs.declared.Zone.{Zone}
use Rattle.region_report.specs.Reports.{ReportHeld}
use Rattle.report_html.specs.Pieces.{Part, Words}
use Rattle.report_html.specs.Pictures.{region_opening, width_of, drawn_of, map_of}
use Rattle.report_html.specs.ZoneRows.{rows_after}
use Rattle.report_html.specs.declared.words.TheConstants.{KEY, ZONES}
use Rattle.report_html.specs.Spots.{spots_of, spots_parts}

-- the zones to scale, the headers and blocks that are not clean, and a table of the zones with their strips
abbrev pub picture : List Zone → ReportHeld → List Part
picture zones report =
    region_opening (width_of zones) (length zones) ++ map_of zones report
    ++ Words KEY.now ∷ [] ++ spots_parts (spots_of zones report.parts)
    ++ Words ZONES.now ∷ [] ++ rows_after None (drawn_of zones report)
    ++ Words (codes "</table></div>\n") ∷ []
