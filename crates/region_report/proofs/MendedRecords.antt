-- All records are mended by the mendings of the console and the newest dump. For `records_mended`.
use Rattle.std.proofs.Common.{◌≡◌, List, Option, map, ap, ◌∙◌}
use Rattle.zone_spec.specs.declared.Name.{Name}
use Rattle.zone_spec.specs.PartStates.{PartStates}
use Rattle.report_spec.specs.Packed.{RecordShown}
use Rattle.report_spec.specs.Newest.{newest, console_of}
use Rattle.report_spec.specs.Mending.{Mending, mending, mended_in, records_mended}
use Rattle.region_report.specs.declared.mended.Mendings.{Mendings}
use Rattle.region_report.specs.Mendings.{AreMendings}

pub all-mended : (parts : List PartStates) (records : List RecordShown) (m : Mendings) → AreMendings parts records m
    → map (mended_in m.console m.dump m.name) records ≡ records_mended parts records
all-mended parts records m are =
    let console = mending parts (console_of records) (newest records) in
    let dump = mending parts (newest records) (console_of records) in
    ap (λ (c : Option Mending). map (mended_in c m.dump m.name) records) are.console
    ∙ ap (λ (d : Option Mending). map (mended_in console d m.name) records) are.dump
    ∙ ap (λ (n : Option Name). map (mended_in console dump n) records) are.name
