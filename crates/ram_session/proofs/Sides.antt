-- The lines of a boot, by saved readings and reports side by side
use Rattle.std.proofs.Common.{◌≡◌, ℕ, ◌+◌, ◌<◌, ◌≤◌, min, List, [], ◌∷◌, ◌++◌, length, map, take, sym, ap, ◌∙◌, arith}
use Rattle.std.proofs.Common.{append-nil, Some}
use Rattle.std.specs.Prelude.{flat_map, slice_get}
use Rattle.std.specs.List.{zip}
use Rattle.std.specs.Option.{option_map}
use Rattle.std.proofs.lemmas.List.{take_all, length-map}
use Rattle.std.proofs.lemmas.List.Concat.{flat_map-append}
use Rattle.std.proofs.lemmas.Option.{slice_get-map, slice_get_within}
use Rattle.std.proofs.lemmas.Slice.Zip.{length-zip}
use Rattle.zone_spec.specs.Records.{Saved}
use Rattle.machine_spec.specs.Report.{ZoneReport}
use Rattle.prz_read.proofs.Saves.{zip-at}
use Rattle.pstore_records.proofs.Steps.{item-at}
use Rattle.ramoops.specs.declared.report.ZoneReport.{ZoneReport as RustZoneReport}
use Rattle.ramoops.specs.Reports.{report_seen}
use Rattle.script_spec.specs.Texts.{zone_lines, boot_text}

abbrev pub sides : List Saved → List RustZoneReport → List (Saved × ZoneReport)
sides zones reports = zip zones (map report_seen reports)

abbrev pub lines_of : List (Saved × ZoneReport) → List ℕ
lines_of pairs = flat_map (λ (pair : Saved × ZoneReport). zone_lines pair.0.1 pair.1) pairs

pub one-more : (zones : List Saved) (reports : List RustZoneReport) (i : ℕ) (r : RustZoneReport) (old new : List ℕ)
    → i < length zones → slice_get reports i ≡ Some r
    → old ≡ lines_of (take i (sides zones reports)) → ((s : Saved) → slice_get zones i ≡ Some s
    → new ≡ old ++ zone_lines s.1 (report_seen r)) → new ≡ lines_of (take (i + 1) (sides zones reports))
one-more zones reports i r old new lt here was pushed =
    let at = item-at zones i lt in
    let told : slice_get (map report_seen reports) i ≡ Some (report_seen r) =
    slice_get-map report_seen reports i ∙ ap (option_map report_seen) here in
    let beside : slice_get (sides zones reports) i ≡ Some (at.item, report_seen r) =
    zip-at zones (map report_seen reports) i at.item (report_seen r) at.here told in
    let both = item-at (sides zones reports) i (slice_get_within (sides zones reports) i (at.item, report_seen r)
    beside) in
    let same : both.item ≡ (at.item, report_seen r) = some-is both.item (at.item, report_seen r)
    (sym both.here ∙ beside) in
    pushed at.item at.here ∙ ap (λ (xs : List ℕ). xs ++ zone_lines at.item.1 (report_seen r)) was
    ∙ ap (λ (xs : List ℕ). lines_of (take i (sides zones reports)) ++ xs)
    (sym (append-nil (zone_lines at.item.1 (report_seen r))))
    ∙ sym (ap lines_of both.more ∙ flat_map-append (λ (pair : Saved × ZoneReport). zone_lines pair.0.1 pair.1)
    (take i (sides zones reports)) (both.item ∷ [])
    ∙ ap (λ (p : Saved × ZoneReport). lines_of (take i (sides zones reports)) ++ lines_of (p ∷ [])) same)
  where
    some-is : {A : Type 0} (a b : A) → Some a ≡ Some b → a ≡ b
    some-is a b e = cc

pub all-there : (zones : List Saved) (reports : List RustZoneReport) (i : ℕ) (text : List ℕ)
    → min (length zones) (length reports) ≤ i → text ≡ lines_of (take i (sides zones reports))
    → text ≡ boot_text zones (map report_seen reports)
all-there zones reports i text past e =
    e ∙ ap lines_of (take_all i (sides zones reports) (omega
    (arith, past, length-zip zones (map report_seen reports), length-map reports report_seen)))
