-- The zones of an image, one after another
use Rattle.std.proofs.Common.{◌≡◌, ℕ, zero, suc, ◌+◌, ◌-◌, ◌<◌, ◌≤◌, List, [], ◌∷◌, length, take, drop, map, slice_get}
use Rattle.std.proofs.Common.{get_or, refl, sym, ap, ◌∙◌, subst, arith, inl, inr, Some, length-append, length-take}
use Rattle.std.proofs.Common.{length-drop, append_assoc, take-append-drop, add-zero, zero-add, ◌++◌}
use Rattle.std.specs.Prelude.{slice_range, Option}
use Rattle.std.specs.List.{concat}
use Rattle.std.proofs.lemmas.Bool.{cases_lt}
use Rattle.std.proofs.lemmas.List.{length-map, drop-drop}
use Rattle.std.proofs.lemmas.List.Sums.{sum_by-cons}
use Rattle.std.proofs.lemmas.Option.{slice_get-get_or, slice_get_read, slice_get_within}
use Rattle.circular_buffer.proofs.Places.{slice_get-append_left, slice_get-last}
use Rattle.zone_spec.specs.declared.Zone.{Zone}
use Rattle.zone_spec.specs.Reading.{zone_reading}
use Rattle.zone_spec.specs.Layouts.{zones_end, IsLayout}
use Rattle.prz_read.specs.Saving.{SavedLogs, saved}
use Rattle.prz_region.specs.CutRegion.{cut_at}
use Rattle.zone_spec.specs.PartStates.{part_states, zone_bytes}
use Rattle.region_report.specs.declared.report.Readings.{Readings}
use Rattle.region_report.specs.Reports.{SpansFit, Adds, ReadsTo, IsReport}
use Rattle.report_spec.specs.declared.Origin.TheVariants.{Region}
use Rattle.ftrace_spec.specs.declared.EntryForm.{EntryForm}
use Rattle.report_spec.specs.Packed.{RecordShown, AreShown, records_traced}
use Rattle.report_spec.specs.Doubts.{with_doubts}
use Rattle.report_spec.specs.Mending.{records_mended}

get-map : {X Y : Type 0} (f : X → Y) (xs : List X) (i : ℕ) (x : X) → slice_get xs i ≡ Some x
    → slice_get (map f xs) i ≡ Some (f x)
get-map f [] i x e = let n : ◌≡◌ {A = ℕ} 0 1 = cc in absurd (omega (arith, n))
get-map f (w ∷ ws) zero x e = let s : w ≡ x = cc in ap (λ y. Some (f y)) s
get-map f (w ∷ ws) (suc i) x e = get-map f ws i x e

zone_within : (layout : List Zone) (i : ℕ) (z : Zone) → slice_get layout i ≡ Some z
    → zones_end (take i layout) + z.size ≤ zones_end layout
zone_within [] i z e = let n : ◌≡◌ {A = ℕ} 0 1 = cc in absurd (omega (arith, n))
zone_within (y ∷ ys) zero z e = let s : y ≡ z = cc in omega
    (arith, sum_by-cons (λ (y : Zone). y.size) y ys, ap (λ (v : Zone). v.size) s)
zone_within (y ∷ ys) (suc i) z e = omega (
  arith,
  sum_by-cons (λ (y : Zone). y.size) y ys,
  sum_by-cons (λ (y : Zone). y.size) y (take i ys),
  zone_within ys i z e,
)

-- the spans of an image
pub span-got : (zones : List Zone) (image : List ℕ) (i : ℕ) (z : Zone) → slice_get zones i ≡ Some z
    → slice_get (cut_at zones image).spans i ≡ Some (zone_bytes z image)
span-got zones image i z e = get-map (λ (y : Zone). slice_range image y.at (y.at + y.size)) zones i z e

pub spans-fit : (zones : List Zone) (mem : ℕ) (image : List ℕ) → IsLayout zones mem → length image ≡ mem
    → SpansFit zones (cut_at zones image).spans
spans-fit zones mem image lies size = record {
  count = length-map zones (λ (z : Zone). slice_range image z.at (z.at + z.size));
  sizes = λ i z bytes ez eb.
      let same : Some bytes ≡ Some (zone_bytes z image) = sym eb ∙ span-got zones image i z ez in
      let own : bytes ≡ zone_bytes z image = cc in
      let at = (lies.valid i z ez).1 in
      let end = zone_within zones i z ez in
      let within = lies.within in
      ap length own
      ∙ omega (
        arith,
        length-take ((z.at + z.size) - z.at) (drop z.at image),
        length-drop z.at image,
        at,
        end,
        within,
        size,
      );
}

-- a range and what is behind it
range-then-rest : (bytes : List ℕ) (at size : ℕ)
    → slice_range bytes at (at + size) ++ drop (at + size) bytes ≡ drop at bytes
range-then-rest bytes at size =
    ap (λ (n : ℕ). take n (drop at bytes) ++ drop (at + size) bytes) (omega (arith))
    ∙ ap (λ (l : List ℕ). take size (drop at bytes) ++ l) (sym (drop-drop size at bytes))
    ∙ take-append-drop size (drop at bytes)

-- zones side by side from a place on: their spans and what is behind them, end to end
spans-from : (zones : List Zone) (base : ℕ) (image : List ℕ)
    → ((i : ℕ) (z : Zone) → slice_get zones i ≡ Some z → z.at ≡ base + zones_end (take i zones))
    → concat (map (λ (z : Zone). slice_range image z.at (z.at + z.size)) zones)
    ++ drop (base + zones_end zones) image ≡ drop base image
spans-from [] base image at = ap (λ (n : ℕ). drop n image) (add-zero base)
spans-from (z ∷ zs) base image at =
    let own : List ℕ = slice_range image z.at (z.at + z.size) in
    let others : List (List ℕ) = map (λ (y : Zone). slice_range image y.at (y.at + y.size)) zs in
    let sums : zones_end (z ∷ zs) ≡ z.size + zones_end zs = sum_by-cons (λ (y : Zone). y.size) z zs in
    let here : z.at ≡ base = at 0 z refl ∙ add-zero base in
    let next : (i : ℕ) (y : Zone) → slice_get zs i ≡ Some y → y.at ≡ (z.at + z.size) + zones_end (take i zs) =
    λ i y e. at (suc i) y e ∙ omega (arith, here, sum_by-cons (λ (y : Zone). y.size) z (take i zs)) in
    append_assoc own (concat others) (drop (base + zones_end (z ∷ zs)) image)
    ∙ ap (λ (n : ℕ). own ++ (concat others ++ drop n image)) (omega (arith, here, sums))
    ∙ ap (λ (l : List ℕ). own ++ l) (spans-from zs (z.at + z.size) image next)
    ∙ range-then-rest image z.at z.size
    ∙ ap (λ (n : ℕ). drop n image) here

-- the spans of an image are the image again
pub spans-joined : (zones : List Zone) (mem : ℕ) (image : List ℕ) → IsLayout zones mem
    → concat (cut_at zones image).spans ++ (cut_at zones image).rest ≡ image
spans-joined zones mem image lies =
    ap (λ (n : ℕ). concat (cut_at zones image).spans ++ drop n image) (sym (zero-add (zones_end zones)))
    ∙ spans-from zones 0 image (λ i z e. (lies.valid i z e).1 ∙ sym (zero-add (zones_end (take i zones))))

-- the zone and the span at a place
pub record SpanAt (layout : List Zone) (spans : List (List ℕ)) (i : ℕ) (z : Zone) (bytes : List ℕ) : Type 0 where
  pub zone : slice_get layout i ≡ Some z
  pub span : slice_get spans i ≡ Some bytes
  pub size : length bytes ≡ z.size

pub span_at : (layout zs : List Zone) (d : Zone) (spans all : List (List ℕ)) (i : ℕ) (bytes : List ℕ)
    → SpansFit layout spans → zs ≡ layout → all ≡ spans → i < length zs → bytes ≡ get_or all i bytes
    → SpanAt layout spans i (get_or zs i d) bytes
span_at layout zs d spans all i bytes fit ezs eall below eb =
    let below' : i < length layout = subst (λ (l : List Zone). i < length l) ezs below in
    let ez : slice_get layout i ≡ Some (get_or zs i d) = ap (λ (l : List Zone). slice_get l i) (sym ezs)
    ∙ slice_get-get_or zs i d below in
    let gb : slice_get spans i ≡ Some bytes = ap (λ (l : List (List ℕ)). slice_get l i) (sym eall)
    ∙ slice_get_read all (length all) i bytes refl (let a = ap length eall in let b = fit.count in
    omega (arith, a, b, below')) eb in
    record { zone = ez; span = gb; size = fit.sizes i (get_or zs i d) bytes ez gb }

-- no zone yet
pub reads-none : (zones : List Zone) (spans : List (List ℕ)) (r : Readings)
    → r.logs ≡ record { zones = zones; readings = [] } → r.parts.items ≡ [] → ReadsTo zones spans 0 r
reads-none zones spans r logs parts = record {
  zones_same = ap (λ (l : SavedLogs). l.zones) logs;
  readings_len = ap (λ (l : SavedLogs). length l.readings) logs;
  parts_len = ap length parts;
  readings = λ i z bytes below ez eb. absurd (omega (arith, below));
  parts = λ i z bytes below ez eb. absurd (omega (arith, below));
}

-- one zone more
pub reads-next : (zones : List Zone) (spans : List (List ℕ)) (n : ℕ) (old new : Readings) (z : Zone)
    (bytes : List ℕ) → ReadsTo zones spans n old → slice_get zones n ≡ Some z → slice_get spans n ≡ Some bytes
    → Adds old new z bytes → ReadsTo zones spans (n + 1) new
reads-next zones spans n old new z bytes to ez eb adds = record {
  zones_same = adds.zones ∙ to.zones_same;
  readings_len = (let a = ap length adds.readings in let b = length-append old.logs.readings
      (Some (zone_reading z bytes) ∷ []) in let c = to.readings_len in omega (arith, a, b, c));
  parts_len = (let a = ap length adds.parts in let b = length-append old.parts.items (part_states z bytes ∷ []) in
      let c = to.parts_len in omega (arith, a, b, c));
  readings = λ i y b below ey eb'. elim (cases_lt i n) [
    | inl l ↦ ap (λ rs. slice_get rs i) adds.readings ∙ slice_get-append_left old.logs.readings _ i
        (let c = to.readings_len in omega (arith, l, c)) ∙ to.readings i y b l ey eb'
    | inr g ↦ (let at : i ≡ n = omega (arith, below, g) in
        let sz : z ≡ y = (let s : Some z ≡ Some y = sym ez ∙ ap (slice_get zones) (sym at) ∙ ey in cc) in
        let sb : bytes ≡ b = (let s : Some bytes ≡ Some b = sym eb ∙ ap (slice_get spans) (sym at) ∙ eb' in cc) in
        ap (λ rs. slice_get rs i) adds.readings ∙ slice_get-last old.logs.readings (Some (zone_reading z bytes)) i
        (at ∙ sym to.readings_len)
        ∙ ap (λ (y' : Zone). Some (Some (zone_reading y' bytes))) sz
        ∙ ap (λ (b' : List ℕ). Some (Some (zone_reading y b'))) sb)
  ];
  parts = λ i y b below ey eb'. elim (cases_lt i n) [
    | inl l ↦ ap (λ rs. slice_get rs i) adds.parts ∙ slice_get-append_left old.parts.items _ i
        (let c = to.parts_len in omega (arith, l, c)) ∙ to.parts i y b l ey eb'
    | inr g ↦ (let at : i ≡ n = omega (arith, below, g) in
        let sz : z ≡ y = (let s : Some z ≡ Some y = sym ez ∙ ap (slice_get zones) (sym at) ∙ ey in cc) in
        let sb : bytes ≡ b = (let s : Some bytes ≡ Some b = sym eb ∙ ap (slice_get spans) (sym at) ∙ eb' in cc) in
        ap (λ rs. slice_get rs i) adds.parts ∙ slice_get-last old.parts.items (part_states z bytes) i
        (at ∙ sym to.parts_len)
        ∙ ap (λ (y' : Zone). Some (part_states y' bytes)) sz
        ∙ ap (λ (b' : List ℕ). Some (part_states y b')) sb)
  ];
}

-- all zones and the records
pub report-is : (zones : List Zone) (names : List ℕ) (given : Option EntryForm) (image : List ℕ)
    (spans : List (List ℕ)) (r : Readings) (shown records : List RecordShown) → spans ≡ (cut_at zones image).spans
    → ReadsTo zones spans (length zones) r → AreShown zones names (records_traced zones given (saved r.logs)) shown
    → records ≡ records_mended r.parts.items
    (map (λ (s : RecordShown). with_doubts zones (saved r.logs) r.parts.items s) shown)
    → IsReport zones names given image (record {
      origin = Region;
      logs = r.logs;
      parts = r.parts.items;
      records = records;
    })
report-is zones names given image spans r shown records same to are mended = record {
  of_region = refl;
  zones_same = to.zones_same;
  readings_len = to.readings_len;
  parts_len = to.parts_len;
  readings = λ i z ez. to.readings i z (zone_bytes z image) (slice_get_within zones i z ez) ez
      (ap (λ (ss : List (List ℕ)). slice_get ss i) same ∙ span-got zones image i z ez);
  parts = λ i z ez. to.parts i z (zone_bytes z image) (slice_get_within zones i z ez) ez
      (ap (λ (ss : List (List ℕ)). slice_get ss i) same ∙ span-got zones image i z ez);
  records = (shown, are, mended);
}
