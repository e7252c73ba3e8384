-- One zone more of the picture
use Rattle.std.proofs.Common.{◌≡◌, ℕ, zero, suc, List, [], ◌∷◌, ◌++◌, length, ap, ap₂, sym, ◌∙◌, append-nil, arith}
use Rattle.std.proofs.Common.{codes, Some}
use Rattle.std.specs.Prelude.{Option, slice_get, flat_map, min}
use Rattle.std.specs.List.{zip}
use Rattle.std.specs.Option.{option_map}
use Rattle.zone_spec.specs.declared.Kind.TheVariants.{Dump}
use Rattle.zone_spec.specs.declared.Zone.{Zone}
use Rattle.zone_spec.specs.Reading.{ZoneReading}
use Rattle.zone_spec.specs.Records.{Saved}
use Rattle.zone_spec.specs.declared.PartState.{PartState}
use Rattle.zone_spec.specs.PartStates.{PartStates}
use Rattle.std.proofs.lemmas.Slice.Zip.{length-zip}
use Rattle.prz_read.specs.Saving.{SavedLogs}
use Rattle.prz_read.proofs.Saves.{zip-at}
use Rattle.report_html.specs.Pieces.{Part, Words}
use Rattle.report_html.proofs.PartSums.{joined}
use Rattle.report_html.specs.Pictures.{strip_opening, header_parts, runs, run_parts, unused_parts, parity_parts}
use Rattle.report_html.specs.Pictures.{strip_parts}
use Rattle.zone_spec.specs.declared.params.ByteOrder.TheVariants.{Little}

-- ---- one zone

pub strip-added : (z : Zone) (p : PartStates) (header : PartState) (blocks : List PartState)
    (old begun head used rest edged new : List Part) → header ≡ p.header → blocks ≡ p.blocks
    → begun ≡ old ++ strip_opening z.size → head ≡ begun ++ header_parts (Some header)
    → used ≡ head ++ flat_map (run_parts z) (runs 0 blocks) → rest ≡ used ++ unused_parts z (length blocks)
    → edged ≡ rest ++ parity_parts z → new ≡ edged ++ Words (codes "</svg>") ∷ [] → new ≡ old ++ strip_parts z p
strip-added z p header blocks old begun head used rest edged new first same e1 e2 e3 e4 e5 e6 =
    let a : List Part = strip_opening z.size in
    let b : List Part = header_parts (Some header) in
    let c : List Part = flat_map (run_parts z) (runs 0 blocks) in
    let d : List Part = unused_parts z (length blocks) in
    let e : List Part = parity_parts z in
    let end : List Part = Words (codes "</svg>") ∷ [] in
    joined old (a ++ b ++ c ++ d ++ e) end edged new
    (joined old (a ++ b ++ c ++ d) e rest edged
    (joined old (a ++ b ++ c) d used rest (joined old (a ++ b) c head used (joined old a b begun head e1 e2) e3) e4) e5)
    e6
    ∙ ap₂ (λ (h : PartState) (bs : List PartState). old ++ (a ++ header_parts (Some h)
    ++ flat_map (run_parts z) (runs 0 bs) ++ unused_parts z (length bs) ++ e ++ end)) first same

-- ---- the zones one after another

-- what a list of zones reads behind its end
abbrev pub no_zone : Zone
no_zone = record {
  name = record { kind = Dump; index = 0 };
  at = 0;
  size = 0;
  cap = 0;
  blocks = 0;
  parity = 0;
  sig = 0;
  block = 0;
  byte_order = Little;
}

-- the reading beside a zone
pub read-at : (zones : List Zone) (readings : List (Option ZoneReading)) (i : ℕ) (r : Option ZoneReading)
    → option_map (λ (s : Saved). s.1) (slice_get (zip zones readings) i) ≡ Some r → slice_get readings i ≡ Some r
read-at [] readings i r e = cc
read-at (z ∷ zones) [] i r e = cc
read-at (z ∷ zones) (q ∷ readings) zero r e = e
read-at (z ∷ zones) (q ∷ readings) (suc i) r e = read-at zones readings i r e

-- a zone, its reading and its parts at a place
pub drawn : (f : Saved × PartStates → List Part) (zones : List Zone) (readings : List (Option ZoneReading)) (parts : List PartStates) (i : ℕ) (z : Zone)
    (r : Option ZoneReading) (p : PartStates) (d : Saved × PartStates) → slice_get zones i ≡ Some z
    → slice_get readings i ≡ Some r → slice_get parts i ≡ Some p
    → slice_get (zip (zip zones readings) parts) i ≡ Some d → f ((z, r), p) ≡ flat_map f (d ∷ [])
drawn f zones readings parts i z r p d hz hr hp hd =
    let here = zip-at (zip zones readings) parts i (z, r) p (zip-at zones readings i z r hz hr) hp in
    let same : Some ((z, r), p) ≡ Some d = sym here ∙ hd in
    let own : ((z, r), p) ≡ d = cc in
    ap (λ (e : Saved × PartStates). f e) own ∙ sym (append-nil (f d))

min-swap : (a b c : ℕ) → min (min a b) c ≡ min (min a c) b
min-swap a b c = omega arith

-- as many are drawn as zones, readings and parts have in common
pub all-count : (zones : List Zone) (own logs : SavedLogs) (parts states : List PartStates) (m k n : ℕ) → logs ≡ own
    → states ≡ parts → m ≡ min (length zones) (length states) → k ≡ length logs.readings → n ≡ min m k
    → n ≡ length (zip (zip zones own.readings) parts)
all-count zones own logs parts states m k n same beside m-is k-is n-is =
    let counted : length (zip (zip zones own.readings) parts)
    ≡ min (min (length zones) (length own.readings)) (length parts) =
    length-zip (zip zones own.readings) parts ∙ ap (λ (a : ℕ). min a (length parts)) (length-zip zones own.readings) in
    let first : m ≡ min (length zones) (length parts) =
    m-is ∙ ap (λ (ps : List PartStates). min (length zones) (length ps)) beside in
    let read : k ≡ length own.readings = k-is ∙ ap (λ (l : SavedLogs). length l.readings) same in
    n-is ∙ ap₂ (λ (a b : ℕ). min a b) first read
    ∙ min-swap (length zones) (length parts) (length own.readings) ∙ sym counted
