-- A call that a stop cut, or a boot's own erasure that a stop cut, and what a boot reports of it
use Rattle.std.specs.Prelude.{ℕ, Bool, ◌==◌, List, [], ◌∷◌, ◌++◌, flat_map, sum_by, filter}
use Rattle.std.specs.List.{range_with_len, list_any}
use Rattle.zone_spec.specs.declared.Zone.{Zone}
use Rattle.zone_spec.specs.declared.Words.{Words}
use Rattle.zone_spec.specs.declared.Pair.{Pair}
use Rattle.zone_spec.specs.declared.CallKind.{CallKind}
use Rattle.zone_spec.specs.declared.CallKind.TheVariants.{Erase}
use Rattle.zone_spec.specs.declared.HeaderSeen.{HeaderSeen}
use Rattle.zone_spec.specs.Parts.{words_in}
use Rattle.zone_spec.specs.Reading.{ZoneReading, state_of}
use Rattle.zone_spec.specs.Told.{Call, kind_of}
use Rattle.zone_spec.specs.Stages.{Stage, stage_count}
use Rattle.zone_spec.specs.Calls.{erase_stages, call_parts}
use Rattle.zone_spec.specs.Boot.{signing}
use Rattle.zone_spec.specs.Pairs.{pairs_from, pair_of, header_seen}
use Rattle.zone_spec.specs.Touched.{touched_by, runs_of}

-- what was cut: a call, or a boot's own erasure
pub data CutBy : Type 0 where
  ByCall : (call : Call) → CutBy
  ByBoot : CutBy

-- what was cut, the header with its parity before its first store, and how many of its stores were made
pub record Cut : Type 0 where
  pub by : CutBy
  pub header : List ℕ
  pub made : ℕ

-- the words before it
abbrev pub words_before : Zone → Cut → Words
words_before z cut = words_in z.byte_order cut.header

-- its kind
abbrev pub kind_by : CutBy → CallKind
kind_by (ByCall call) = kind_of call
kind_by ByBoot = Erase

abbrev pub cut_kind : Cut → CallKind
cut_kind cut = kind_by cut.by

-- the parts that it has in a zone with these words: those of the call; a boot's erasure is one part, which
-- begins with the signature in an unsigned zone
abbrev pub parts_by : Zone → Words → CutBy → List (List Stage)
parts_by z w (ByCall call) = call_parts z w call
parts_by z w ByBoot = (signing z (state_of z w) ++ erase_stages) ∷ []

-- its parts, those after the cut too
abbrev pub cut_parts : Zone → Cut → List (List Stage)
cut_parts z cut = parts_by z (words_before z cut) cut.by

-- its stages, end to end
abbrev pub cut_stages : Zone → Cut → List Stage
cut_stages z cut = flat_map (λ part. part) (cut_parts z cut)

-- its pairs: pair 0 is the words before it
abbrev pub cut_pairs : Zone → Cut → List Pair
cut_pairs z cut = pairs_from (pair_of (words_before z cut)) (cut_stages z cut)

-- whether the whole call touches a block
abbrev pub is_touched : Zone → Cut → ℕ → Bool
is_touched z cut b = list_any (λ c. c == b) (touched_by z (cut_stages z cut))

-- what a boot reports of a cut: the stores made and in all, the pair that the header reads, and the runs
-- of the touched blocks
pub record CutReport : Type 0 where
  pub kind : CallKind
  pub made : ℕ
  pub total : ℕ
  pub header : HeaderSeen
  pub runs : List (ℕ × ℕ)

-- the report of a cut by the zone's reading
abbrev pub cut_report : Zone → ZoneReading → Cut → CutReport
cut_report z reading cut = record {
  kind = cut_kind cut;
  made = cut.made;
  total = sum_by (stage_count z) (cut_stages z cut);
  header = header_seen z reading.words (cut_pairs z cut);
  runs = runs_of (filter (λ b. is_touched z cut b) (range_with_len 0 z.blocks));
}
