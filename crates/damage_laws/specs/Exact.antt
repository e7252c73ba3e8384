-- When what a boot reports of a zone is exact
use Rattle.std.specs.Prelude.{◌≡◌, ◌≢◌, ℕ, ◌+◌, ◌<◌, ◌≤◌, ◌⊎◌, ◌↔◌, true, List, [], ◌∷◌, length, take, slice_get}
use Rattle.std.specs.Prelude.{Contains, Option, Some, None}
use Rattle.zone_spec.specs.declared.Zone.{Zone}
use Rattle.zone_spec.specs.declared.Words.{Words}
use Rattle.zone_spec.specs.declared.Pair.{Pair}
use Rattle.zone_spec.specs.declared.CallKind.{CallKind}
use Rattle.zone_spec.specs.declared.HeaderSeen.{HeaderSeen}
use Rattle.zone_spec.specs.declared.HeaderSeen.TheVariants.{Pair as SeenPair, Foreign}
use Rattle.zone_spec.specs.declared.Verdict.{Verdict}
use Rattle.zone_spec.specs.declared.Verdict.TheVariants.{NothingTold, AsTold, Differs}
use Rattle.zone_spec.specs.Reading.{zone_reading}
use Rattle.zone_spec.specs.Told.{kind_of}
use Rattle.zone_spec.specs.Pairs.{pair_of}
use Rattle.zone_spec.specs.Cut.{Cut, CutReport, cut_pairs, is_touched}
use Rattle.machine_spec.specs.States.{Flight, OffZone}
use Rattle.machine_spec.specs.ZoneCalls.{total_stores}
use Rattle.machine_spec.specs.Report.{zone_report}
use Rattle.machine_spec.specs.Sound.{IsCutFlight}

-- the verdict is nothing told exactly where no list is known, as told exactly where the list is the log,
-- and else has both lengths and the length of the longest front that the two share
pub record IsExactVerdict (told : Option (List ℕ)) (log : List ℕ) (verdict : Verdict) : Type 0 where
  pub nothing_told : (verdict ≡ NothingTold) ↔ (told ≡ None)
  pub as_told : (verdict ≡ AsTold) ↔ (told ≡ Some log)
  pub differs : (list : List ℕ) → told ≡ Some list → list ≢ log
      → (first : ℕ) × (verdict ≡ Differs (length list) (length log) first) × (take first list ≡ take first log)
      × (slice_get list first ≢ slice_get log first)

-- these words are pair j, with the zone's signature, and no earlier pair
pub record IsFirstPair (z : Zone) (words : Words) (pairs : List Pair) (j : ℕ) : Type 0 where
  pub signed : words.sig ≡ z.sig
  pub pair : slice_get pairs j ≡ Some (pair_of words)
  pub first : (i : ℕ) → i < j → slice_get pairs i ≢ Some (pair_of words)

-- pair j is seen exactly where the words are that pair and no earlier one, with the zone's signature;
-- the header is foreign exactly where its signature is another, or its words are no pair
pub record IsExactSeen (z : Zone) (words : Words) (pairs : List Pair) (seen : HeaderSeen) : Type 0 where
  pub pair : (j : ℕ) → (seen ≡ SeenPair j) ↔ IsFirstPair z words pairs j
  pub foreign : (seen ≡ Foreign) ↔ ((words.sig ≢ z.sig) ⊎ ((j : ℕ) → slice_get pairs j ≢ Some (pair_of words)))

-- these runs are just the touched blocks
abbrev pub RunsAreTouched : Zone → Cut → List (ℕ × ℕ) → Type 0
RunsAreTouched z cut runs = (b : ℕ) → (is_touched z cut b ≡ true) ↔
    ((lo hi : ℕ) × Contains runs (lo, hi) × (lo ≤ b) × (b ≤ hi))

-- the runs rise from a number on, with a block between each two that is in none
abbrev pub RisesFrom : ℕ → List (ℕ × ℕ) → Type 0
RisesFrom a [] = Unit {0}
RisesFrom a (run ∷ runs) = (a ≤ run.0) × (run.0 ≤ run.1) × RisesFrom (run.1 + 2) runs

-- a report of a cut is exact: the call's kind, the stores made and in all, the pair that the header
-- reads as, and the touched blocks in runs that are as long as can be
pub record IsExactReport (z : Zone) (words : Words) (cut : Cut) (call : CallKind) (stored all : ℕ)
    (r : CutReport) : Type 0 where
  pub kind : r.kind ≡ call
  pub made : r.made ≡ stored
  pub total : r.total ≡ all
  pub header : IsExactSeen z words (cut_pairs z cut) r.header
  pub touched : RunsAreTouched z cut r.runs
  pub apart : RisesFrom 0 r.runs

-- a zone's report has its cut call, exactly: with the numbers of each flight that the cut is of, and
-- there is one
pub record ReportsCall (z : Zone) (zone : OffZone) (now : List ℕ) (cut : Cut) : Type 0 where
  pub flight : (told : List ℕ) × (f : Flight) × IsCutFlight z zone cut told f
  pub exact : (told : List ℕ) (f : Flight) → IsCutFlight z zone cut told f
      → (r : CutReport) × ((zone_report z zone now).cut ≡ Some r)
      × IsExactReport z (zone_reading z now).words cut (kind_of f.call) f.made (total_stores z f) r
