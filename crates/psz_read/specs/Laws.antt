-- What a reader may rest on: a zone's front decides on it, no zone hides another, and the parts make the records
use Rattle.std.specs.Prelude.{◌≡◌, ℕ, ◌-◌, ◌≤◌, List, [], ◌∷◌, ◌++◌, take, Some, if◌then◌else◌}
use Rattle.std.specs.Int.{IsGcd, ◌∣◌}
use Rattle.std.specs.List.{AllByRecursion}
use Rattle.psz_spec.specs.declared.Kind.{Kind}
use Rattle.psz_spec.specs.declared.Kind.TheVariants.{Pmsg, Console, Ftrace, Dump}
use Rattle.psz_spec.specs.declared.Zone.{Zone}
use Rattle.psz_spec.specs.declared.Machine.{Machine}
use Rattle.psz_spec.specs.declared.Cursor.{Cursor}
use Rattle.psz_spec.specs.declared.Mark.{Mark}
use Rattle.psz_spec.specs.declared.Part.{Part}
use Rattle.psz_spec.specs.States.{zone_bytes, state_of}
use Rattle.psz_spec.specs.Failures.{kernel_fault}
use Rattle.psz_spec.specs.Records.{is_of, records_of, traces_of, listed_in}
use Rattle.psz_spec.specs.Parts.{part_of, parts_of, of_kind, records_from, log_bytes}
use Rattle.psz_spec.specs.Cursor.{with_bytes}
use Rattle.psz_spec.specs.Marks.{gcd, first_of, step_of}

-- of a zone's bytes 52 tell all that its state, its kernel's fault, its part and the cursor depend on
abbrev pub StateOfFront : Type 0
StateOfFront = (machine : Machine) (z : Zone) (bytes : List ℕ) (n : ℕ) → 52 ≤ n
    → state_of machine z (take n bytes) ≡ state_of machine z bytes

abbrev pub FaultOfFront : Type 0
FaultOfFront = (machine : Machine) (z : Zone) (bytes : List ℕ) (n : ℕ) → 52 ≤ n
    → kernel_fault machine z (take n bytes) ≡ kernel_fault machine z bytes

abbrev pub PartOfFront : Type 0
PartOfFront = (machine : Machine) (z : Zone) (bytes : List ℕ) (n : ℕ) → 52 ≤ n
    → part_of machine z (take n bytes) ≡ part_of machine z bytes

abbrev pub CursorOfFront : Type 0
CursorOfFront = (machine : Machine) (z : Zone) (bytes : List ℕ) (n : ℕ) (c : Cursor) → 52 ≤ n
    → with_bytes machine z (take n bytes) c ≡ with_bytes machine z bytes c

-- what zones list stands beside what others list, whatever state these have
abbrev pub EachByItself : Type 0
EachByItself = (machine : Machine) (image : List ℕ) (kind : Kind) (xs ys : List Zone)
    → records_of machine image kind (xs ++ ys)
    ≡ records_of machine image kind xs ++ records_of machine image kind ys

abbrev pub TracesByThemselves : Type 0
TracesByThemselves = (machine : Machine) (image : List ℕ) (xs ys : List Zone)
    → traces_of machine image (xs ++ ys) ≡ traces_of machine image xs ++ traces_of machine image ys

-- the records are those of the parts
abbrev pub PartsAreRecords : Type 0
PartsAreRecords = (machine : Machine) (zones : List Zone) (image : List ℕ)
    → listed_in machine zones image
    ≡ records_from image (parts_of machine (of_kind Dump zones) image)
    (parts_of machine (of_kind Ftrace zones) image) (parts_of machine (of_kind Pmsg zones) image)
    (parts_of machine (of_kind Console zones) image)

-- the distances between neighbours among the marks of a kind, the first from a place on
unfoldable pub distances : Kind → ℕ → List Mark → List ℕ
distances kind last [] = []
distances kind last (m ∷ ms) =
    if is_of kind m.kind then (m.at - last) ∷ distances kind m.at ms else distances kind last ms

-- the step that marks show divides all their distances
abbrev pub StepDivides : Type 0
StepDivides = (kind : Kind) (first : Mark) (ms : List Mark) → first_of kind ms ≡ Some first
    → AllByRecursion (λ (n : ℕ). step_of kind ms ∣ n) (distances kind first.at ms)

-- and each number that divides all divides the step
abbrev pub StepIsGreatest : Type 0
StepIsGreatest = (kind : Kind) (first : Mark) (ms : List Mark) (d : ℕ) → first_of kind ms ≡ Some first
    → AllByRecursion (λ (n : ℕ). d ∣ n) (distances kind first.at ms) → d ∣ step_of kind ms

-- Euclid's algorithm finds the greatest common divisor
abbrev pub GcdIsGreatest : Type 0
GcdIsGreatest = (a b : ℕ) → IsGcd a b (gcd a b)

-- what of a zone's bytes a listing takes: its first 52, and the log of its part
pub record ReadsTheSame (machine : Machine) (z : Zone) (a b : List ℕ) : Type 0 where
  pub front : take 52 (zone_bytes z a) ≡ take 52 (zone_bytes z b)
  pub log : (part : Part) → part_of machine z (zone_bytes z a) ≡ Some part
      → log_bytes a part.log ≡ log_bytes b part.log

-- so a copy with these bytes, and any others, lists the same
abbrev pub FewBytesAreEnough : Type 0
FewBytesAreEnough = (machine : Machine) (zones : List Zone) (a b : List ℕ)
    → AllByRecursion (λ (z : Zone). ReadsTheSame machine z a b) zones
    → listed_in machine zones a ≡ listed_in machine zones b
