-- What standard error is given
use Rattle.std.specs.Prelude.{◌≡◌, ◌⊎◌, ℕ, Bool, true, false, List, [], ◌∷◌, codes, decimal, string_bytes, Option}
use Rattle.std.specs.Prelude.{Some, None}
use Rattle.std.specs.Io.KnownBytes.{Appends}
use Rattle.outside.specs.Outside.{Rose, AppendsFront}
use Rattle.psz_spec.specs.declared.SizeFault.{SizeFault}
use Rattle.storage_words.specs.Division.{size_fault_text}
use Rattle.report_spec.specs.declared.TextFault.{TextFault}
use Rattle.report_spec.specs.Packed.{fault_words}
use Rattle.report_run.specs.declared.failures.Failure.{Failure}
use Rattle.report_run.specs.declared.failures.Failure.TheVariants.{Memory, Unopened, Unread, Unwritten, Short, NotFound}
use Rattle.report_run.specs.declared.failures.Failure.TheVariants.{Unexplained, Unfinished, Unsaved}
use Rattle.report_run.specs.declared.failures.Failure.TheVariants.{NotThere, NoRegion, Several, NoPlace, Beyond, NoText}
use Rattle.report_run.specs.declared.failures.Failure.TheVariants.{Undivided}

-- what it was given, how often it failed, and whether something of a line was lost
pub record Seen : Type 0 where
  pub given : Option (List ℕ)
  pub faults : ℕ
  pub is_lost : Bool

abbrev pub seen : Option (List ℕ) → ℕ → Bool → Seen
seen given faults is_lost = record { given = given; faults = faults; is_lost = is_lost }

-- it took this text
pub record Takes (text : List ℕ) (a b : Seen) : Type 0 where
  pub given : Appends a.given b.given text
  pub faults : b.faults ≡ a.faults
  pub lost : b.is_lost ≡ a.is_lost

-- or it failed, and took some front of it: that is remembered
pub record Loses (text : List ℕ) (a b : Seen) : Type 0 where
  pub given : AppendsFront a.given b.given text
  pub faults : Rose a.faults b.faults
  pub lost : b.is_lost ≡ true

abbrev pub IsTold : List ℕ → Seen → Seen → Type 0
IsTold text a b = Takes text a b ⊎ Loses text a b

-- these texts, one after another
abbrev pub AreTold : List (List ℕ) → Seen → Seen → Type 0
AreTold [] a b = b ≡ a
AreTold (text ∷ texts) a b = (m : Seen) × IsTold text a m × AreTold texts m b

-- how many of all images came before, if that is shown
abbrev pub place_line : ℕ → ℕ → List (List ℕ)
place_line done all = (13 ∷ []) ∷ decimal done ∷ codes " of " ∷ decimal all ∷ codes " " ∷ []

abbrev pub IsCounted : Bool → ℕ → ℕ → Seen → Seen → Type 0
IsCounted true done all a b = AreTold (place_line done all) a b
IsCounted false done all a b = b ≡ a

-- that all were looked at
abbrev pub IsEnded : Bool → ℕ → Seen → Seen → Type 0
IsEnded true all a b = (m : Seen) × AreTold (place_line all all) a m × IsTold (10 ∷ []) m b
IsEnded false all a b = b ≡ a

-- a line on an image
abbrev pub line_of : List ℕ → List ℕ → List (List ℕ)
line_of path why = codes "oopsreport: " ∷ path ∷ codes ": " ∷ why ∷ (10 ∷ []) ∷ []

-- the line on a search that is not at its end after a little work
abbrev pub slow_line : List ℕ → List (List ℕ)
slow_line path = line_of path (codes "looking for its layout takes longer than usual")

abbrev pub short_line : List ℕ → ℕ → ℕ → List (List ℕ)
short_line path has needed =
    codes "oopsreport: " ∷ path ∷ codes ": it has " ∷ decimal has ∷ codes " bytes, and the layout needs "
    ∷ decimal needed ∷ (10 ∷ []) ∷ []

-- the line on a packed record that does not inflate to its end
abbrev pub part_line : List ℕ → List ℕ → List (List ℕ)
part_line path words = codes "oopsreport: " ∷ path ∷ codes ": inflated in part: " ∷ words ∷ (10 ∷ []) ∷ []

abbrev pub IsPartTold : List ℕ → Option TextFault → Seen → Seen → Type 0
IsPartTold path None a b = b ≡ a
IsPartTold path (Some fault) a b = AreTold (part_line path (fault_words fault)) a b

-- the line on a memory that ends before its region
abbrev pub beyond_line : List ℕ → ℕ → ℕ → ℕ → List (List ℕ)
beyond_line path has size place =
    codes "oopsreport: " ∷ path ∷ codes ": it has " ∷ decimal has ∷ codes " bytes, and the region has " ∷ decimal size
    ∷ codes " from " ∷ decimal place ∷ codes " on" ∷ (10 ∷ []) ∷ []

-- the line on several regions, with their places
abbrev pub several_line : List ℕ → List ℕ → List (List ℕ)
several_line path places =
    codes "oopsreport: " ∷ path ∷ codes ": several regions; choose one by --at:" ∷ places ∷ (10 ∷ []) ∷ []

-- the line on a storage that no kernel divides by the sizes that words give
abbrev pub undivided_line : List ℕ → SizeFault → List (List ℕ)
undivided_line path fault =
    codes "oopsreport: " ∷ path ∷ codes ": the kernel takes no such sizes: " ∷ size_fault_text fault ∷ (10 ∷ []) ∷ []

-- the line on the best layout, and the next
abbrev pub IsBestTold : List ℕ → List (List ℕ) → Seen → Seen → Type 0
IsBestTold best line a b = (m : Seen) × AreTold (codes "oopsreport: " ∷ best ∷ []) a m × AreTold line m b

-- the message on each failure
abbrev pub IsMessage : List ℕ → Failure → Seen → Seen → Type 0
IsMessage path Memory a b = AreTold (line_of path (codes "memory allocation failed")) a b
IsMessage path (Unopened why) a b = AreTold (line_of path (string_bytes why)) a b
IsMessage path Unread a b = AreTold (line_of path (codes "it could not be read")) a b
IsMessage path Unwritten a b = AreTold (line_of path (codes "standard output could not be written")) a b
IsMessage path (Short has needed) a b = AreTold (short_line path has needed) a b
IsMessage path NotFound a b =
    AreTold (line_of path (codes "no layout was found; give it by --param, --cmdline or --dtb")) a b
IsMessage path (Unexplained best) a b = IsBestTold (string_bytes best)
    (line_of path (codes "no layout explains it; give it by --param, --cmdline or --dtb")) a b
IsMessage path (Unfinished best) a b = IsBestTold (string_bytes best)
    (line_of path (codes "not all layouts were tried; give it by --param, --cmdline or --dtb")) a b
IsMessage path (Unsaved why) a b = AreTold (line_of path (string_bytes why)) a b
IsMessage path NotThere a b =
    AreTold (line_of path (codes "no layout explains what stands at that place; give it by --param")) a b
IsMessage path NoRegion a b =
    AreTold (line_of path (codes "no region was found; --memory only looks for ramoops regions")) a b
IsMessage path (Several places) a b = AreTold (several_line path (string_bytes places)) a b
IsMessage path NoPlace a b = AreTold (line_of path (codes "no place is named")) a b
IsMessage path (Beyond has size place) a b = AreTold (beyond_line path has size place) a b
IsMessage path NoText a b = AreTold (line_of path (codes "nothing of this packed record inflates")) a b
IsMessage path (Undivided fault) a b = AreTold (undivided_line path fault) a b
