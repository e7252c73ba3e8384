-- What run answers to any words
use Rattle.std.specs.Prelude.{◌≡◌, ◌≢◌, ◌⊎◌, ⊤, ℕ, ◌==◌, Bool, true, false, if◌then◌else◌, List, [], ◌∷◌, Result, Ok}
use Rattle.std.specs.Prelude.{Err}
use Rattle.command_spec.specs.Ends.{last_line}
use Rattle.std.specs.List.{list_any}
use Rattle.command_spec.specs.Commands.{RamCommand, Extract, Erase, Rescue, Class, RunsScript, ReadsImage, ReadsDump}
use Rattle.command_spec.specs.Commands.{WritesImage, MakesImage, ShowsText, class_of, RamPlan, wanted_of_image, Plan}
use Rattle.command_spec.specs.Commands.{OfRam, OfBlk, OfMove, wanted_move, Wanted, wanted, mem_of}
use Rattle.outside.specs.Outside.{Rose}
use Rattle.command_spec.specs.Answers.{Outside, RoseFor, FaultAnswers, OfScript, OfImage, OfReading, OfMaking}
use Rattle.command_spec.specs.Answers.{OfShowing, Answers, ScriptRead, SavedInPart}
use Rattle.command_spec.specs.BlkAnswers.{BlkAnswers}
use Rattle.command_spec.specs.declared.Stop.{Stop}
use Rattle.command_spec.specs.declared.Stop.TheVariants.{ImageFault}

-- whether a command names a record or a place, which may not be there
abbrev pub names_one : RamCommand → Bool
names_one (Extract name) = true
names_one (Erase name) = true
names_one (Rescue at name) = true
names_one other = false

abbrev pub or_refused : Bool → List ℕ
or_refused refused = if refused then 10 ∷ [] else []

-- the statuses that a class of commands can answer where the words have no fault
abbrev pub class_statuses : Class → Bool → List ℕ
class_statuses RunsScript refused = 0 ∷ 1 ∷ 4 ∷ 5 ∷ 6 ∷ 7 ∷ 8 ∷ 9 ∷ 10 ∷ []
class_statuses ReadsImage refused = 0 ∷ 1 ∷ 4 ∷ 6 ∷ 7 ∷ or_refused refused
class_statuses ReadsDump refused = 0 ∷ 1 ∷ 6 ∷ 7 ∷ or_refused refused
class_statuses WritesImage refused = 0 ∷ 1 ∷ 4 ∷ 6 ∷ 7 ∷ or_refused refused
class_statuses MakesImage refused = 0 ∷ 1 ∷ 6 ∷ 7 ∷ []
class_statuses ShowsText refused = 0 ∷ 1 ∷ 7 ∷ []

abbrev pub ram_statuses : RamCommand → List ℕ
ram_statuses command = class_statuses (class_of command) (names_one command)

-- and every command: a script on the block store, and a move, which names nothing
abbrev pub statuses : Plan → List ℕ
statuses (OfRam plan) = ram_statuses plan.command
statuses (OfBlk layout) = class_statuses RunsScript false
statuses (OfMove plan) = class_statuses WritesImage false

abbrev pub IsAmong : List ℕ → ℕ → Type 0
IsAmong all status = list_any (λ n. n == status) all ≡ true

-- what each kind of command answers, by one of its statuses
abbrev pub Can : RamPlan → ℕ → Type 0
Can plan status = IsAmong (ram_statuses plan.command) status

-- the image failed as it was written back
abbrev pub FailsSaved : Outside → Outside → ℕ → Wanted → Type 0
FailsSaved a b status w = status ≡ 6 → SavedInPart w a b (last_line ImageFault)

abbrev pub RunAnswers : RamPlan → Outside → Outside → ℕ → Type 0
RunAnswers plan a b status = OfScript (λ n. Can plan n) (λ n. ScriptRead (mem_of plan) a b n) (λ n w. Answers w a b n)
    (λ n w. FailsSaved a b n w) plan a b status

abbrev pub ImageAnswers : List ℕ → (List ℕ → Wanted) → Outside → Outside → ℕ → Type 0
ImageAnswers all want a b status = OfImage (λ n. IsAmong all n) (λ n w. Answers w a b n) want a b status

abbrev pub ReadAnswers : RamPlan → Outside → Outside → ℕ → Type 0
ReadAnswers plan a b status = OfReading (λ n. Can plan n) (λ n w. Answers w a b n) (wanted_of_image plan) a b status

abbrev pub MakeAnswers : RamPlan → Outside → Outside → ℕ → Type 0
MakeAnswers plan a b status = OfMaking (λ n. Can plan n) (λ n w. Answers w a b n) (λ n w. FailsSaved a b n w)
    (wanted plan [] []) a b status

abbrev pub ShowAnswers : RamPlan → Outside → Outside → ℕ → Type 0
ShowAnswers plan a b status = OfShowing (λ n. Can plan n) (λ n w. Answers w a b n) (wanted plan [] []) a b status

-- what each class of commands on an image answers
abbrev pub ClassAnswers : Class → RamPlan → Outside → Outside → ℕ → Type 0
ClassAnswers RunsScript plan a b status = RunAnswers plan a b status
ClassAnswers ReadsImage plan a b status = ReadAnswers plan a b status
ClassAnswers ReadsDump plan a b status = ReadAnswers plan a b status
ClassAnswers WritesImage plan a b status = ImageAnswers (ram_statuses plan.command) (wanted_of_image plan) a b status
ClassAnswers MakesImage plan a b status = MakeAnswers plan a b status
ClassAnswers ShowsText plan a b status = ShowAnswers plan a b status

-- what each command answers
abbrev pub PlanAnswers : Plan → Outside → Outside → ℕ → Type 0
PlanAnswers (OfRam plan) a b status = ClassAnswers (class_of plan.command) plan a b status
PlanAnswers (OfBlk layout) a b status = BlkAnswers layout a b status × IsAmong (statuses (OfBlk layout)) status
PlanAnswers (OfMove plan) a b status = ImageAnswers (statuses (OfMove plan)) (wanted_move plan) a b status

-- what the words answer: a command of its plan, by one of its statuses, or the first fault
abbrev pub ToolAnswers : Result Plan Stop → Outside → Outside → ℕ → Type 0
ToolAnswers (Ok plan) a b status = PlanAnswers plan a b status
ToolAnswers (Err s) a b status = FaultAnswers s a b status

-- a command that writes the image only once all else is done; a script on the block store writes as its lines are done
abbrev pub WritesLast : Result Plan Stop → Type 0
WritesLast (Ok (OfRam plan)) = ⊤
WritesLast (Ok (OfBlk layout)) = ⊥
WritesLast (Ok (OfMove plan)) = ⊤
WritesLast (Err s) = ⊤

-- the status tells that the store or the output failed, and the store did
abbrev pub StoreFailed : Outside → Outside → ℕ → Type 0
StoreFailed a b status = ((status ≡ 6) ⊎ (status ≡ 7)) × RoseFor ImageFault a b

-- it leaves the image as it is on every status but 0, unless the store failed
abbrev pub Untouched : Result Plan Stop → Outside → Outside → ℕ → Type 0
Untouched r a b status = WritesLast r → status ≢ 0 → (b.holds ≡ a.holds) ⊎ StoreFailed a b status

-- ---- when the image is asked to be written

-- never
abbrev pub NeverWrites : Outside → Outside → Type 0
NeverWrites a b = b.writes ≡ a.writes

-- only once all else is done
abbrev pub WritesAtEnd : Outside → Outside → ℕ → Type 0
WritesAtEnd a b status = status ≢ 0 → NeverWrites a b ⊎ StoreFailed a b status

-- and the image fails only after it was asked
abbrev pub FailsWriting : Outside → Outside → ℕ → Type 0
FailsWriting a b status = status ≡ 6 → Rose a.writes b.writes

abbrev pub ClassWrites : Class → Outside → Outside → ℕ → Type 0
ClassWrites RunsScript a b status = WritesAtEnd a b status
ClassWrites WritesImage a b status = WritesAtEnd a b status
ClassWrites MakesImage a b status = WritesAtEnd a b status × FailsWriting a b status
ClassWrites other a b status = NeverWrites a b

-- a script on the block store writes as its lines are done, and never on a status that comes before them; words with a
-- fault write nothing
abbrev pub PlanWrites : Result Plan Stop → Outside → Outside → ℕ → Type 0
PlanWrites (Ok (OfRam plan)) a b status = ClassWrites (class_of plan.command) a b status
PlanWrites (Ok (OfBlk layout)) a b status = status ≢ 0 → status ≢ 1 → status ≢ 6 → status ≢ 7 → status ≢ 10
    → NeverWrites a b
PlanWrites (Ok (OfMove plan)) a b status = ClassWrites WritesImage a b status
PlanWrites (Err s) a b status = NeverWrites a b
