-- How a call ends that reads its words from texts
use Rattle.std.specs.Prelude.{◌≡◌, ℕ, ◌⊎◌, List}
use Rattle.std.specs.declared.string.String.{String}
use Rattle.std.specs.declared.alloc.Global.{Global}
use Rattle.grammar_spec.specs.Fields.{Text}
use Rattle.grammar_spec.specs.Words.{texts}
use Rattle.report_entry.specs.Answers.{IsAsked, IsNotAsked, ReportEnds}
use Rattle.report_entry.specs.declared.answers.Asked.{Asked}
use Rattle.report_entry.specs.declared.answers.ReportAnswer.{ReportAnswer}
use Rattle.report_entry.specs.declared.answers.ReportEnd.{ReportEnd}
use Rattle.report_entry.specs.declared.answers.ReportEnd.TheVariants.{Argument, Memory}

-- the caller's slices, but for its words
pub record Given : Type 0 where
  pub name : List ℕ
  pub format : ℕ
  pub tree : List ℕ
  pub image : List ℕ

abbrev pub given : List ℕ → ℕ → List ℕ → List ℕ → Given
given name format tree image = record { name = name; format = format; tree = tree; image = image }

-- the slice that is written and the answer
pub record Written : Type 0 where
  pub text : List ℕ
  pub answer : ReportAnswer

abbrev pub written : List ℕ → ReportAnswer → Written
written text answer = record { text = text; answer = answer }

-- the words are texts so far, and name and format are within their ranges
pub record InRange (are_texts : Type 0) (g : Given) : Type 0 where
  pub read : are_texts
  pub asked : Asked
  pub is_asked : IsAsked g.name g.format asked

-- a report by these words was made, or refused
pub record Reports (end : ReportEnd) (readable : Type 0) (words : List Text) (g : Given) (old new : Written)
    : Type 0 where
  pub read : readable
  pub asked : Asked
  pub is_asked : IsAsked g.name g.format asked
  pub list : List (String Global)
  pub words_are : texts list ≡ words
  pub ends : ReportEnds end list asked g.tree g.image old.text new.text old.answer new.answer

-- an argument is outside its range, or memory was wanted for words and arguments within theirs: nothing was written
abbrev pub CallEnds : ReportEnd → Type 0 → Type 0 → Type 0 → List Text → Given → Written → Written → Type 0
CallEnds Argument are_texts readable unreadable words g old new = (new ≡ old)
    × (IsNotAsked g.name g.format ⊎ unreadable)
CallEnds Memory are_texts readable unreadable words g old new = (new ≡ old) × InRange are_texts g
CallEnds end are_texts readable unreadable words g old new = Reports end readable words g old new
