-- What the functions of the reader answer
use Rattle.std.specs.Prelude.{◌≡◌, ℕ, ◌<◌, ◌≤◌, ◌⊎◌, ◌++◌, List, length, drop, Result, Ok, Err}
use Rattle.std.specs.Prelude.{Option, Some, None}
use Rattle.std.specs.Global.{Vec}
use Rattle.gzip_spec.specs.declared.GzipFault.{GzipFault}
use Rattle.gzip_spec.specs.Files.{Outcome, Text, Broken, TooLong, Next, Member, End, behind, Members, Gives}
use Rattle.gzip_spec.specs.declared.GzipFault.TheVariants.{TrailingBytes}
use Rattle.gzip.specs.declared.GzipError.{GzipError}
use Rattle.gzip.specs.declared.GzipError.TheVariants as errors
use Rattle.gzip.specs.declared.bodies.Stop.{Stop}
use Rattle.gzip.specs.declared.bodies.Stop.TheVariants as stops

-- what a file is, and a text of at most so many bytes
pub record GivesShort (most : ℕ) (bytes : List ℕ) (outcome : Outcome) (text : List ℕ) : Type 0 where
  pub gives : Gives most bytes outcome
  pub short : length text ≤ most

abbrev pub Answers : ℕ → List ℕ → Result (Vec ℕ) GzipError → Type 0
Answers most bytes (Ok text) = GivesShort most bytes (Text text.items) text.items
Answers most bytes (Err errors.Memory) = Unit {0}
Answers most bytes (Err (errors.TooLong text)) = GivesShort most bytes (TooLong text.items) text.items
Answers most bytes (Err (errors.Broken fault text)) = GivesShort most bytes (Broken fault text.items) text.items

-- the answer is this, unless memory ran out
abbrev pub Tells : Outcome → Result (Vec ℕ) GzipError → Type 0
Tells outcome (Ok text) = outcome ≡ Text text.items
Tells outcome (Err errors.Memory) = Unit {0}
Tells outcome (Err (errors.TooLong text)) = outcome ≡ TooLong text.items
Tells outcome (Err (errors.Broken fault text)) = outcome ≡ Broken fault text.items

-- what comes behind a member, if it is read to this place with this text, or stops there
pub record Onward (most : ℕ) (bytes text : List ℕ) (leads : Next → Type 0) (at : ℕ) : Type 0 where
  pub there : leads (behind (drop at bytes) text)
  pub short : length text ≤ most
  pub forward : 0 < at
  pub inside : at ≤ length bytes

pub record Halts (most : ℕ) (text : List ℕ) (leads : Next → Type 0) (outcome : Outcome) : Type 0 where
  pub there : leads (End outcome)
  pub short : length text ≤ most

abbrev pub Goes : ℕ → List ℕ → List ℕ → (Next → Type 0) → Result ℕ Stop → Type 0
Goes most bytes text leads (Ok at) = Onward most bytes text leads at
Goes most bytes text leads (Err stops.Memory) = Unit {0}
Goes most bytes text leads (Err stops.TooLong) = Halts most text leads (TooLong text)
Goes most bytes text leads (Err (stops.Broken fault)) = Halts most text leads (Broken fault text)

-- the text is joined and the end is as it was, or memory ran out
abbrev pub IsJoined : List ℕ → List ℕ → List ℕ → Result ℕ Stop → Result ℕ Stop → Type 0
IsJoined before more text end result = (result ≡ Err stops.Memory) ⊎ ((result ≡ end) × (text ≡ before ++ more))

abbrev pub stopped : Result ℕ GzipFault → Result ℕ Stop
stopped (Ok at) = Ok at
stopped (Err fault) = Err (stops.Broken fault)

-- what the members from a place on lead to
pub record Finishes (most : ℕ) (bytes text : List ℕ) (outcome : Outcome) : Type 0 where
  pub places : List (List ℕ × List ℕ)
  pub members : Members places most TrailingBytes bytes text outcome

abbrev pub Ends : ℕ → Next → Outcome → Type 0
Ends most (Member bytes text) outcome = Finishes most bytes text outcome
Ends most (End end) outcome = end ≡ outcome

-- what all members lead to
abbrev pub AllGo : ℕ → List ℕ → List ℕ → Option Stop → Type 0
AllGo most bytes text None = GivesShort most bytes (Text text) text
AllGo most bytes text (Some stops.Memory) = Unit {0}
AllGo most bytes text (Some stops.TooLong) = GivesShort most bytes (TooLong text) text
AllGo most bytes text (Some (stops.Broken fault)) = GivesShort most bytes (Broken fault text) text
