-- The text of a gzip file: that of its members, one after another (RFC 1952, 2.2)
use Rattle.std.specs.Prelude.{◌≡◌, ℕ, ◌+◌, ◌-◌, ◌≤◌, ◌==◌, if◌then◌else◌, List, [], ◌∷◌, ◌++◌, length, drop}
use Rattle.std.specs.Prelude.{Result, Ok, Err}
use Rattle.inflate_spec.specs.Texts.{Inflates, Breaks, Exceeds}
use Rattle.inflate_spec.specs.declared.Fault.{Fault}
use Rattle.gzip_spec.specs.Headers.{header_end, member_end}
use Rattle.gzip_spec.specs.declared.GzipFault.{GzipFault}
use Rattle.gzip_spec.specs.declared.GzipFault.TheVariants as faults

-- what a body is: a text and how many bytes it takes, the text up to a fault, or that up to where it gets too long
pub data Body : Type 0 where
  Whole : (text : List ℕ) (taken : ℕ) → Body
  Faulty : (fault : Fault) (text : List ℕ) → Body
  Long : (text : List ℕ) → Body

abbrev pub Deflates : List ℕ → ℕ → Body → Type 0
Deflates bytes most (Whole text taken) = Inflates bytes text taken × (length text ≤ most)
Deflates bytes most (Faulty fault text) = Breaks bytes fault text × (length text ≤ most)
Deflates bytes most (Long text) = Exceeds bytes most text

-- what a file is; `Broken` and `TooLong` have the text up to there
pub data Outcome : Type 0 where
  Text : (text : List ℕ) → Outcome
  Broken : (fault : GzipFault) (text : List ℕ) → Outcome
  TooLong : (text : List ℕ) → Outcome

-- behind a member: the bytes of the next one and the text so far, or the end
pub data Next : Type 0 where
  Member : (bytes text : List ℕ) → Next
  End : (outcome : Outcome) → Next

abbrev pub behind : List ℕ → List ℕ → Next
behind bytes text = if length bytes == 0 then End (Text text) else Member bytes text

abbrev pub behind_end : List ℕ → List ℕ → Result ℕ GzipFault → Next
behind_end bytes text (Ok at) = behind (drop at bytes) text
behind_end bytes text (Err fault) = End (Broken fault text)

abbrev pub behind_body : List ℕ → ℕ → List ℕ → Body → Next
behind_body bytes header before (Whole text taken) =
    behind_end bytes (before ++ text) (member_end bytes (header + taken) text)
behind_body bytes header before (Faulty fault text) = End (Broken (faults.Body fault) (before ++ text))
behind_body bytes header before (Long text) = End (TooLong (before ++ text))

pub record HasBody (most : ℕ) (bytes : List ℕ) (header : ℕ) (before : List ℕ) (next : Next) : Type 0 where
  pub body : Body
  pub deflates : Deflates (drop header bytes) (most - length before) body
  pub next_is : next ≡ behind_body bytes header before body

-- what comes behind the member at the front of bytes, if the text before it is this
abbrev pub Leads : ℕ → Result ℕ GzipFault → List ℕ → List ℕ → Next → Type 0
Leads most (Err fault) bytes before next = next ≡ End (Broken fault before)
Leads most (Ok header) bytes before next = HasBody most bytes header before next

-- what members lead to, one after another: behind each but the last there are these bytes and this text
unfoldable pub Members : List (List ℕ × List ℕ) → ℕ → GzipFault → List ℕ → List ℕ → Outcome → Type 0
Members [] most other bytes before outcome = Leads most (header_end other bytes) bytes before (End outcome)
Members (p ∷ ps) most other bytes before outcome =
    Leads most (header_end other bytes) bytes before (Member p.0 p.1)
    × Members ps most faults.TrailingBytes p.0 p.1 outcome

-- a file whose text may have at most so many bytes
pub record Gives (most : ℕ) (bytes : List ℕ) (outcome : Outcome) : Type 0 where
  pub places : List (List ℕ × List ℕ)
  pub members : Members places most faults.NotGzip bytes [] outcome
