-- A script that is read piece by piece
use Rattle.std.specs.Prelude.{◌≡◌, ℕ, ◌+◌, ◌==◌, List, ◌++◌, length, Option, Some, None, Result, Ok, Err}
use Rattle.std.specs.List.{slice_split}
use Rattle.grammar_spec.specs.declared.line.Line.{Line}
use Rattle.grammar_spec.specs.Lines.{lines_from, script_of}
use Rattle.script.specs.declared.reading.ParseFault.{ParseFault}
use Rattle.script.specs.declared.reading.ParseFault.TheVariants.{BadLine, Memory}

-- the lines read so far, what stands behind the last newline, and the first bad line
pub record ReadingSeen : Type 0 where
  pub lines : List Line
  pub rest : List ℕ
  pub bad : Option ℕ

-- lines before others that are read behind them
abbrev pub onto : List Line → Result (List Line) ℕ → Result (List Line) ℕ
onto front (Ok lines) = Ok (front ++ lines)
onto front (Err n) = Err n

-- of the bytes given so far these lines were read, and of the rest none: whatever follows, the script's lines are these
-- and those of the rest with what follows
pub record HasRead (given : List ℕ) (lines : List Line) (rest : List ℕ) : Type 0 where
  pub read : (more : List ℕ) → script_of (given ++ more)
      ≡ onto lines (lines_from (length lines + 1) (slice_split (λ b. b == 0x0a) (rest ++ more)))

-- the first bad line stands in the bytes given so far, whatever follows; memory can run out
abbrev pub IsFaultBehind : ParseFault → List ℕ → Type 0
IsFaultBehind (BadLine n) given = (more : List ℕ) → script_of (given ++ more) ≡ Err n
IsFaultBehind Memory given = Unit {0}

abbrev pub HasTakenUnless : Option ℕ → ReadingSeen → List ℕ → Type 0
HasTakenUnless None r given = HasRead given r.lines r.rest
HasTakenUnless (Some n) r given = IsFaultBehind (BadLine n) given

-- the bytes given so far were taken
abbrev pub HasTaken : ReadingSeen → List ℕ → Type 0
HasTaken r given = HasTakenUnless r.bad r given
