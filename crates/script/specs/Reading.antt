-- What a reader answers, next to what the grammar gives
use Rattle.std.specs.Prelude.{◌≡◌, ℕ, ◌<◌, ◌^◌, List, decimal, MatchOption, Option, Some, None, Result, Ok, Err}
use Rattle.grammar_spec.specs.declared.line.Line.{Line}
use Rattle.script.specs.declared.reading.ParseFault.{ParseFault}
use Rattle.script.specs.declared.reading.ParseFault.TheVariants.{BadLine, Memory as OutOfMemory}
use Rattle.script.specs.declared.rows.LineFault.{LineFault}
use Rattle.script.specs.declared.rows.LineFault.TheVariants.{Bad, Memory}

abbrev pub Fails : {Y : Type 0} → LineFault → Option Y → Type 0
Fails Bad read = read ≡ None
Fails Memory read = Unit {0}

-- the value that the grammar gives, or Bad where it gives none; memory can run out
abbrev pub Gives : {X Y : Type 0} → (X → Y) → Result X LineFault → Option Y → Type 0
Gives view (Ok x) read = read ≡ Some (view x)
Gives view (Err fault) read = Fails fault read

-- a fault at line n, whose text reads so
abbrev pub IsFaultAt : ParseFault → ℕ → Option Line → Type 0
IsFaultAt (BadLine k) n read = (k ≡ n) × (read ≡ None)
IsFaultAt OutOfMemory n read = Unit {0}

abbrev pub ReadsLine : ℕ → Result Line ParseFault → Option Line → Type 0
ReadsLine n (Ok line) read = read ≡ Some line
ReadsLine n (Err fault) read = IsFaultAt fault n read

-- a bad line is the first that is outside the grammar; memory can run out
abbrev pub IsFaultOf : ParseFault → Result (List Line) ℕ → Type 0
IsFaultOf (BadLine n) read = read ≡ Err n
IsFaultOf OutOfMemory read = Unit {0}

-- no decimal of a number below 2 ^ 64, or the number of which it may be the decimal
abbrev pub IsParsed : List ℕ → Option ℕ → Type 0
IsParsed text result = MatchOption result ((n : ℕ) → n < 2 ^ 64 → text ≡ decimal n → ⊥)
    (λ v. (n : ℕ) → n < 2 ^ 64 → text ≡ decimal n → v ≡ n)
