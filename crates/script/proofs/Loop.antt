-- A script as it is read: the lines so far, and those of the rest
use Rattle.std.proofs.Common.{◌≡◌, ℕ, ◌+◌, ◌==◌, true, false, List, [], ◌∷◌, ◌++◌, length, Some, None, Result}
use Rattle.std.proofs.Common.{Ok, Err, refl, sym, ap, subst, ◌∙◌, arith, append_assoc, length-append}
use Rattle.std.specs.Prelude.{if◌then◌else◌, MatchResult, IfOk}
use Rattle.std.specs.List.{slice_split}
use Rattle.std.proofs.lemmas.List.{append-nil}
use Rattle.grammar_spec.specs.declared.line.Line.{Line}
use Rattle.grammar_spec.specs.Fields.{Text}
use Rattle.grammar_spec.specs.Lines.{line_of, lines_from, with_line, script_of}
use Rattle.script.specs.declared.reading.ParseFault.{ParseFault}
use Rattle.script.specs.declared.reading.ParseFault.TheVariants.{BadLine, Memory}
use Rattle.script.specs.Pieces.{onto, HasRead, IsFaultBehind, ReadingSeen, HasTaken, HasTakenUnless}
use Rattle.script.specs.Reading.{IsFaultAt, IsFaultOf}
use Rattle.script.proofs.Cuts.{some_part}
use Rattle.grammar_spec.specs.Printed.{AllHaveFields}
use Rattle.script.proofs.Counts.{lines_of_more}
use Rattle.script.proofs.FieldTable.{read_fields}

abbrev pub parts : Text → List Text
parts text = slice_split (λ b. b == 0x0a) text

-- the text begins with this one, whatever stands behind
abbrev pub IsCut : Text → Text → Text → Type 0
IsCut rest text after = (more : Text) → parts (rest ++ more) ≡ text ∷ parts (after ++ more)

onto_none : (r : Result (List Line) ℕ) → r ≡ onto [] r
onto_none (Ok lines) = refl
onto_none (Err n) = refl

pub at_start : HasRead [] [] []
unfolding script_of
at_start = record { read = λ more. onto_none (lines_from 1 (parts more)) }

-- more is given
pub more_given : (given piece rest : Text) (lines : List Line) → HasRead given lines rest
    → HasRead (given ++ piece) lines (rest ++ piece)
more_given given piece rest lines h = record {
  read = λ more.
      ap script_of (append_assoc given piece more) ∙ h.read (piece ++ more)
      ∙ ap (λ t. onto lines (lines_from (length lines + 1) (parts t))) (sym (append_assoc rest piece more));
}

onto_more : (front : List Line) (line : Line) (n : ℕ) (r : Result (List Line) ℕ)
    → onto front (with_line (Some line) n r) ≡ onto (front ++ line ∷ []) r
onto_more front line n (Ok lines) = ap Ok (sym (append_assoc front (line ∷ []) lines))
onto_more front line n (Err m) = refl

-- the step: a line was read
pub one_more : (given rest text after : Text) (lines : List Line) (line : Line) → HasRead given lines rest
    → IsCut rest text after → line_of text ≡ Some line → HasRead given (lines ++ line ∷ []) after
one_more given rest text after lines line h cut is =
    let n = length lines + 1 in
    let len = length-append lines (line ∷ []) in
    let count : n + 1 ≡ length (lines ++ line ∷ []) + 1 = omega (arith, len) in
    record {
      read = λ more.
          let texts = parts (after ++ more) in
          h.read more
          ∙ ap (onto lines) (ap (lines_from n) (cut more)
          ∙ lines_of_more n text texts (some_part (λ b. b == 0x0a) (after ++ more))
          ∙ ap (λ o. with_line o n (lines_from (n + 1) texts)) is)
          ∙ onto_more lines line n (lines_from (n + 1) texts)
          ∙ ap (λ m. onto (lines ++ line ∷ []) (lines_from m texts)) count;
    }

-- a line that is none
pub bad_line : (given rest text after : Text) (lines : List Line) → HasRead given lines rest
    → IsCut rest text after → line_of text ≡ None → (more : Text) → script_of (given ++ more) ≡ Err (length lines + 1)
bad_line given rest text after lines h cut is more =
    let n = length lines + 1 in
    let texts = parts (after ++ more) in
    h.read more ∙ ap (onto lines) (ap (lines_from n) (cut more)
    ∙ lines_of_more n text texts (some_part (λ b. b == 0x0a) (after ++ more))
    ∙ ap (λ o. with_line o n (lines_from (n + 1) texts)) is)

-- the fault at a line is that of the script
pub fault_of_line : (given rest text after : Text) (lines : List Line) (number : ℕ) (fault : ParseFault)
    → HasRead given lines rest → IsCut rest text after → number ≡ length lines + 1
    → IsFaultAt fault number (line_of text) → IsFaultBehind fault given
fault_of_line given rest text after lines number (BadLine k) h cut is at =
    λ more. bad_line given rest text after lines h cut at.1 more ∙ ap Err (sym (at.0 ∙ is))
fault_of_line given rest text after lines number Memory h cut is at = tt

-- the lines of all that was given, where nothing more comes
all_read : (given rest : Text) (lines : List Line) → HasRead given lines rest → parts rest ≡ rest ∷ []
    → script_of given ≡ onto lines (lines_from (length lines + 1) (rest ∷ []))
all_read given rest lines h cut =
    ap script_of (sym (append-nil given)) ∙ h.read []
    ∙ ap (λ t. onto lines (lines_from (length lines + 1) t)) (ap parts (append-nil rest) ∙ cut)

-- the end, with nothing behind the last newline or with something
pub at_end : (given rest : Text) (lines : List Line) → HasRead given lines rest → parts rest ≡ rest ∷ []
    → (length rest == 0) ≡ true → script_of given ≡ Ok lines
unfolding lines_from
at_end given rest lines h cut empty =
    all_read given rest lines h cut
    ∙ ap (λ b. onto lines (if b then Ok [] else Err (length lines + 1))) empty
    ∙ ap Ok (append-nil lines)

pub open_end : (given rest : Text) (lines : List Line) → HasRead given lines rest → parts rest ≡ rest ∷ []
    → (length rest == 0) ≡ false → script_of given ≡ Err (length lines + 1)
unfolding lines_from
open_end given rest lines h cut full =
    all_read given rest lines h cut
    ∙ ap (λ b. onto lines (if b then Ok [] else Err (length lines + 1))) full

-- a fault in what was given is that of all of it
pub fault_of_all : (given : Text) (fault : ParseFault) → IsFaultBehind fault given → IsFaultOf fault (script_of given)
fault_of_all given (BadLine n) h = ap script_of (sym (append-nil given)) ∙ h []
fault_of_all given Memory h = tt

-- ---- a script that is taken piece by piece

pub was_taken : (r : ReadingSeen) (given : Text) → r.bad ≡ None → HasTaken r given → HasRead given r.lines r.rest
was_taken r given e h = subst (λ b. HasTakenUnless b r given) e h

pub was_bad : (r : ReadingSeen) (given : Text) (n : ℕ) → r.bad ≡ Some n → HasTaken r given
    → IsFaultBehind (BadLine n) given
was_bad r given n e h = subst (λ b. HasTakenUnless b r given) e h

pub ok_fields : (r : Result (List Line) ParseFault) (given : Text)
    → MatchResult r (λ lines. script_of given ≡ Ok lines) (λ fault. IsFaultOf fault (script_of given))
    → IfOk r AllHaveFields
ok_fields (Ok lines) given h = read_fields given lines h
ok_fields (Err fault) given h = tt
