-- The reports of a log, one line after the other
use Rattle.std.proofs.Common.{◌≡◌, List, [], ◌∷◌, ℕ, nat_lt, cond, length, Option, Some, None, refl, ap, ◌∙◌}
use Rattle.std.specs.Option.{option_or}
use Rattle.death_spec.specs.declared.Line.{Line}
use Rattle.death_spec.specs.declared.Cause.{Cause}
use Rattle.death_spec.specs.declared.Opened.{Opened}
use Rattle.death_spec.specs.Lines.{kind, said}
use Rattle.death_spec.specs.Causes.{open_after, open_below, found, last_found}
use Rattle.death_spec.specs.Endings.{last_said}
use Rattle.death_spec.specs.declared.Above.{Above}
use Rattle.death_spec.specs.Reports.{last_two}
use Rattle.death.proofs.MarkedLines.{or_or, or_cond}

pub open_more : (text : List ℕ) (opened : Option Opened) (line : Line) (lines : List Line)
    → open_below text opened (line ∷ lines) ≡ open_below text (open_after opened (kind text line) line) lines
unfolding open_below
open_more text opened line lines = refl

pub open_none : (text : List ℕ) (opened : Option Opened) → open_below text opened [] ≡ opened
unfolding open_below
open_none text opened = refl

-- one line more, which may add a report that counts
pub found_more : (text : List ℕ) (cause : Cause) (opened : Option Opened) (line : Line) (lines : List Line)
    (last : Option Line)
    → option_or (last_found text cause opened (line ∷ lines)) last
    ≡ option_or (last_found text cause (open_after opened (kind text line) line) lines)
    (option_or (found text cause opened (kind text line) line) last)
unfolding last_found
found_more text cause opened line lines last =
    or_or (last_found text cause (open_after opened (kind text line) line) lines)
    (found text cause opened (kind text line) line) last

pub found_none : (text : List ℕ) (cause : Cause) (opened : Option Opened) (last : Option Line)
    → option_or (last_found text cause opened []) last ≡ last
unfolding last_found
found_none text cause opened last = refl

-- one line more, which may say something
pub said_more : (text : List ℕ) (line : Line) (lines : List Line) (last : Option Line)
    → option_or (last_said text (line ∷ lines)) last
    ≡ option_or (last_said text lines) (cond (nat_lt 0 (length (said text line))) (Some line) last)
unfolding last_said
said_more text line lines last =
    or_or (last_said text lines) (cond (nat_lt 0 (length (said text line))) (Some line) None) last
    ∙ ap (option_or (last_said text lines)) (or_cond (nat_lt 0 (length (said text line))) line last)

pub said_none : (text : List ℕ) (last : Option Line) → option_or (last_said text []) last ≡ last
unfolding last_said
said_none text last = refl

-- ---- the last two lines

-- they, or one line more
abbrev pub two_with : List ℕ → Above → Line → Above
two_with text found line =
    cond (nat_lt 0 (length (said text line))) (record { upper = found.lower; lower = Some line }) found

pub two_more : (text : List ℕ) (found : Above) (line : Line) (lines : List Line)
    → last_two text found (line ∷ lines) ≡ last_two text (two_with text found line) lines
unfolding last_two
two_more text found line lines = refl

pub two_none : (text : List ℕ) (found : Above) → last_two text found [] ≡ found
unfolding last_two
two_none text found = refl
