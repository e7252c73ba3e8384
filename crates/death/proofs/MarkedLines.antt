-- The last and the first line that count, one line after the other
use Rattle.std.proofs.Common.{◌≡◌, ℕ, Bool, true, false, not, cond, List, [], ◌∷◌, Option, Some, None, refl, sym, ap}
use Rattle.std.proofs.Common.{◌∙◌}
use Rattle.std.proofs.lemmas.List.Sums.{take_while-cons}
use Rattle.std.specs.List.{take_while}
use Rattle.std.specs.Option.{option_or}
use Rattle.death_spec.specs.declared.Line.{Line}
use Rattle.death_spec.specs.declared.Mark.{Mark}
use Rattle.death_spec.specs.Lines.{lines_from, kind}
use Rattle.death_spec.specs.Telling.{last_of, opens, open_behind, last_opening}
use Rattle.death_spec.specs.declared.Span.{Span}
use Rattle.death_spec.specs.Reports.{stuck_of, ends_below, begin_of, report, first_where}

-- the lines up to the end of a report
abbrev pub in_report : List ℕ → (Option Mark → Line → Bool) → List Line → List Line
in_report text ends lines = take_while (λ line. not (ends (kind text line) line)) lines

-- the report of a line, by what that is
pub report_by : (text : List ℕ) (p : Line → Bool) (telling : Line) (head : Option Mark) (stuck : Option Span) (at : ℕ)
    → head ≡ kind text telling → stuck ≡ stuck_of text telling → at ≡ begin_of text telling
    → first_where p (report text telling)
    ≡ first_where p (in_report text (ends_below text head stuck) (lines_from text at))
report_by text p telling head stuck at is_head is_stuck is_at =
    ap (λ h. first_where p
    (in_report text (ends_below text h (stuck_of text telling)) (lines_from text (begin_of text telling))))
    (sym is_head)
    ∙ ap (λ s. first_where p (in_report text (ends_below text head s) (lines_from text (begin_of text telling))))
    (sym is_stuck)
    ∙ ap (λ a. first_where p (in_report text (ends_below text head stuck) (lines_from text a))) (sym is_at)

pub or_none : {X : Type 0} (x : Option X) → option_or x None ≡ x
or_none None = refl
or_none (Some x) = refl

pub or_or : {X : Type 0} (x y z : Option X) → option_or (option_or x y) z ≡ option_or x (option_or y z)
or_or None y z = refl
or_or (Some x) y z = refl

-- a line if it counts, else the one so far
pub or_cond : (t : Bool) (line : Line) (last : Option Line) → option_or (cond t (Some line) None) last
    ≡ cond t (Some line) last
or_cond true line last = refl
or_cond false line last = refl

-- one line more, which may count
pub last_more : (text : List ℕ) (counts : Option Mark → Bool) (line : Line) (lines : List Line) (last : Option Line)
    → option_or (last_of text counts (line ∷ lines)) last
    ≡ option_or (last_of text counts lines) (cond (counts (kind text line)) (Some line) last)
unfolding last_of
last_more text counts line lines last =
    or_or (last_of text counts lines) (cond (counts (kind text line)) (Some line) None) last
    ∙ ap (option_or (last_of text counts lines)) (or_cond (counts (kind text line)) line last)

pub last_none : (text : List ℕ) (counts : Option Mark → Bool) (last : Option Line)
    → option_or (last_of text counts []) last ≡ last
unfolding last_of
last_none text counts last = refl

-- the lines of a report: the first one, if it does not end it
first_step : (text : List ℕ) (p : Line → Bool) (ends : Option Mark → Line → Bool) (line : Line) (lines : List Line)
    → first_where p (in_report text ends (line ∷ lines))
    ≡ cond (not (ends (kind text line) line)) (first_where p (line ∷ in_report text ends lines)) None
unfolding first_where
first_step text p ends line lines =
    ap (first_where p) (take_while-cons (λ l. not (ends (kind text l) l)) line lines)
    ∙ by (not (ends (kind text line) line))
  where
    by : (t : Bool) → first_where p (cond t (line ∷ in_report text ends lines) [])
        ≡ cond t (first_where p (line ∷ in_report text ends lines)) None
    by true = refl
    by false = refl

first_ended : (text : List ℕ) (p : Line → Bool) (ends : Option Mark → Line → Bool) (line : Line) (lines : List Line)
    → ends (kind text line) line ≡ true
    → first_where p (in_report text ends (line ∷ lines)) ≡ None
first_ended text p ends line lines e =
    first_step text p ends line lines
    ∙ ap (λ t. cond (not t) (first_where p (line ∷ in_report text ends lines)) None) e

first_more : (text : List ℕ) (p : Line → Bool) (ends : Option Mark → Line → Bool) (line : Line) (lines : List Line)
    (found : Option Line)
    → ends (kind text line) line ≡ false
    → option_or found (first_where p (in_report text ends (line ∷ lines)))
    ≡ option_or (option_or found (cond (p line) (Some line) None)) (first_where p (in_report text ends lines))
unfolding first_where
first_more text p ends line lines found e =
    ap (option_or found)
    (first_step text p ends line lines
    ∙ ap (λ t. cond (not t) (first_where p (line ∷ in_report text ends lines)) None) e)
    ∙ by found (p line)
  where
    by : (x : Option Line) (t : Bool)
        → option_or x (cond t (Some line) (first_where p (in_report text ends lines)))
        ≡ option_or (option_or x (cond t (Some line) None)) (first_where p (in_report text ends lines))
    by None true = refl
    by None false = refl
    by (Some y) t = refl

-- the same from the place of the line on, by what was found of the line
pub head_more : (text : List ℕ) (p : Line → Bool) (ends : Option Mark → Line → Bool) (at : ℕ) (line : Line)
    (found wanted now : Option Line)
    (k : Option Mark) (t : Bool)
    → wanted ≡ option_or found (first_where p (in_report text ends (lines_from text at)))
    → lines_from text at ≡ line ∷ lines_from text line.next → k ≡ kind text line → ends k line ≡ false
    → t ≡ p line → now ≡ option_or found (cond t (Some line) None)
    → wanted ≡ option_or now (first_where p (in_report text ends (lines_from text line.next)))
head_more text p ends at line found wanted now k t so_far here is_kind goes_on is is_now =
    so_far ∙ ap (λ ls. option_or found (first_where p (in_report text ends ls))) here
    ∙ first_more text p ends line (lines_from text line.next) found
    (sym (ap (λ m. ends m line) is_kind) ∙ goes_on)
    ∙ ap (λ (b : Bool). option_or (option_or found (cond b (Some line) None)) below) (sym is)
    ∙ ap (λ x. option_or x below) (sym is_now)
  where
    below : Option Line
    below = first_where p (in_report text ends (lines_from text line.next))

-- the report ends at the line
pub head_ended : (text : List ℕ) (p : Line → Bool) (ends : Option Mark → Line → Bool) (at : ℕ) (line : Line)
    (found wanted : Option Line) (k : Option Mark)
    → wanted ≡ option_or found (first_where p (in_report text ends (lines_from text at)))
    → lines_from text at ≡ line ∷ lines_from text line.next → k ≡ kind text line → ends k line ≡ true
    → found ≡ wanted
head_ended text p ends at line found wanted k so_far here is_kind is_end =
    sym (so_far ∙ ap (λ ls. option_or found (first_where p (in_report text ends ls))) here
    ∙ ap (option_or found) (first_ended text p ends line (lines_from text line.next)
    (sym (ap (λ m. ends m line) is_kind) ∙ is_end)) ∙ or_none found)

-- the text ends
pub head_none : (text : List ℕ) (p : Line → Bool) (ends : Option Mark → Line → Bool) (at : ℕ)
    (found wanted : Option Line)
    → wanted ≡ option_or found (first_where p (in_report text ends (lines_from text at)))
    → lines_from text at ≡ [] → found ≡ wanted
unfolding first_where
head_none text p ends at found wanted so_far past =
    sym (so_far ∙ ap (λ ls. option_or found (first_where p (in_report text ends ls))) past ∙ or_none found)

-- one line more, which may open a report
pub opening_more : (text : List ℕ) (is_open : Bool) (line : Line) (lines : List Line) (last : Option Line)
    → option_or (last_opening text is_open (line ∷ lines)) last
    ≡ option_or (last_opening text (open_behind is_open (kind text line)) lines)
    (cond (opens is_open (kind text line)) (Some line) last)
unfolding last_opening
opening_more text is_open line lines last =
    let below : Option Line = last_opening text (open_behind is_open (kind text line)) lines in
    or_or below (cond (opens is_open (kind text line)) (Some line) None) last
    ∙ ap (option_or below) (or_cond (opens is_open (kind text line)) line last)

pub opening_none : (text : List ℕ) (is_open : Bool) (last : Option Line)
    → option_or (last_opening text is_open []) last ≡ last
unfolding last_opening
opening_none text is_open last = refl
