-- A report that ended is the end of a call by its words. For the calls of C and of the page.
use Rattle.std.proofs.Common.{◌≡◌, ℕ, List, ap, ◌∙◌, arith}
use Rattle.std.specs.Prelude.{Result, Ok, Err}
use Rattle.std.specs.declared.string.String.{String}
use Rattle.std.specs.declared.alloc.Global.{Global}
use Rattle.grammar_spec.specs.Fields.{Text}
use Rattle.grammar_spec.specs.Words.{texts}
use Rattle.report_entry.specs.declared.answers.Asked.{Asked}
use Rattle.report_entry.specs.declared.answers.ReportAnswer.{ReportAnswer}
use Rattle.report_entry.specs.declared.answers.ReportEnd.{ReportEnd}
use Rattle.report_entry.specs.declared.answers.ReportEnd.TheVariants.{Done, Fault, Short, Room, Argument, Memory}
use Rattle.report_entry.specs.declared.answers.ReportEnd.TheVariants.{Unlaid, Tree}
use Rattle.report_entry.specs.declared.laying.NoLayouts.TheVariants.{Memory as LayoutMemory, Word, Unsought, Layout}
use Rattle.report_entry.specs.declared.laying.NoLayouts.TheVariants.{Tree as BadTree}
use Rattle.report_entry.specs.declared.reports.Reported.{Reported}
use Rattle.report_entry.specs.declared.reports.Refusal.{Refusal}
use Rattle.report_entry.specs.declared.reports.Refusal.TheVariants.{NoLayout, Memory as NoMemory, Short as TooShort}
use Rattle.report_entry.specs.declared.reports.Refusal.TheVariants.{NotFound, Unexplained, Unfinished, Undivided}
use Rattle.report_entry.specs.Answers.{IsAsked, Tells, ReportEnds}
use Rattle.report_entry.specs.Calls.{Given, Written, written, CallEnds, Reports}

same : (old new : List ℕ) (before after : ReportAnswer) → new ≡ old → after ≡ before
    → written new after ≡ written old before
same old new before after e f = ap (λ (x : List ℕ). written x after) e ∙ ap (λ (a : ReportAnswer). written old a) f

-- on a want of memory nothing was written
pub kept : (o : Result Reported Refusal) (old new : List ℕ) (before after : ReportAnswer)
    → Tells o Memory old new before after → written new after ≡ written old before
kept (Ok r) old new before after t = grind (arith, t)
kept (Err (NoLayout LayoutMemory)) old new before after t = same old new before after (search t) (search t)
kept (Err (NoLayout (Word f))) old new before after t = grind (arith, t)
kept (Err (NoLayout (Unsought k))) old new before after t = grind (arith, t)
kept (Err (NoLayout (Layout f))) old new before after t = grind (arith, t)
kept (Err (NoLayout (BadTree n))) old new before after t = grind (arith, t)
kept (Err NoMemory) old new before after t = same old new before after (search t) (search t)
kept (Err (TooShort n)) old new before after t = grind (arith, t)
kept (Err NotFound) old new before after t = grind (arith, t)
kept (Err (Unexplained h)) old new before after t = grind (arith, t)
kept (Err (Unfinished h)) old new before after t = grind (arith, t)
kept (Err (Undivided f)) old new before after t = grind (arith, t)

-- a report never says that an argument is outside its range
pub within : (o : Result Reported Refusal) (old new : List ℕ) (before after : ReportAnswer)
    → Tells o Argument old new before after → ⊥
within (Ok r) old new before after t = grind (arith, t)
within (Err (NoLayout LayoutMemory)) old new before after t = grind (arith, t)
within (Err (NoLayout (Word f))) old new before after t = grind (arith, t)
within (Err (NoLayout (Unsought k))) old new before after t = grind (arith, t)
within (Err (NoLayout (Layout f))) old new before after t = grind (arith, t)
within (Err (NoLayout (BadTree n))) old new before after t = grind (arith, t)
within (Err NoMemory) old new before after t = grind (arith, t)
within (Err (TooShort n)) old new before after t = grind (arith, t)
within (Err NotFound) old new before after t = grind (arith, t)
within (Err (Unexplained h)) old new before after t = grind (arith, t)
within (Err (Unfinished h)) old new before after t = grind (arith, t)
within (Err (Undivided f)) old new before after t = grind (arith, t)

pub call_ends : (T R U : Type 0) (end : ReportEnd) (words : List Text) (list : List (String Global)) (asked : Asked)
    (g : Given) (old new : List ℕ) (before after : ReportAnswer) → T → R → IsAsked g.name g.format asked
    → texts list ≡ words → ReportEnds end list asked g.tree g.image old new before after
    → CallEnds end T R U words g (written old before) (written new after)
call_ends T R U Argument words list asked g old new before after t r is are ends =
    absurd (within ends.outcome old new before after ends.told)
call_ends T R U Memory words list asked g old new before after t r is are ends =
    (kept ends.outcome old new before after ends.told, record { read = t; asked = asked; is_asked = is })
call_ends T R U Done words list asked g old new before after t r is are ends =
    record { read = r; asked = asked; is_asked = is; list = list; words_are = are; ends = ends }
call_ends T R U Fault words list asked g old new before after t r is are ends =
    record { read = r; asked = asked; is_asked = is; list = list; words_are = are; ends = ends }
call_ends T R U Short words list asked g old new before after t r is are ends =
    record { read = r; asked = asked; is_asked = is; list = list; words_are = are; ends = ends }
call_ends T R U Room words list asked g old new before after t r is are ends =
    record { read = r; asked = asked; is_asked = is; list = list; words_are = are; ends = ends }
call_ends T R U Unlaid words list asked g old new before after t r is are ends =
    record { read = r; asked = asked; is_asked = is; list = list; words_are = are; ends = ends }
call_ends T R U Tree words list asked g old new before after t r is are ends =
    record { read = r; asked = asked; is_asked = is; list = list; words_are = are; ends = ends }
