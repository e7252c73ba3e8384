-- The lines that tell why the machine died, and those around them
use Rattle.std.specs.Prelude.{ℕ, Bool, true, false, max, List, ◌++◌, Option, Some, None}
use Rattle.std.specs.List.{fold}
use Rattle.death_spec.specs.declared.Line.{Line}
use Rattle.death_spec.specs.declared.Span.{Span}
use Rattle.death_spec.specs.declared.Death.{Death}
use Rattle.death_spec.specs.Lines.{part, lines_from}
use Rattle.death_spec.specs.Reports.{trace_of}
use Rattle.report_spec.specs.Doubts.{doubts_between}
use Rattle.report_spec.specs.Excerpts.{place_above, next_at, below}
use Rattle.report_text.specs.Pieces.{Part}
use Rattle.report_text.specs.Tails.{seen_lines}

abbrev pub log_parts : List Bool → List ℕ → (from to : ℕ) → List Part
log_parts doubts text from to = seen_lines false (doubts_between doubts from to) (part text from to)

-- a line that tells
abbrev pub marked_parts : List Bool → List ℕ → Line → List Part
marked_parts doubts text line =
    seen_lines true (doubts_between doubts line.start line.next) (part text line.start line.next)

-- where the last of these functions ends
abbrev pub last_end : List Span → ℕ
last_end spans = fold (λ (end : ℕ) (s : Span). max end s.end) 0 spans

-- the end of the line in which the call trace ends
abbrev pub trace_end : List ℕ → ℕ
trace_end text = next_at (last_end (trace_of text)) (lines_from text (last_end (trace_of text)))

-- so many lines below a place, and the call trace to its end
abbrev pub end_below : List ℕ → ℕ → ℕ → ℕ
end_below text at most = max (below text at most) (trace_end text)

abbrev pub rest_parts : List Bool → List ℕ → ℕ → ℕ → Option Line → List Part
rest_parts doubts text most at None = log_parts doubts text at (end_below text at most)
rest_parts doubts text most at (Some line) =
    log_parts doubts text at line.start ++ marked_parts doubts text line
    ++ log_parts doubts text line.next (end_below text line.next most)

-- eight lines above the telling line, and below the last line that tells so many, and the call trace
abbrev pub around_parts : List Bool → List ℕ → ℕ → Death → List Part
around_parts doubts text most d =
    log_parts doubts text (place_above text d.telling.start 8) d.telling.start ++ marked_parts doubts text d.telling
    ++ rest_parts doubts text most d.telling.next d.second
