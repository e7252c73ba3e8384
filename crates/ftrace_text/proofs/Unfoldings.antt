-- A word whose unfolding unfolds what a row computes with
use Rattle.std.specs.Fmt.{digits}
use Rattle.std.specs.Prelude.{ℕ}
use Rattle.ftrace_spec.specs.Forms.{long_entries, trace_by, trace_of, falls_after}
use Rattle.ftrace_spec.specs.Lines.{sixteen, hexadecimal, function_text, place_text, head_by, trace_text}
use Rattle.symbol_spec.specs.Functions.{function_in}
use Rattle.symbol_spec.specs.Maps.{symbols_from}
use Rattle.symbol_spec.specs.Shifts.{function_above}

unfoldable pub computing : ℕ
unfolding digits long_entries trace_by trace_of falls_after sixteen hexadecimal function_text place_text head_by
    trace_text function_in symbols_from function_above
computing = 0
