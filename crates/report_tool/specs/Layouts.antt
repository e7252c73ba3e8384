-- Words read with the memory size as given or rounded, whether it was rounded, and whether they say nothing of the
-- order of the zones
use Rattle.std.specs.Prelude.{ℕ, Bool, true, false, not, ◌==◌, List, Result, codes, is_none, Option, Some, None}
use Rattle.std.specs.declared.string.String.{String}
use Rattle.std.specs.declared.alloc.Global.{Global}
use Rattle.zone_spec.specs.declared.params.Params.{Params}
use Rattle.grammar_spec.specs.declared.faults.ParamFault.{ParamFault}
use Rattle.grammar_spec.specs.Words.{texts}
use Rattle.grammar_spec.specs.ZoneWords.{read_of, read_as_given, given}

abbrev pub read_by : Bool → List (String Global) → Result Params ParamFault
read_by true words = read_as_given words
read_by false words = read_of words

abbrev pub is_open_by : List (String Global) → Bool
is_open_by words = is_none (given (texts words) (codes "order"))

abbrev pub is_other : ℕ → Option ℕ → Bool
is_other mem None = false
is_other mem (Some size) = not (size == mem)

-- whether a word gives another memory size than this one
abbrev pub is_rounded_by : List (String Global) → ℕ → Bool
is_rounded_by words mem = is_other mem (given (texts words) (codes "mem_size"))
