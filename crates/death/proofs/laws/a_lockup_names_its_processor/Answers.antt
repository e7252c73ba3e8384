-- The log computes
use Rattle.std.proofs.Common.{refl}
use Rattle.death_spec.specs.Marks.{front_in, front_of, place_of}
use Rattle.death_spec.specs.Fronts.{landmark_end, piece_len, past_pieces}
use Rattle.death_spec.specs.Lines.{line_of, lines_at, lines_from}
use Rattle.death_spec.specs.Telling.{last_of, last_opening, telling_line}
use Rattle.death_spec.specs.Causes.{stand_in, cause_in, open_below, last_found, cause_of}
use Rattle.death_spec.specs.Traces.{entries, is_passed, to_blame}
use Rattle.death_spec.specs.Reports.{first_where, named_from, last_two, death_of, trace_of}
use Rattle.death.proofs.laws.a_lockup_names_its_processor.Goals as goal

pub returns : goal.returns
unfolding front_in front_of place_of landmark_end piece_len past_pieces line_of lines_at lines_from last_of
    last_opening telling_line stand_in cause_in open_below last_found cause_of entries is_passed to_blame first_where
    named_from last_two death_of trace_of
returns c = refl
