-- The logs compute
use Rattle.std.proofs.Common.{refl}
use Rattle.death_spec.specs.Marks.{front_in, front_of, place_of}
use Rattle.death_spec.specs.Fronts.{landmark_end, piece_len, past_pieces}
use Rattle.death_spec.specs.Lines.{line_of, lines_at, lines_from}
use Rattle.death_spec.specs.Telling.{last_of, last_opening, telling_line}
use Rattle.death_spec.specs.Causes.{stand_in, cause_in, open_below, last_found, cause_of}
use Rattle.death_spec.specs.Traces.{entries, is_passed, to_blame}
use Rattle.death_spec.specs.Reports.{first_where, named_from, last_two, death_of, trace_of}
use Rattle.death.proofs.laws.reports_of_others_are_left_out.Goals as goal

pub returns-clause-processor : goal.returns-clause-processor
unfolding front_in front_of place_of landmark_end piece_len past_pieces line_of lines_at lines_from last_of
    last_opening telling_line stand_in cause_in open_below last_found cause_of entries is_passed to_blame first_where
    named_from last_two death_of trace_of
returns-clause-processor c = refl

pub returns-clause-task : goal.returns-clause-task
unfolding front_in front_of place_of landmark_end piece_len past_pieces line_of lines_at lines_from last_of
    last_opening telling_line stand_in cause_in open_below last_found cause_of entries is_passed to_blame first_where
    named_from last_two death_of trace_of
returns-clause-task c = refl

pub returns-clause-before : goal.returns-clause-before
unfolding front_in front_of place_of landmark_end piece_len past_pieces line_of lines_at lines_from last_of
    last_opening telling_line stand_in cause_in open_below last_found cause_of entries is_passed to_blame first_where
    named_from last_two death_of trace_of
returns-clause-before c = refl

pub returns-clause-processors : goal.returns-clause-processors
unfolding front_in front_of place_of landmark_end piece_len past_pieces line_of lines_at lines_from last_of
    last_opening telling_line stand_in cause_in open_below last_found cause_of entries is_passed to_blame first_where
    named_from last_two death_of trace_of
returns-clause-processors c = refl
