-- Words whose unfolding unfolds what a row computes with
use Rattle.std.specs.Prelude.{ℕ}
use Rattle.code_spec.specs.Code.{nearest, is_codeword, distance}
use Rattle.zone_spec.specs.Layout.{power_within, rounded, zones_from, layout_of}
use Rattle.zone_spec.specs.Parts.{part_word, part_bytes}
use Rattle.zone_spec.specs.PartReadings.{part_reading}
use Rattle.zone_spec.specs.TimeLines.{read_line}
use Rattle.layout_spec.specs.Marks.{is_mark_in, is_mark, is_tagged_mark_in, is_tagged_mark, marks, first_order, byte_order_in}
use Rattle.layout_spec.specs.Marks.{header_of, zone_words, fits, log_front, is_odd}
use Rattle.layout_spec.specs.Order.{tally_of, key_by, is_before}

unfoldable pub computing : ℕ
unfolding power_within rounded zones_from part_reading part_word part_bytes nearest is_codeword distance read_line
    layout_of is_mark_in is_mark is_tagged_mark_in is_tagged_mark marks first_order byte_order_in
    header_of zone_words fits log_front is_odd tally_of key_by is_before
computing = 0
