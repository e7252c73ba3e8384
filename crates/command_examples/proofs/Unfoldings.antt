-- A word whose unfolding unfolds what a row computes with
use Rattle.std.specs.Prelude.{ℕ}
use Rattle.hex.specs.Hex.{decode_pairs}
use Rattle.grammar_spec.specs.Numbers.{number_of}
use Rattle.grammar_spec.specs.Words.{first_fault, value_text, given}
use Rattle.grammar_spec.specs.Fields.{number_below, zone_at, ring, zone, payload, message, some_bytes, flag, reason}
use Rattle.grammar_spec.specs.Fields.{name}
use Rattle.grammar_spec.specs.Groups.{ring_hex, time_flag_hex, one_zone, one_number, one_name, one_message}
use Rattle.grammar_spec.specs.Groups.{one_some_bytes}
use Rattle.grammar_spec.specs.Rows.{step_line, flip_line, kdump_line, crash_line, store_line as store_row, begin_row}
use Rattle.grammar_spec.specs.Rows.{begin_line, plain_row, row, lone_word}
use Rattle.grammar_spec.specs.Lines.{line_of, lines_from, script_of}
use Rattle.zone_examples.proofs.Unfoldings.{computing_all}
use Rattle.kmsg_spec.specs.Bodies.{last_lines}
use Rattle.script_spec.specs.Scripts.{store_line, line_done}
use Rattle.script_spec.specs.Generated.{draw, draw_over, drawn_number, draws}
use Rattle.command_spec.specs.Commands.{with_to}
use Rattle.script_spec.specs.SharedScripts.{with_steps, shared_line}
use Rattle.shared_spec.specs.Calls.{since_oldest_open}
use Rattle.shared_spec.specs.Machine.{open_calls_from}
use Rattle.shared_spec.specs.Runs.{shared_after}
use Rattle.salvage_spec.specs.Rings.{shapes, ring_in, ring_at, rings}
use Rattle.blk_spec.specs.Layout.{layout_of}
use Rattle.blk_spec.specs.Writes.{after_writes, bytes_in, first_bytes}
use Rattle.blk_spec.specs.Rings.{kept_writes, append_writes, words_after}
use Rattle.blk_spec.specs.Dumps.{dump_writes}
use Rattle.blk_spec.specs.Reading.{saved_ring, listed_dump, dumps_listed, greatest_counter}
use Rattle.blk_spec.specs.Names.{dump_content}
use Rattle.blk_spec.specs.States.{load_writes, names_of, content_of, time_of}
use Rattle.blk_spec.specs.Session.{cause_of, session_after}
use Rattle.script_spec.specs.BlkScripts.{operation_of, blk_line_done}

unfoldable pub computing_tool : ℕ
unfolding computing_all decode_pairs number_of first_fault value_text given number_below zone_at ring zone payload
    message some_bytes flag reason name ring_hex time_flag_hex one_zone one_number one_name one_message one_some_bytes
    step_line flip_line kdump_line crash_line store_row begin_row begin_line plain_row row lone_word line_of lines_from
    script_of last_lines store_line line_done draw draw_over drawn_number draws
computing_tool = 0

-- these too: for the block store
unfoldable pub computing_blk : ℕ
unfolding computing_tool layout_of after_writes bytes_in first_bytes kept_writes append_writes words_after dump_writes
    saved_ring listed_dump dumps_listed greatest_counter dump_content load_writes names_of content_of time_of cause_of
    session_after operation_of blk_line_done
computing_blk = 0

-- these too: for moves and shared zones
unfoldable pub computing_calls : ℕ
unfolding computing_tool with_to with_steps shared_line since_oldest_open open_calls_from shared_after
computing_calls = 0

-- these too: for the rings of a dump
unfoldable pub computing_rings : ℕ
unfolding computing_tool shapes ring_in ring_at rings
computing_rings = 0
