-- Words in a line, and what becomes of them
use Rattle.std.specs.Prelude.{ℕ, List, [], ◌++◌, ◌==◌, length, codes, flat_map, Option, None, Result, Ok, Err}
use Rattle.std.specs.List.{slice_split}
use Rattle.blk_spec.specs.declared.BlkLayout.{BlkLayout}
use Rattle.grammar_spec.specs.Fields.{Text}
use Rattle.grammar_spec.specs.declared.line.Line.{Line}
use Rattle.command_spec.specs.Ends.{End, status_of, last_line}
use Rattle.command_spec.specs.Commands.{Plan, OfRam, OfBlk, OfMove, plan_of, Wanted, wanted, wanted_move, script_end}
use Rattle.script_spec.specs.BlkScripts.{BlkRan, blk_ran}
use Rattle.command_spec.specs.BlkAnswers.{blk_lines}
use Rattle.command_spec.specs.declared.Stop.{Stop}

-- the words of a line, one space between two
abbrev pub words : Text → List Text
words line = slice_split (λ b. b == 0x20) line

-- the text that is wanted, with the last line, and the status
abbrev pub last_of : End → Text
last_of (Ok u) = []
last_of (Err stop) = last_line stop

abbrev pub shown : Wanted → Text × ℕ
shown w = (flat_map (λ text. text) w.texts ++ last_of w.end, status_of w.end)

abbrev pub blk_shown : BlkRan → Text × ℕ
blk_shown r =
    let end = script_end (length r.texts) r.refused in
    (flat_map (λ text. text) r.texts ++ last_of end, status_of end)

abbrev pub stop_shown : Stop → Text × ℕ
stop_shown stop = (last_line stop, status_of (Err stop))

abbrev pub lines_shown : BlkLayout → List ℕ → Result (List Line) Stop → Text × ℕ
lines_shown layout store (Ok lines) = blk_shown (blk_ran layout store lines)
lines_shown layout store (Err stop) = stop_shown stop

abbrev pub planned_shown : Result Plan Stop → List ℕ → List ℕ → Text × ℕ
planned_shown (Ok (OfRam plan)) image script = shown (wanted plan image script)
planned_shown (Ok (OfBlk layout)) store script = lines_shown layout store (blk_lines layout store script)
planned_shown (Ok (OfMove plan)) image script = shown (wanted_move plan image)
planned_shown (Err stop) image script = stop_shown stop

-- what the tool shows of these words, on an image and a script
abbrev pub told : Text → List ℕ → List ℕ → Text × ℕ
told line image script = planned_shown (plan_of (words line)) image script

-- the bytes that it then writes to the front of the image; a block store's lines write as they are done
abbrev pub planned_written : Result Plan Stop → List ℕ → List ℕ → Option (List ℕ)
planned_written (Ok (OfRam plan)) image script = (wanted plan image script).writes
planned_written (Ok (OfBlk layout)) store script = None
planned_written (Ok (OfMove plan)) image script = (wanted_move plan image).writes
planned_written (Err stop) image script = None

abbrev pub written : Text → List ℕ → List ℕ → Option (List ℕ)
written line image script = planned_written (plan_of (words line)) image script

abbrev pub lone : Text
lone = codes "mem_size=4096 record_size=0 ftrace_size=0 pmsg_size=0"

-- what a script on a block store of 16384 bytes shows: both rings, and two dump zones
abbrev pub blk_told : List ℕ → List ℕ → Text × ℕ
blk_told store script =
    told (codes "store blk-run total_size=16384 kmsg_size=4096 console_size=4096 pmsg_size=4096") store script
