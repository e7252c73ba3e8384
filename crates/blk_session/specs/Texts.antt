-- The texts of listed records
use Rattle.std.specs.Prelude.{ℕ, List, ◌++◌}
use Rattle.blk_spec.specs.declared.BlkName.{BlkName}
use Rattle.blk_spec.specs.States.{BlkState}
use Rattle.script_spec.specs.Texts.{newline}
use Rattle.script_spec.specs.BlkScripts.{blk_record_text, blk_time_text, record_time}

-- the line of a record
abbrev pub entry_text : BlkState → BlkName → List ℕ
entry_text b name = blk_record_text b name ++ blk_time_text (record_time b name) ++ newline
