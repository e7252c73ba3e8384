-- What stands in the image where a read of it failed
use Rattle.std.specs.Prelude.{◌≡◌, ◌⊎◌, ℕ, List, Option, Some, Result, Ok, Err}
use Rattle.blk_spec.specs.declared.BlkLayout.{BlkLayout}
use Rattle.blk_spec.specs.Answers.{Device, IsUnwritten}
use Rattle.grammar_spec.specs.declared.line.Line.{Line}
use Rattle.command_spec.specs.Commands.{Plan, OfBlk}
use Rattle.command_spec.specs.BlkAnswers.{blk_lines}
use Rattle.command_spec.specs.declared.Stop.{Stop}
use Rattle.blk_session.specs.Playing.{StopsLoading}

-- the image is as it was and no write was asked for, or no read failed
abbrev pub UnwrittenOrRead : Device → Device → Type 0
UnwrittenOrRead before now = IsUnwritten before now ⊎ (now.read_faults ≡ before.read_faults)

-- some of these lines were done, and the next is to load the store, of which nothing was written
abbrev pub StopsAtLoad : BlkLayout → List ℕ → Result (List Line) Stop → Device → Device → Type 0
StopsAtLoad layout bytes (Ok lines) before now = StopsLoading layout bytes lines before now
StopsAtLoad layout bytes (Err stop) before now = ⊥

-- a script on the block store reads at its lines `boot` too, behind lines that wrote
abbrev pub PlanUnread : Result Plan Stop → Option (List ℕ) → Device → Device → Type 0
PlanUnread (Ok (OfBlk layout)) left before now = (bytes script : List ℕ) → before.holds ≡ Some bytes
    → left ≡ Some script
    → UnwrittenOrRead before now ⊎ StopsAtLoad layout bytes (blk_lines layout bytes script) before now
PlanUnread other left before now = UnwrittenOrRead before now
