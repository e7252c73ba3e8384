-- What a line asks of the store: how often to write, and what it was asked for last where it failed
use Rattle.std.specs.Prelude.{◌⊎◌, ℕ, ◌+◌, List, [], ◌∷◌, length, Option, Some, None}
use Rattle.blk_spec.specs.declared.BlkLayout.{BlkLayout}
use Rattle.blk_spec.specs.declared.BlkCut.{BlkCut}
use Rattle.blk_spec.specs.declared.BlkCut.TheVariants.{Uncut}
use Rattle.blk_spec.specs.Writes.{Write, asks_of}
use Rattle.blk_spec.specs.States.{BlkState, load_writes, append_of, dump_of, dump_pieces_of, erase_of}
use Rattle.blk_spec.specs.Session.{Operation, Load, Append, Dump, Erase}
use Rattle.blk_spec.specs.Answers.{Device, FailsWithin, IsUnwritten}
use Rattle.grammar_spec.specs.declared.line.Line.{Line}
use Rattle.script_spec.specs.BlkScripts.{operation_of, BlkRan, blk_next_line, blk_started}

-- ---- how often to write: once for each piece of which a byte reaches the store

abbrev pub asks_loaded : BlkState → Operation → ℕ
asks_loaded b Load = length (load_writes b.layout)
asks_loaded b (Append ring payload) = asks_of b.cut (append_of b ring payload)
asks_loaded b (Dump time packed reason body) = asks_of b.cut (dump_pieces_of b time packed reason body)
asks_loaded b (Erase (Some name)) = asks_of b.cut (erase_of b name)
asks_loaded b other = 0

abbrev pub asks_off : BlkLayout → Operation → ℕ
asks_off layout Load = length (load_writes layout)
asks_off layout other = 0

abbrev pub asks_by : BlkLayout → Option BlkState → Operation → ℕ
asks_by layout None operation = asks_off layout operation
asks_by layout (Some b) operation = asks_loaded b operation

abbrev pub asks_if : BlkLayout → Option BlkState → Option Operation → ℕ
asks_if layout old None = 0
asks_if layout old (Some operation) = asks_by layout old operation

abbrev pub line_asks : BlkLayout → Option BlkState → Line → ℕ
line_asks layout old line = asks_if layout old (operation_of old line)

-- lines one after another, from what was done before them on
unfoldable pub asks_from : BlkLayout → BlkRan → List Line → ℕ
asks_from layout ran [] = 0
asks_from layout ran (line ∷ lines) =
    line_asks layout ran.session.blk line + asks_from layout (blk_next_line layout ran line) lines

-- of a script on a store's bytes
abbrev pub lines_ask : BlkLayout → List ℕ → List Line → ℕ
lines_ask layout store lines = asks_from layout (blk_started store) lines

-- ---- where the store failed

-- within one of these pieces
pub record FailsIn (ws pieces : List Write) (cut : BlkCut) (before now : Device) : Type 0 where
  pub after : BlkCut
  pub within : FailsWithin ws pieces cut after before now

-- a loading: as it was read, before any write, or within a write
abbrev pub LoadingFails : BlkLayout → Device → Device → Type 0
LoadingFails layout before now =
    IsUnwritten before now ⊎ FailsWithin (load_writes layout) (load_writes layout) Uncut Uncut before now

abbrev pub FailsLoaded : BlkState → Operation → Device → Device → Type 0
FailsLoaded b Load before now = LoadingFails b.layout before now
FailsLoaded b (Append ring payload) before now =
    FailsIn (append_of b ring payload) (append_of b ring payload) b.cut before now
FailsLoaded b (Dump time packed reason body) before now =
    FailsIn (dump_of b time packed reason body) (dump_pieces_of b time packed reason body) b.cut before now
FailsLoaded b (Erase (Some name)) before now = FailsIn (erase_of b name) (erase_of b name) b.cut before now
FailsLoaded b other before now = ⊥

abbrev pub FailsOff : BlkLayout → Operation → Device → Device → Type 0
FailsOff layout Load before now = LoadingFails layout before now
FailsOff layout other before now = ⊥

abbrev pub FailsBy : BlkLayout → Option BlkState → Operation → Device → Device → Type 0
FailsBy layout None operation before now = FailsOff layout operation before now
FailsBy layout (Some b) operation before now = FailsLoaded b operation before now

abbrev pub FailsIf : BlkLayout → Option BlkState → Option Operation → Device → Device → Type 0
FailsIf layout old None before now = ⊥
FailsIf layout old (Some operation) before now = FailsBy layout old operation before now

abbrev pub FailsAtLine : BlkLayout → Option BlkState → Line → Device → Device → Type 0
FailsAtLine layout old line before now = FailsIf layout old (operation_of old line) before now
