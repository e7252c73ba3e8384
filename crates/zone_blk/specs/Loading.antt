-- How a reading of the store ends, and where its dumps lie
use Rattle.std.specs.Prelude.{◌≡◌, ℕ, ◌<◌, Result, Ok, Err}
use Rattle.outside.specs.Outside.{Rose}
use Rattle.blk_spec.specs.declared.BlkFault.{BlkFault}
use Rattle.blk_spec.specs.declared.BlkFault.TheVariants.{StoreFault, Memory}
use Rattle.blk_spec.specs.declared.BlkLayout.{BlkLayout}
use Rattle.blk_spec.specs.Reading.{BlkDump}

-- a reading is done, finds no memory, or fails: the counts of faults and of failed readings, before and after
abbrev pub ReadEnds : {T : Type 0} → Result T BlkFault → ℕ → ℕ → ℕ → ℕ → Type 0
ReadEnds (Ok read) faults faults' fails fails' = (faults' ≡ faults) × (fails' ≡ fails)
ReadEnds (Err StoreFault) faults faults' fails fails' = Rose faults faults'
ReadEnds (Err Memory) faults faults' fails fails' = faults' ≡ faults
ReadEnds (Err other) faults faults' fails fails' = ⊥

-- a dump of one of the layout's zones
abbrev pub IsIn : BlkLayout → BlkDump → Type 0
IsIn l d = d.index < l.dumps
