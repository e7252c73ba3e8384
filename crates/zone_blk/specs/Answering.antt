-- How the reading of a record answers, and what holds of each loaded store
use Rattle.std.specs.Prelude.{◌≡◌, ℕ, List, Option, Some, None, IsSome, Result, Ok, Err}
use Rattle.blk_spec.specs.declared.BlkFault.{BlkFault}
use Rattle.blk_spec.specs.declared.BlkFault.TheVariants.{Memory, NoRecord}
use Rattle.blk_spec.specs.States.{BlkState}
use Rattle.zone_blk.specs.Loaded.{IsLoaded}

-- a content is the record's; there is none exactly where no record is listed
abbrev pub IsContent : Result (List ℕ) BlkFault → Option (List ℕ) → Type 0
IsContent (Ok bytes) content = content ≡ Some bytes
IsContent (Err NoRecord) content = content ≡ None
IsContent (Err Memory) content = IsSome content
IsContent (Err other) content = ⊥

abbrev pub IsLoadedState : BlkState → Type 0
IsLoadedState b = IsLoaded b.layout b.console b.pmsg b.dumps b.cursor
