-- How a function that writes to the store ends
use Rattle.std.specs.Prelude.{ℕ, List, [], ◌∷◌, Result, Ok, Err}
use Rattle.outside.specs.declared.outside.Failed.{Failed}
use Rattle.blk_spec.specs.declared.BlkCut.{BlkCut}
use Rattle.blk_spec.specs.Writes.{Write}
use Rattle.blk_spec.specs.Answers.{Device, Makes, FailsWithin}

-- all writes were made in these pieces, or the store failed within them
abbrev pub EndsAs : {T : Type 0} → Result T Failed → List Write → List Write → BlkCut → BlkCut → Device → Device →
    Type 0
EndsAs (Ok done) ws pieces old_cut new_cut old new = Makes ws pieces old_cut new_cut old new
EndsAs (Err failed) ws pieces old_cut new_cut old new = FailsWithin ws pieces old_cut new_cut old new

-- each write is one piece
abbrev pub Ends : {T : Type 0} → Result T Failed → List Write → BlkCut → BlkCut → Device → Device → Type 0
Ends result ws old_cut new_cut old new = EndsAs result ws ws old_cut new_cut old new

-- one write of bytes from a place on
abbrev pub one_write : ℕ → List ℕ → List Write
one_write at bytes = record { at = at; bytes = bytes } ∷ []
