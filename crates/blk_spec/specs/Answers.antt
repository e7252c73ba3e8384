-- How the calls on a loaded block store answer, and what they leave
use Rattle.std.specs.Prelude.{◌≡◌, ◌≢◌, ◌⊎◌, ℕ, ◌+◌, ◌-◌, ◌^◌, ◌<◌, ◌≤◌, ◌==◌, min, if◌then◌else◌, List, [], ◌∷◌, ◌++◌}
use Rattle.std.specs.Prelude.{length, IfSome, Option, Some, None, Result, Ok, Err}
use Rattle.blk_spec.specs.declared.BlkLayout.{BlkLayout}
use Rattle.blk_spec.specs.declared.BlkFault.{BlkFault}
use Rattle.blk_spec.specs.declared.BlkFault.TheVariants.{StoreFault, Memory}
use Rattle.blk_spec.specs.declared.BlkCut.{BlkCut}
use Rattle.blk_spec.specs.declared.BlkCut.TheVariants.{Uncut}
use Rattle.blk_spec.specs.Writes.{Write, store_after, bytes_in, first_bytes, through, reaching, spent, asks_of}
use Rattle.blk_spec.specs.States.{BlkState, loaded, load_writes}

-- a store has at least n bytes, where it tells them
pub record HasRoom (n : ℕ) (store : Option (List ℕ)) : Type 0 where
  pub room : IfSome store (λ bytes. n ≤ length bytes)

-- a store at one moment: its bytes, where it tells them, how often it was asked to write, and how often its size was
-- not told or it was not read
pub record Device : Type 0 where
  pub holds : Option (List ℕ)
  pub writes : ℕ
  pub read_faults : ℕ

abbrev pub device : Option (List ℕ) → ℕ → ℕ → Device
device holds writes read_faults = record { holds = holds; writes = writes; read_faults = read_faults }

-- a count of 64 bits n calls later, or at its last value
abbrev pub further : ℕ → ℕ → ℕ
further n count = if n == 0 then count else min (count + n) (2 ^ 64 - 1)

-- all these writes were made, as far as the cut lets them through; each of these pieces asked the store once, and no
-- reading failed
pub record Makes (ws pieces : List Write) (old_cut new_cut : BlkCut) (old new : Device) : Type 0 where
  pub store : new.holds ≡ store_after (reaching old_cut ws) old.holds
  pub cut : new_cut ≡ spent (bytes_in ws) old_cut
  pub asked : new.writes ≡ further (asks_of old_cut pieces) old.writes
  pub unread : new.read_faults ≡ old.read_faults

-- A call of the store failed that wrote one of these pieces, of which at least one byte would have reached it. The
-- pieces before that one were made, as far as the cut lets them through, and those after it were not begun: the store
-- was asked for it last, and no reading failed. The bytes up to the last of that piece count as written; the store has
-- the first `kept`.
pub record FailsWithin (ws pieces : List Write) (old_cut new_cut : BlkCut) (old new : Device) : Type 0 where
  pub made : List Write
  pub failed : Write
  pub others : List Write
  pub tried : ℕ
  pub kept : ℕ
  pub parts : pieces ≡ made ++ failed ∷ others
  pub within : tried ≡ bytes_in made + length failed.bytes
  pub some : through old_cut (bytes_in made) < through old_cut tried
  pub least : through old_cut (bytes_in made) ≤ kept
  pub most : kept ≤ through old_cut tried
  pub store : new.holds ≡ store_after (first_bytes kept ws) old.holds
  pub cut : new_cut ≡ spent tried old_cut
  pub asked : new.writes ≡ further (asks_of old_cut (made ++ failed ∷ [])) old.writes
  pub unread : new.read_faults ≡ old.read_faults

-- the answer of a call with these writes in these pieces: refused for this cause where there is one; else done, and
-- then `next` stands but for its cut; or the store failed, and nothing but the cut is changed
abbrev pub Answers : Result Unit BlkFault → Option BlkFault → List Write → List Write → BlkState → BlkState → BlkState
    → Device → Device → Type 0
Answers (Ok done) refusal ws pieces next old new before now =
    (refusal ≡ None) × Makes ws pieces old.cut new.cut before now × (new ≡ record next { cut = new.cut })
Answers (Err StoreFault) refusal ws pieces next old new before now =
    (refusal ≡ None) × FailsWithin ws pieces old.cut new.cut before now × (new ≡ record old { cut = new.cut })
Answers (Err other) refusal ws pieces next old new before now =
    (refusal ≡ Some other) × (new ≡ old) × (now ≡ before)

-- the store has some of the first bytes of these writes
pub record HasFront (ws : List Write) (old new : Option (List ℕ)) : Type 0 where
  pub kept : ℕ
  pub within : kept ≤ bytes_in ws
  pub store : new ≡ store_after (first_bytes kept ws) old

-- the store was not asked to write
abbrev pub IsUnwritten : Device → Device → Type 0
IsUnwritten before now = (now.holds ≡ before.holds) × (now.writes ≡ before.writes)

-- a loading gives what the store's bytes are read as, where it tells them, and then erases the rings, with one write
-- each; where reading fails or memory is wanting, nothing was written, and a fault behind that is a write's
abbrev pub Loads : Result BlkState BlkFault → BlkLayout → Device → Device → Type 0
Loads (Ok b) l before now = (b.layout ≡ l) × IfSome before.holds (λ bytes. b ≡ loaded l bytes)
    × (now.holds ≡ store_after (load_writes l) before.holds) ×
    (now.writes ≡ further (length (load_writes l)) before.writes)
Loads (Err StoreFault) l before now =
    IsUnwritten before now ⊎ FailsWithin (load_writes l) (load_writes l) Uncut Uncut before now
Loads (Err Memory) l before now = IsUnwritten before now
Loads (Err other) l before now = ⊥

-- a count of faults is as before, unless the answer is a fault of the store
abbrev pub KeptUnlessFault : {T : Type 0} → Result T BlkFault → ℕ → ℕ → Type 0
KeptUnlessFault (Ok done) before now = now ≡ before
KeptUnlessFault (Err fault) before now = fault ≢ StoreFault → now ≡ before
