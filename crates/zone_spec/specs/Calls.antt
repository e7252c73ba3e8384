-- Calls as stores, in the order of fs/pstore/ram_core.c (persistent_ram_write, persistent_ram_zap; a
-- dump as ramoops_pstore_write)
use Rattle.std.specs.Prelude.{◌≡◌, ℕ, ◌+◌, ◌-◌, ◌%◌, ◌<◌, min, if◌then◌else◌, ◌==◌, List, [], ◌∷◌, ◌++◌, length, take}
use Rattle.std.specs.Prelude.{drop, map, flat_map}
use Rattle.zone_spec.specs.declared.Zone.{Zone}
use Rattle.zone_spec.specs.declared.Words.{Words}
use Rattle.zone_spec.specs.Parts.{Header, Block, AreBytes, standing_words}
use Rattle.zone_spec.specs.Told.{Call, Append, Erase, Dump, last_items}
use Rattle.zone_spec.specs.Stores.{Store, after_stores}
use Rattle.zone_spec.specs.Stages.{Stage, StartWord, SizeWord, Run, ParityOf, stores_in_turn, blocks_met}
use Rattle.zone_spec.specs.Ring.{IsOpen}

-- a run, and then the parity of each block that it meets; nothing where there are no bytes
abbrev pub run_stages : Zone → ℕ → List ℕ → List Stage
run_stages z place [] = []
run_stages z place (b ∷ bs) = Run place (b ∷ bs) ∷ map (λ k. ParityOf (Block k)) (blocks_met z place (length (b ∷ bs)))

-- an append of at most cap bytes to a ring with this start and size; of no bytes it is nothing
abbrev pub append_stages : Zone → ℕ → ℕ → List ℕ → List Stage
append_stages z start size [] = []
append_stages z start size (b ∷ bs) =
    let bytes = b ∷ bs in
    (if size == z.cap then [] else SizeWord (min z.cap (size + length bytes)) ∷ [])
    ++ StartWord ((start + length bytes) % z.cap) ∷ []
    ++ run_stages z start (take (z.cap - start) bytes)
    ++ run_stages z 0 (drop (z.cap - start) bytes)
    ++ ParityOf Header ∷ []

-- an erasure
abbrev pub erase_stages : List Stage
erase_stages = StartWord 0 ∷ SizeWord 0 ∷ ParityOf Header ∷ []

-- the parts of a call, each with its stages: a dump erases, and then appends the line and the body's
-- front, to a ring that is not full
abbrev pub call_parts : Zone → Words → Call → List (List Stage)
call_parts z w (Append payload) = append_stages z w.start w.size (last_items z.cap payload) ∷ []
call_parts z w Erase = erase_stages ∷ []
call_parts z w (Dump line body) =
    erase_stages ∷ append_stages z 0 0 line ∷ append_stages z (length line) (length line)
    (take (z.cap - length line) body) ∷ []

-- the stages of the parts, end to end
abbrev pub call_stages : Zone → Words → Call → List Stage
call_stages z w call = flat_map (λ part. part) (call_parts z w call)

-- the stores of a call on a zone's image
unfoldable pub call_stores : Zone → Call → List ℕ → List Store
call_stores z call image = stores_in_turn z (call_stages z (standing_words z image) call) image

-- the image after the first k stores of a call
abbrev pub image_after : Zone → Call → List ℕ → ℕ → List ℕ
image_after z call image k = after_stores image (take k (call_stores z call image))

-- what a call asks of a zone in ring form: an append wants a ring that can be appended to, a dump a line
-- shorter than the zone
abbrev pub CanBegin : Zone → List ℕ → Call → Type 0
CanBegin z image (Append payload) = IsOpen (standing_words z image) z.cap × AreBytes payload
CanBegin z image Erase = Unit {0}
CanBegin z image (Dump line body) = (0 < length line) × (length line < z.cap) × AreBytes line × AreBytes body

-- now is what a zone's image became by the first made stores of a call, and left are the stores that come
pub record IsUnderway (z : Zone) (call : Call) (before now : List ℕ) (made : ℕ) (left : List Store) : Type 0 where
  pub done : List Store
  pub whole : call_stores z call before ≡ done ++ left
  pub image : now ≡ after_stores before done
  pub count : made ≡ length done
