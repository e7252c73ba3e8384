-- How an append to one ring answers, and the counters that are held
use Rattle.std.specs.Prelude.{◌≡◌, ◌≢◌, ℕ, List, Result, Ok, Err}
use Rattle.blk_spec.specs.declared.BlkZone.{BlkZone}
use Rattle.blk_spec.specs.declared.BlkCut.{BlkCut}
use Rattle.blk_spec.specs.declared.BlkFault.{BlkFault}
use Rattle.blk_spec.specs.declared.BlkFault.TheVariants.{StoreFault, NoZone}
use Rattle.blk_spec.specs.Rings.{append_writes, words_after}
use Rattle.blk_spec.specs.Answers.{Device, Makes, FailsWithin}
use Rattle.zone_blk.specs.declared.blk.Ring.{Ring}
use Rattle.zone_blk.specs.declared.blk.Counters.{Counters as CountersHeld}
use Rattle.blk_spec.specs.Dumps.{Counters}

abbrev pub RingAnswers : Result Unit BlkFault → BlkZone → List ℕ → Ring → Ring → BlkCut → BlkCut → Device → Device
    → Type 0
RingAnswers (Ok done) z payload old new old_cut new_cut before now =
    (z.size ≢ 0) × Makes (append_writes z old.words payload) (append_writes z old.words payload) old_cut new_cut
    before now
    × (new ≡ record old { words = words_after z old.words payload })
RingAnswers (Err StoreFault) z payload old new old_cut new_cut before now =
    (z.size ≢ 0) × FailsWithin (append_writes z old.words payload) (append_writes z old.words payload) old_cut new_cut
    before now × (new ≡ old)
RingAnswers (Err NoZone) z payload old new old_cut new_cut before now =
    (z.size ≡ 0) × (new ≡ old) × (new_cut ≡ old_cut) × (now ≡ before)
RingAnswers (Err other) z payload old new old_cut new_cut before now = ⊥

abbrev pub counters_seen : CountersHeld → Counters
counters_seen held = record { panics = held.panics; oopses = held.oopses }
